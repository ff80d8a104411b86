use Rattle.std.proofs.Common.{◌≡◌, ◌-◌, rules, ltb, leb, length, take, drop, sym, ap, subst, ◌∙◌}
use Rattle.std.proofs.Math.Seq.{take-length}
use Rattle.std.specs.List.Sorted.{IsNonDecreasingBy}
use Rattle.std.proofs.lemmas.List.{length-drop}
use Rattle.std.proofs.lemmas.List.Sorted.{IsPartitionPoint-from_clause, IsPartitionedBy-ltb, IsPartitionedBy-leb, IsNonDecreasingBy-drop}
use Rattle.store_migration.specs.declared.grouped.IssuersEntry.{IssuersEntry}
use Rattle.store_migration.proofs.ByIssuer.{run_behind}
use Rattle.store_migration.proofs.grouping.run_of.Goals as goal

pub returns : goal.returns
returns c =
    let xs = c.args.sorted.now in
    let id = c.args.issuer in
    let start = c.partition_point-start.result in
    let end = c.partition_point-end.result in
    let behind = take (length xs - start) (drop start xs) in
    let same : behind ≡ drop start xs = ap (λ n. take n (drop start xs)) (sym (length-drop start xs)) ∙ take-length (drop start xs) in
    let rise : IsNonDecreasingBy (λ (entry : IssuersEntry). entry.issuer) behind = subst (IsNonDecreasingBy (λ (entry : IssuersEntry). entry.issuer)) (sym same) (IsNonDecreasingBy-drop (λ (entry : IssuersEntry). entry.issuer) start xs c.requires) in
    run_behind xs behind start end id same c.partition_point-start.ensures.bound
    (IsPartitionPoint-from_clause (λ entry. ltb entry.issuer id) xs start c.partition_point-start.ensures.partitioned (IsPartitionedBy-ltb (λ (entry : IssuersEntry). entry.issuer) xs id c.requires) (λ a r f' called. search rules))
    (IsPartitionPoint-from_clause (λ entry. leb entry.issuer id) behind end c.partition_point-end.ensures.partitioned (IsPartitionedBy-leb (λ (entry : IssuersEntry). entry.issuer) behind id rise) (λ a r f' called. search rules))
