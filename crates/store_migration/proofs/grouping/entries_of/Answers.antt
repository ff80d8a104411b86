use Rattle.std.proofs.Common.{◌≡◌, arith, length, map, take, sym, ap, ◌∙◌}
use Rattle.std.proofs.Math.Seq.{take-length}
use Rattle.statements_facts.specs.Listed.{seen_listed}
use Rattle.store_migration.specs.declared.grouped.IssuersEntry.{IssuersEntry}
use Rattle.store_migration.proofs.ByIssuer.{under}
use Rattle.store_migration.proofs.grouping.entries_of.Goals as goal

pub returns : goal.returns
returns c =
    let run = c.run_of-run.result.now in
    let whole : c.each.entry-index ≡ length run = omega arith in
    c.each.invariant
    ∙ ap (λ n. map (λ (entry : IssuersEntry). seen_listed entry.listed) (take n run)) whole
    ∙ ap (map (λ (entry : IssuersEntry). seen_listed entry.listed)) (take-length run ∙ c.run_of-run.ensures)
    ∙ sym (under c.args.sorted.now c.args.issuer)
