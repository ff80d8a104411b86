use Rattle.std.proofs.Common.{◌≡◌, slice_index_or, ltb, Some, arith, rules, sym, ap, ◌∙◌, inl, inr}
use Rattle.std.proofs.lemmas.Bool.{cases_lt}
use Rattle.std.proofs.lemmas.List.Sorted.{IsPartitionPoint-from_clause, IsPartitionedBy-ltb}
use borrow.Author.Tests.{ltb-true, ltb-false}
use Rattle.store_listing.specs.declared.held.HeldIssuer.{HeldIssuer}
use Rattle.store_listing.specs.Listing.{seen_held_issuer}
use Rattle.cli_listing.proofs.Under.{rises, missing, standing, nothing_there}
use Rattle.cli_listing.proofs.issuer.issuer_under.Goals as goal
use Rattle.cli_listing.proofs.issuer.issuer_under.Goals.{in_default-via-in-Some+else-issuer-id, in_default-via-in_default}

pub returns-in-Some : goal.returns-in-Some
returns-in-Some c rise =
    let xs = c.args.issuers.now in
    let at = c.partition_point-at.result in
    let here = c.in-Some.issuer.now in
    let found = c.in-Some.ensures.lookup in
    let same : slice_index_or xs at here ≡ here = sym found.1 in
    let is : (slice_index_or xs at here).id ≡ c.args.id = ap (λ (x : HeldIssuer). x.id) same ∙ c.if-issuer-id.true in
    sym (standing xs c.args.id at here rise found.3.0 is ∙ ap (λ (x : HeldIssuer). Some (seen_held_issuer x)) same)

pub returns-in_default : goal.returns-in_default
returns-in_default c rise =
    let xs = c.args.issuers.now in
    let id = c.args.id in
    let at = c.partition_point-at.result in
    let point = IsPartitionPoint-from_clause (λ (issuer : HeldIssuer). ltb issuer.id id) xs at c.partition_point-at.ensures.partitioned (IsPartitionedBy-ltb (λ (issuer : HeldIssuer). issuer.id) xs id (rises xs rise)) (λ a r f' called. search rules) in
    sym (missing xs id (λ k d low is. elim (cases_lt k at) [
      | inl before ↦ (let less = ltb-true (slice_index_or xs k d).id id (point.0 k d (omega arith) before) in omega (arith, less, is))
      | inr behind ↦ elim c.in_default.branch [
        | in_default-via-in-Some+else-issuer-id w ↦ (
            let looked = w.in-Some.ensures.lookup in
            let here : w.in-Some.issuer.now ≡ slice_index_or xs at d = looked.4 (omega arith) d in
            let reached = ltb-false (slice_index_or xs at d).id id (point.1 at d (omega arith) looked.3.0) in
            let order = rises xs rise at k d behind low in
            let same : (slice_index_or xs at d).id ≡ id = omega (arith, reached, order, is) in
            w.if-issuer-id.false (ap (λ (x : HeldIssuer). x.id) here ∙ same))
        | in_default-via-in_default w ↦ nothing_there c.get.result (c.get.ensures.lookup.2 (omega (arith, behind, low))) w.in_default.not-Some
      ]
    ]))
