use Rattle.std.proofs.Common.{◌≡◌, ◌<◌, ◌+◌, ◌-◌, ◌||◌, length, get_or, refl, sym, ap, ◌∙◌, arith}
use Rattle.std.proofs.lemmas.List.{length-map}
use Rattle.path_policies.specs.Query.{certificate_numbered, count}
use Rattle.path_policies.specs.Lists.{is_listed, is_lasting}
use Rattle.path_policies.specs.Seen.{seen_query, seen_policy_certificate, seen_inhibitions, no_inhibitions}
use Rattle.path_policies.specs.Sets.{has, lasts}
use Rattle.path_policies.specs.Steps.{inhibitions_behind, first_behind, goes_on_above, lasts_above}
use Rattle.path_policies.proofs.Upward.{numbered_above, index_above, passed_mappings, went_up, named_more}
use Rattle.path_policies.proofs.outcome.first_named.Goals as goal

pub loop-above-preserved : goal.loop-above-preserved
loop-above-preserved c =
    let q = seen_query c.args.query.now in
    let more = c.loop-above.above in
    let certificates = c.args.query.now.certificates.now in
    let n = length certificates in
    let n_is : count q ≡ n = length-map certificates seen_policy_certificate in
    let here = seen_policy_certificate c.index-certificates-index.result in
    let is : certificate_numbered q (count q - more) ≡ here =
    numbered_above q certificates more c.index-certificates-index.result refl c.loop-above-test.true ∙ ap seen_policy_certificate (sym c.index-certificates-index.is) in
    let index : count q - (more + 1) ≡ n - more - 1 = index_above q n more n_is c.loop-above-test.true in
    let below : n - more - 1 < n = omega (arith, c.loop-above-test.true) in
    let these = seen_inhibitions (get_or c.args.each.now (n - more - 1) no_inhibitions) in
    let inhibitions : inhibitions_behind q (count q - (more + 1)) ≡ these = ap (inhibitions_behind q) index ∙ sym (c.requires.each (n - more - 1) below) in
    let before : lasts c.loop-above.lasting ≡ lasts_above q more = (λ k policy. c.loop-above.invariant.0 policy k) in
    let mapped : lasts c.pass_mappings.new.lasting ≡ goes_on_above q more (lasts_above q more) =
    (λ k policy. passed_mappings q more here these.mapping_inhibited (lasts c.loop-above.lasting) policy (lasts c.pass_mappings.new.lasting policy) before is
    (ap (λ i. i.mapping_inhibited) inhibitions) (c.in_ok-pass_mappings.ensures policy) k) in (
      (λ policy. went_up q more here these.allows_any (lasts c.pass_mappings.new.lasting) policy (lasts c.go_up.new.self policy) mapped is
          (ap (λ i. i.allows_any) inhibitions) (c.in_ok-go_up.ensures policy)),
      (λ policy. named_more q more c.index-firsts-index.result.items (lasts c.pass_mappings.new.lasting) policy (has c.insert_lasting.new.policies policy) (has c.loop-above.named policy)
          mapped
          (ap (λ found. is_listed found.items policy) c.index-firsts-index.is ∙ c.requires.firsts.each (n - more - 1) c.index-firsts-index.result policy below
          ∙ ap (λ i. first_behind q i policy) (sym index))
          (c.loop-above.invariant.1 policy)
          (c.in_ok-insert_lasting.ensures policy ∙ ap (λ list. is_lasting list (lasts c.pass_mappings.new.lasting) policy || has c.loop-above.named policy) c.as_slice.ensures.value)),
    )
