use Rattle.std.proofs.Common.{◌≡◌, refl, ◌||◌, sym, ap, subst, ◌∙◌}
use Rattle.std.proofs.lemmas.List.Folds.{list_any-append}
use Rattle.std.specs.Str.{bytes_eq}
use Rattle.cert_policies.specs.PolicyExtensions.{seen_mapping}
use Rattle.path_policies.specs.Query.{any_policy}
use Rattle.path_policies.specs.Lists.{is_any_mapped_by}
use Rattle.path_policies.specs.Seen.{seen_policy_certificate}
use Rattle.path_policies.specs.Sets.{has}
use Rattle.path_policies.specs.Steps.{followed, mapped, is_first_mapped}
use Rattle.path_policies.specs.Walk.{HasPolicy}
use Rattle.path_policies.proofs.Picks.{any_of_map}
use Rattle.path_policies.proofs.walk.take_certificate.Goals as goal

pub returns-then-is_any_mapped : goal.returns-then-is_any_mapped
returns-then-is_any_mapped c =
    let same : has c.follow.new.policies ≡ followed (seen_policy_certificate c.args.certificate.now) c.args.inhibitions.allows_any (has c.args.policies.now) = (λ k policy. c.in_ok-first.ensures.valid policy k) in (
      subst (λ valid. HasPolicy c.args.inhibitions.policy_required valid) same (c.if-lacks_policy.ensures.meets refl),
      c.if-is_last.false,
      any_of_map seen_mapping (λ m. bytes_eq m.issuer_domain_policy any_policy || bytes_eq m.subject_domain_policy any_policy) c.args.certificate.now.extensions.mappings.items
          ∙ ap is_any_mapped_by (sym c.as_slice.ensures.value) ∙ sym c.is_any_mapped.ensures ∙ c.if-is_any_mapped.true,
    )

pub returns : goal.returns
returns c =
    let same : has c.follow.new.policies ≡ followed (seen_policy_certificate c.args.certificate.now) c.args.inhibitions.allows_any (has c.args.policies.now) = (λ k policy. c.in_ok-first.ensures.valid policy k) in
    record {
      has_policy = subst (λ valid. HasPolicy c.args.inhibitions.policy_required valid) same (c.if-lacks_policy.ensures.meets refl);
      maps_none = λ _.
          any_of_map seen_mapping (λ m. bytes_eq m.issuer_domain_policy any_policy || bytes_eq m.subject_domain_policy any_policy) c.args.certificate.now.extensions.mappings.items
          ∙ ap is_any_mapped_by (sym c.as_slice.ensures.value) ∙ sym c.is_any_mapped.ensures ∙ c.if-is_any_mapped.false;
      expected_is = λ policy.
          rw c.if-is_last.false
          (c.in_ok-mapped.ensures.expected policy
          ∙ ap (λ valid. mapped (seen_policy_certificate c.args.certificate.now) c.args.inhibitions.mapping_inhibited valid policy) same);
      first_is = λ policy.
          rw (c.if-is_last.false, c.in_ok-extend_from_slice.ensures.items, c.as_slice-2.ensures.value)
          (list_any-append (λ listed. bytes_eq listed.now policy) c.in_ok-first.first.items c.in_ok-mapped.mapped.items
          ∙ (λ k. c.in_ok-first.ensures.first policy k
          || (c.in_ok-mapped.ensures.first policy ∙ ap (λ valid. is_first_mapped (seen_policy_certificate c.args.certificate.now) c.args.inhibitions.mapping_inhibited valid policy) same) k));
    }
