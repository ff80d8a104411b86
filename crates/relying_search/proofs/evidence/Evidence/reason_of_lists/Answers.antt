use Rattle.std.proofs.Common.{◌++◌, ℤ, w64, of_z, to_z, ap, ap₂, ◌∙◌}
use Rattle.std.specs.Option.{option_or}
use Rattle.std.proofs.Math.Facts.{to_z-of_z}
use Rattle.relying_agreement.specs.Status.{listed_reason}
use Rattle.relying_search.specs.View.{seen_lists}
use Rattle.relying_search.proofs.Reasons.{joined}
use Rattle.relying_search.proofs.evidence.Evidence.reason_of_lists.Goals as goal

pub returns : goal.returns
returns c =
    let it = c.args.self.now in
    let moment : ℤ = to_z w64 (of_z w64 c.args.moment) in
    c.or.ensures
    ∙ ap₂ option_or
    (c.listed_reason.ensures ∙ ap (λ lists. listed_reason moment it.may_sign_crls (seen_lists lists)) c.deref-2.ensures.value)
    (c.listed_reason-limited.ensures ∙ ap (λ lists. listed_reason moment it.may_sign_crls (seen_lists lists)) c.deref.ensures.value)
    ∙ joined moment it.may_sign_crls (seen_lists it.lists.items) (seen_lists it.limited.items)
    ∙ ap (λ m. listed_reason m it.may_sign_crls (seen_lists it.lists.items ++ seen_lists it.limited.items)) (to_z-of_z c.ranges.moment)
