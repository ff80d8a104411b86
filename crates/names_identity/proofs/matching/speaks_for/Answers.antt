use Rattle.std.proofs.Common.{rules, tests}
use Rattle.std.proofs.lemmas.Iterator.{cases_from_any, YieldsList-from_slice}
use Rattle.names.specs.GeneralView.{general_name}
use Rattle.names_identity.specs.Identity.{Matches, reference_identity}
use Rattle.names_identity.proofs.Quantified.{any_decides}
use Rattle.names_identity.proofs.matching.speaks_for.Goals as goal

pub returns : goal.returns
returns c =
    let i = reference_identity c.args.identity.now in
    any_decides (Matches i) general_name c.args.names.now c.any.result
    (cases_from_any _ _ _ (λ x. Matches i (general_name x)) (λ x. Matches i (general_name x) → ⊥) c.any.ensures.ran
    (YieldsList-from_slice c.args.names.now cc) (λ x q k. search (rules, tests)) (λ x q k. search (rules, tests)))
