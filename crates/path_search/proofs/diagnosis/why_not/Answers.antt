use Rattle.std.proofs.Common.{Option, MatchOption, subst}
use Rattle.path.specs.declared.reason.Reason.{Reason}
use Rattle.path_issuers.specs.View.{seen_search}
use Rattle.path_search.specs.Obstacles.{IsEnd}
use Rattle.path_search.specs.WhyNot.{IsFirstUnmet, MeetsEach, MeetsAsTarget}
use Rattle.path_search.specs.declared.diagnosis.Stuck.{Stuck}
use Rattle.path_search.proofs.Explaining.{target_factors}
use Rattle.path_search.proofs.diagnosis.why_not.Goals as goal

pub furthest_end-requires : goal.furthest_end-requires
furthest_end-requires g c =
    let s = seen_search c.args.search.now in
    let Meets = MeetsAsTarget s.options s.moment s.purpose s.target in
    (target_factors s).1 (subst (λ (unmet : Option Reason). MatchOption unmet (MeetsEach Meets) (IsFirstUnmet Meets)) c.in_default.is c.unmet_by_target.ensures)

pub returns-in-None : goal.returns-in-None
returns-in-None g c =
    let s = seen_search c.args.search.now in
    let Meets = MeetsAsTarget s.options s.moment s.purpose s.target in (
      (target_factors s).1 (subst (λ (unmet : Option Reason). MatchOption unmet (MeetsEach Meets) (IsFirstUnmet Meets)) c.in_default.is c.unmet_by_target.ensures),
      subst (λ (found : Option Stuck). IsEnd (g.V.Verifier.accepts c.args.verifier.now) s c.args.budget found) c.in-None.is c.in_ok-furthest_end.ensures,
    )
