-- What is found if each candidate counts.
use Rattle.std.proofs.Common.{List, [], ◌∷◌, inl, inr}
use Rattle.std.specs.List.{AllByRecursion}
use Rattle.path.specs.Query.{Accepts}
use Rattle.path_issuers.specs.Search.{Search, Candidate}
use Rattle.relying_agreement.specs.declared.verdict.Verdict.{Verdict}
use Rattle.relying_agreement.specs.declared.verdict.Verdict.TheVariants.{Valid, Invalid, Revoked, Unknown}
use Rattle.relying_search.specs.Finding.{Finding, HasOtherVerdict, HeldFor, IsFinding, IsFirstOther}
use Rattle.relying_search.specs.declared.finding.FindingBudget.{FindingBudget}
use Rattle.relying_search.specs.Among.{AmongAllIsFinding, EachCounts, IsFindingAmong, IsFirstOtherAmong, IsPassedOver}

module _ (accepts : Accepts) (held : HeldFor) (s : Search) where
  others : (candidates : List Candidate) → AllByRecursion (IsPassedOver EachCounts accepts held s) candidates → AllByRecursion (HasOtherVerdict accepts held s) candidates
  others [] each = tt
  others (c ∷ more) each = (elim each.0 [ inl passed ↦ absurd (passed.1 tt) | inr other ↦ other.1 ], others more each.1)

  passed : (candidates : List Candidate) → AllByRecursion (HasOtherVerdict accepts held s) candidates → AllByRecursion (IsPassedOver EachCounts accepts held s) candidates
  passed [] each = tt
  passed (c ∷ more) each = (inr (tt, each.0), passed more each.1)

  is_other : (c : Candidate) (verdict : Verdict) → IsFirstOtherAmong EachCounts accepts held s c verdict → IsFirstOther accepts held s c verdict
  is_other c verdict is = record {
    first = record { valid = is.first.is.valid; first = λ other before valid. is.first.first other before record { valid = valid; counted = tt } };
    has = is.has;
    none = λ d. is.none d tt;
  }

  other_is : (c : Candidate) (verdict : Verdict) → IsFirstOther accepts held s c verdict → IsFirstOtherAmong EachCounts accepts held s c verdict
  other_is c verdict is = record {
    first = record { is = record { valid = is.first.valid; counted = tt }; first = λ other before counted. is.first.first other before counted.valid };
    has = is.has;
    none = λ d counted. is.none d;
  }

  to : (budget : FindingBudget) (finding : Finding) → IsFindingAmong EachCounts accepts held s budget finding → IsFinding accepts held s budget finding
  to budget (Finding.Found c Valid) is = record { clear = is.clear; first = λ other before. is.first other before tt }
  to budget (Finding.Found c (Invalid j reason)) is = is_other c (Invalid j reason) is
  to budget (Finding.Found c (Revoked j reason)) is = is_other c (Revoked j reason) is
  to budget (Finding.Found c (Unknown j)) is = is_other c (Unknown j) is
  to budget Finding.NotFound is = λ c valid. is c record { valid = valid; counted = tt }
  to budget Finding.GaveUp (inl up) = inl up
  to budget Finding.GaveUp (inr more) = inr record {
    candidates = more.candidates;
    further = more.further;
    each = others more.candidates more.each;
    valid = more.valid;
    descending = more.descending;
    enough = more.enough;
  }

  from : (budget : FindingBudget) (finding : Finding) → IsFinding accepts held s budget finding → IsFindingAmong EachCounts accepts held s budget finding
  from budget (Finding.Found c Valid) is = record { clear = is.clear; counted = tt; first = λ other before counted. is.first other before }
  from budget (Finding.Found c (Invalid j reason)) is = other_is c (Invalid j reason) is
  from budget (Finding.Found c (Revoked j reason)) is = other_is c (Revoked j reason) is
  from budget (Finding.Found c (Unknown j)) is = other_is c (Unknown j) is
  from budget Finding.NotFound is = λ c counted. is c counted.valid
  from budget Finding.GaveUp (inl up) = inl up
  from budget Finding.GaveUp (inr more) = inr record {
    candidates = more.candidates;
    further = more.further;
    each = passed more.candidates more.each;
    valid = more.valid;
    descending = more.descending;
    enough = more.enough;
  }

pub among_all : AmongAllIsFinding
among_all accepts held s budget finding = (to accepts held s budget finding, from accepts held s budget finding)
