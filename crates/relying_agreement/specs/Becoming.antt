-- What becomes of each fact of a list, by those before it (RFC 5280, 5.2.3; RFC 6960, 2.4).
use Rattle.std.specs.Prelude.{◌≡◌, ◌↔◌, ◌++◌, ℕ, Bool, true, List, Option, Some, length, slice_get, take}
use Rattle.std.specs.List.{AllByRecursion, filter_map}
use Rattle.std.specs.Option.{option_to_list}
use Rattle.statements_facts.specs.Statement.{Holdings}
use Rattle.statements_facts.specs.Fact.{Fact}
use Rattle.statements_facts.specs.declared.counts.TakenAs.{TakenAs}
use Rattle.statements_facts.specs.declared.counts.TakenAs.TheVariants.{Stored, Kept, Contradicted}
use Rattle.statements_facts.specs.Newest.{IsNewest, newer_crl, newer_ocsp}
use Rattle.statements_facts.specs.Coming.{ComeTo, ContradictsCrl, ContradictsOcsp, crl_for, ocsp_for}

module _ {Said : Type 0} (newer : Said → Said → Bool) (Contradicts : Option Said → Said → Type 0) where
  -- it is newer than each before it in its slot
  abbrev pub IsNewestYet : List Said → Said → Type 0
  IsNewestYet earlier fact = AllByRecursion (λ other. newer fact other ≡ true) earlier

  -- the newest of those before it has the same number, or the same times, and says something else
  pub record ContradictsNewest (earlier : List Said) (fact : Said) : Type 0 where
    pub newest : Said
    pub is_newest : IsNewest newer earlier newest
    pub contradicts : Contradicts (Some newest) fact

  -- A fact is stored if it is the newest so far, contradicted if it contradicts the newest so far, and else kept out.
  abbrev pub IsSortedAs : List Said → Said → TakenAs → Type 0
  IsSortedAs earlier fact Stored = IsNewestYet earlier fact
  IsSortedAs earlier fact Contradicted = ContradictsNewest earlier fact
  IsSortedAs earlier fact Kept = (¬ IsNewestYet earlier fact) × (¬ ContradictsNewest earlier fact)

-- the same of a fact in its slot, by what the slot held at the start and what came before
abbrev pub Becomes : Holdings → List Fact → Fact → TakenAs → Type 0
Becomes start earlier (Fact.OfCrl slot fact) =
    IsSortedAs newer_crl ContradictsCrl (option_to_list (start.crl slot) ++ filter_map (crl_for slot) earlier) fact
Becomes start earlier (Fact.OfResponse slot fact) =
    IsSortedAs newer_ocsp ContradictsOcsp (option_to_list (start.ocsp slot) ++ filter_map (ocsp_for slot) earlier) fact

-- one outcome a fact, each by the facts before it
pub record AreOutcomes (start : Holdings) (facts : List Fact) (outcomes : List TakenAs) : Type 0 where
  pub as_many : length outcomes ≡ length facts
  pub each :
      (at : ℕ) (fact : Fact) (outcome : TakenAs) → slice_get facts at ≡ Some fact → slice_get outcomes at ≡ Some outcome →
      Becomes start (take at facts) fact outcome

-- Facts that are taken one after the other come to just these outcomes.
abbrev pub OutcomesArePlaces : Type 0
OutcomesArePlaces =
    (start : Holdings) (facts : List Fact) (outcomes : List TakenAs) →
    ComeTo start facts outcomes ↔ AreOutcomes start facts outcomes
