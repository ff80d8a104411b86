-- The comparison of two relying parties' verdicts, and where what they hold first differs.
use Rattle.std.specs.Prelude.{◌≡◌, ℕ, List, ◌∷◌, ◌++◌}
use Rattle.std.specs.List.{AllByRecursion}
use Rattle.statements_facts.specs.Statement.{Holdings}
use Rattle.path.specs.declared.reason.Outcome.{Outcome}
use Rattle.path.specs.Query.{Query, Accepts}
use Rattle.relying_agreement.specs.declared.verdict.Verdict.{Verdict}
use Rattle.relying_agreement.specs.declared.verdict.Comparison.{Comparison}
use Rattle.relying_agreement.specs.declared.verdict.Comparison.TheVariants.{Same, Differ}
use Rattle.relying_agreement.specs.Link.{Link, links_of}
use Rattle.relying_agreement.specs.Status.{answers_of}
use Rattle.relying_agreement.specs.Verdict.{IsVerdict, verdict_of}
use Rattle.relying_agreement.specs.Agreement.{HeldAreConsistent, HoldSameNewest}

-- the two hold the same of a certificate: numbers, windows and entries for its serial number, times, windows and statuses
abbrev pub HoldSameOf : Holdings → Holdings → Link → Type 0
HoldSameOf one other link = answers_of one link ≡ answers_of other link

-- the least certificate of which the two hold something different
pub record IsFirstDifference (one other : Holdings) (links : List Link) (j : ℕ) : Type 0 where
  pub before : List Link
  pub link : Link
  pub after : List Link
  pub is : links ≡ before ++ link ∷ after
  pub number : j ≡ link.number
  pub same_before : AllByRecursion (HoldSameOf one other) before
  pub differs : ¬ (HoldSameOf one other link)

-- what a comparison of the verdicts v and w says: that they are one, or both, and where what is held first differs
abbrev pub Compares : Verdict → Verdict → Holdings → Holdings → Query → Comparison → Type 0
Compares v w one other query (Same both) = (v ≡ both) × (w ≡ both)
Compares v w one other query (Differ first second j) =
    (first ≡ v) × (second ≡ w) × (¬ (v ≡ w)) × IsFirstDifference one other (links_of query) j

-- the comparison of the verdicts of two who judge signatures so, and hold these
pub record IsComparison (accepts : Accepts) (query : Query) (one other : Holdings) (answer : Comparison) : Type 0 where
  pub v : Verdict
  pub w : Verdict
  pub is_v : IsVerdict accepts query one v
  pub is_w : IsVerdict accepts query other w
  pub compares : Compares v w one other query answer

-- ---- laws

-- There is one answer, and it is `Same` exactly where both verdicts are one.
pub record IsOneComparison (outcome : Outcome) (query : Query) (one other : Holdings) : Type 0 where
  pub answer : Comparison
  pub compares : Compares (verdict_of outcome query one) (verdict_of outcome query other) one other query answer
  pub only :
      (c : Comparison) → Compares (verdict_of outcome query one) (verdict_of outcome query other) one other query c → c ≡ answer

abbrev pub ComparisonExists : Type 0
ComparisonExists = (outcome : Outcome) (query : Query) (one other : Holdings) → IsOneComparison outcome query one other

abbrev pub ComparisonIsOne : Type 0
ComparisonIsOne =
    (accepts : Accepts) (query : Query) (one other : Holdings) (c d : Comparison) →
    IsComparison accepts query one other c → IsComparison accepts query one other d → c ≡ d

-- Where both hold the same newest, and what they hold is consistent, the answer is never `Differ`.
abbrev pub NeverDiffers : Type 0
NeverDiffers =
    (accepts : Accepts) (query : Query) (one other : Holdings) (c : Comparison) (v : Verdict) →
    HeldAreConsistent query one other →
    HoldSameNewest query one other →
    IsComparison accepts query one other c →
    IsVerdict accepts query one v →
    c ≡ Same v
