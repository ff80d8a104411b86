-- Which outcome a verdict comes of, and when nothing is said against a path.
use Rattle.std.proofs.Common.{◌≡◌, ℕ, ℤ, Bool, true, false, List, [], ◌∷◌, Option, Some, None, is_some, map, if◌then◌else◌, refl, sym, ap, ap₂, subst, ◌∙◌, true≢false}
use Rattle.std.specs.List.{AllByRecursion}
use Rattle.std.proofs.lemmas.Option.{none-some}
use Rattle.statements_facts.specs.Statement.{Holdings}
use Rattle.path.specs.declared.reason.Outcome.{Outcome}
use Rattle.path.specs.declared.reason.Outcome.TheVariants.{Good, Bad}
use Rattle.path.specs.declared.reason.Reason.{Reason}
use Rattle.path.specs.Query.{Query, Accepts}
use Rattle.path.specs.Validity.{IsOutcome, IsValidPath, IsFirstFailure}
use Rattle.relying_agreement.specs.declared.verdict.Verdict.{Verdict}
use Rattle.relying_agreement.specs.declared.verdict.Verdict.TheVariants.{Invalid, Valid}
use Rattle.relying_agreement.specs.Link.{Link, links_of}
use Rattle.relying_agreement.specs.Status.{Evidence, evidence_of, deciding_reason, is_covered_by}
use Rattle.relying_agreement.specs.Verdict.{or_revoked, first_revoked, first_uncovered, evidence_on, verdict_from, verdict_by, verdict_of, IsVerdict, IsClear, ValidExactlyWhere, InvalidExactlyWhere}
use Rattle.relying_agreement.proofs.Options.{no_value}
use Rattle.relying_agreement.proofs.StatusLaws.{cover_decides, revoke_decides}

-- ---- of which outcome

abbrev pub is_invalid : Verdict → Bool
is_invalid (Invalid j reason) = true
is_invalid other = false

abbrev number_in : Verdict → ℕ
number_in (Invalid j reason) = j
number_in other = 0

abbrev reason_or : Reason → Verdict → Reason
reason_or other (Invalid j reason) = reason
reason_or other verdict = other

pub never_invalid : (revoked : Option (ℕ × ℕ)) (uncovered : Option ℕ) → is_invalid (verdict_from revoked uncovered) ≡ false
never_invalid (Some revoked) uncovered = refl
never_invalid None (Some j) = refl
never_invalid None None = refl

-- a verdict that is not Invalid comes of a path that is valid, and says what is held
pub of_valid_path : (accepts : Accepts) (query : Query) (held : Holdings) (v : Verdict) → is_invalid v ≡ false → IsVerdict accepts query held v
    → IsValidPath accepts query × (v ≡ verdict_by query.moment (evidence_on held query))
of_valid_path accepts query held v not_invalid is = by is.outcome is.is_outcome is.verdict_is where
  by : (outcome : Outcome) → IsOutcome accepts query outcome → v ≡ verdict_of outcome query held
      → IsValidPath accepts query × (v ≡ verdict_by query.moment (evidence_on held query))
  by Good valid e = (valid, e)
  by (Bad j reason) fails e = absurd (true≢false (sym (ap is_invalid e) ∙ not_invalid))

pub from_valid_path : (accepts : Accepts) (query : Query) (held : Holdings) (v : Verdict) → IsValidPath accepts query
    → v ≡ verdict_by query.moment (evidence_on held query) → IsVerdict accepts query held v
from_valid_path accepts query held v valid e = record { outcome = Good; is_outcome = valid; verdict_is = e }

pub invalid_exactly_where : InvalidExactlyWhere
invalid_exactly_where accepts query held j reason = (
  λ is. by is.outcome is.is_outcome is.verdict_is,
  λ fails. record { outcome = Bad j reason; is_outcome = fails; verdict_is = refl },
)
  where
    by : (outcome : Outcome) → IsOutcome accepts query outcome → Invalid j reason ≡ verdict_of outcome query held → IsFirstFailure accepts query j reason
    by Good valid e = absurd (true≢false (ap is_invalid e ∙ never_invalid (first_revoked query.moment (evidence_on held query)) (first_uncovered query.moment (evidence_on held query))))
    by (Bad k other) fails e =
        subst (λ n. IsFirstFailure accepts query n reason) (sym (ap number_in e))
        (subst (λ r. IsFirstFailure accepts query k r) (sym (ap (reason_or reason) e)) fails)

-- ---- valid

is_valid : Verdict → Bool
is_valid Valid = true
is_valid other = false

valid_parts : (revoked : Option (ℕ × ℕ)) (uncovered : Option ℕ) → Valid ≡ verdict_from revoked uncovered → (revoked ≡ None) × (uncovered ≡ None)
unfolding is_valid
valid_parts (Some revoked) uncovered valid = absurd (true≢false (ap is_valid valid))
valid_parts None (Some j) valid = absurd (true≢false (ap is_valid valid))
valid_parts None None valid = (refl, refl)

pub none_of_both : (j : ℕ) (reason : Option ℕ) (later : Option (ℕ × ℕ)) → or_revoked j reason later ≡ None → (reason ≡ None) × (later ≡ None)
none_of_both j None later none = (refl, none)
none_of_both j (Some reason) later none = absurd (none-some (j, reason) (sym none))

covered_both : (covered : Bool) (j : ℕ) (later : Option ℕ) → (if covered then later else Some j) ≡ None → (covered ≡ true) × (later ≡ None)
covered_both true j later none = (refl, none)
covered_both false j later none = absurd (none-some j (sym none))

module _ (held : Holdings) (moment : ℤ) where
  abbrev seen : List Link → List Evidence
  seen links = map (evidence_of held) links

  all_clear : (links : List Link) → first_revoked moment (seen links) ≡ None → first_uncovered moment (seen links) ≡ None
      → AllByRecursion (IsClear held moment) links
  all_clear [] revoked uncovered = tt
  all_clear (link ∷ links) revoked uncovered =
      let r = none_of_both link.number (deciding_reason moment (evidence_of held link)) (first_revoked moment (seen links)) revoked in
      let u = covered_both (is_covered_by moment (evidence_of held link)) link.number (first_uncovered moment (seen links)) uncovered in (
        record {
          covered = (cover_decides held moment link).0 u.0;
          not_revoked = λ some. true≢false (sym ((revoke_decides held moment link).1 some) ∙ ap is_some r.0);
        },
        all_clear links r.1 u.1,
      )

  none_revoked : (links : List Link) → AllByRecursion (IsClear held moment) links → first_revoked moment (seen links) ≡ None
  none_revoked [] clear = refl
  none_revoked (link ∷ links) clear =
      ap₂ (or_revoked link.number)
      (no_value (deciding_reason moment (evidence_of held link)) (λ some. clear.0.not_revoked ((revoke_decides held moment link).0 some)))
      (none_revoked links clear.1)

  none_uncovered : (links : List Link) → AllByRecursion (IsClear held moment) links → first_uncovered moment (seen links) ≡ None
  none_uncovered [] clear = refl
  none_uncovered (link ∷ links) clear =
      ap₂ (λ covered later. if covered then later else Some link.number) ((cover_decides held moment link).1 clear.0.covered)
      (none_uncovered links clear.1)

pub valid_exactly_where : ValidExactlyWhere
valid_exactly_where accepts query held = (
  λ is. let path = of_valid_path accepts query held Valid refl is in
      let parts = valid_parts (first_revoked query.moment (evidence_on held query)) (first_uncovered query.moment (evidence_on held query)) path.1 in
      (path.0, all_clear held query.moment (links_of query) parts.0 parts.1),
  λ (valid, clear). from_valid_path accepts query held Valid valid
      (sym (ap₂ verdict_from (none_revoked held query.moment (links_of query) clear) (none_uncovered held query.moment (links_of query) clear))),
)
