-- Verdicts in words: which certificate is named, and why.
use Rattle.std.proofs.Common.{◌≡◌, ◌⊎◌, ℕ, ℤ, Bool, true, false, List, [], ◌∷◌, ◌++◌, map, Option, Some, None, is_some, if◌then◌else◌, refl, sym, ap, ap₂, ◌∙◌, inl, inr, true≢false}
use Rattle.std.specs.List.{AllByRecursion}
use Rattle.std.proofs.lemmas.Bool.{cases_Bool, false_from_ne_true}
use Rattle.std.proofs.lemmas.Option.{none-some, same_Some}
use Rattle.statements_facts.specs.Statement.{Holdings}
use Rattle.relying_agreement.specs.declared.verdict.Verdict.{Verdict}
use Rattle.relying_agreement.specs.declared.verdict.Verdict.TheVariants.{Invalid, Revoked, Unknown, Valid}
use Rattle.relying_agreement.specs.Link.{Link, links_of}
use Rattle.relying_agreement.specs.Status.{Evidence, evidence_of, deciding_reason, is_covered_by, SomeRevokes, IsCovered, IsRevoked}
use Rattle.relying_agreement.specs.Verdict.{or_revoked, first_revoked, first_uncovered, evidence_on, verdict_from, IsFirst, RevokedExactlyWhere, UnknownExactlyWhere}
use Rattle.relying_agreement.proofs.Options.{no_value}
use Rattle.relying_agreement.proofs.ValidLaws.{none_of_both, of_valid_path, from_valid_path}
use Rattle.relying_agreement.proofs.StatusLaws.{cover_decides, revoke_decides, reason_so, revoked_so}

abbrev place : Verdict → ℕ
place (Invalid j reason) = j
place (Revoked j reason) = j
place (Unknown j) = j
place Valid = 0

abbrev why : Verdict → ℕ
why (Revoked j reason) = reason
why other = 0

abbrev is_revoked : Verdict → Bool
is_revoked (Revoked j reason) = true
is_revoked other = false

abbrev is_unknown : Verdict → Bool
is_unknown (Unknown j) = true
is_unknown other = false

revoked_parts : (revoked : Option (ℕ × ℕ)) (uncovered : Option ℕ) (j reason : ℕ) → Revoked j reason ≡ verdict_from revoked uncovered → revoked ≡ Some (j, reason)
revoked_parts (Some found) uncovered j reason e = λ i. Some (ap place (sym e) i, ap why (sym e) i)
revoked_parts None (Some k) j reason e = absurd (true≢false (ap is_revoked e))
revoked_parts None None j reason e = absurd (true≢false (ap is_revoked e))

unknown_parts : (revoked : Option (ℕ × ℕ)) (uncovered : Option ℕ) (j : ℕ) → Unknown j ≡ verdict_from revoked uncovered → (revoked ≡ None) × (uncovered ≡ Some j)
unknown_parts (Some found) uncovered j e = absurd (true≢false (ap is_unknown e))
unknown_parts None (Some k) j e = (refl, ap Some (ap place (sym e)))
unknown_parts None None j e = absurd (true≢false (ap is_unknown e))

revoked_either : (j : ℕ) (reason : Option ℕ) (later : Option (ℕ × ℕ)) (k r : ℕ) → or_revoked j reason later ≡ Some (k, r)
    → ((k ≡ j) × (reason ≡ Some r)) ⊎ ((reason ≡ None) × (later ≡ Some (k, r)))
revoked_either j None later k r e = inr (refl, e)
revoked_either j (Some found) later k r e = let same : ◌≡◌ {A = ℕ × ℕ} (j, found) (k, r) = same_Some (j, found) (k, r) e in
    inl (sym (ap (λ (p : ℕ × ℕ). p.0) same), ap (λ (p : ℕ × ℕ). Some p.1) same)

uncovered_either : (covered : Bool) (j : ℕ) (later : Option ℕ) (k : ℕ) → (if covered then later else Some j) ≡ Some k
    → ((k ≡ j) × (covered ≡ false)) ⊎ ((covered ≡ true) × (later ≡ Some k))
uncovered_either true j later k e = inr (refl, e)
uncovered_either false j later k e = inl (sym (same_Some j k e), refl)

module _ (held : Holdings) (moment : ℤ) where
  abbrev seen : List Link → List Evidence
  seen links = map (evidence_of held) links

  abbrev Revokes : Link → Type 0
  Revokes link = SomeRevokes held moment link

  abbrev NotCovered : Link → Type 0
  NotCovered link = ¬ (IsCovered held moment link)

  not_revoked : (link : Link) → deciding_reason moment (evidence_of held link) ≡ None → ¬ (Revokes link)
  not_revoked link none = λ some. true≢false (sym ((revoke_decides held moment link).1 some) ∙ ap is_some none)

  no_reason : (link : Link) → ¬ (Revokes link) → deciding_reason moment (evidence_of held link) ≡ None
  no_reason link none = no_value (deciding_reason moment (evidence_of held link)) (λ some. none ((revoke_decides held moment link).0 some))

  found_revoked : (links : List Link) (j reason : ℕ) → first_revoked moment (seen links) ≡ Some (j, reason)
      → (link : Link) × IsFirst Revokes links link × (j ≡ link.number) × IsRevoked held moment link reason
  found_revoked [] j reason e = absurd (none-some (j, reason) e)
  found_revoked (link ∷ links) j reason e = elim (revoked_either link.number (deciding_reason moment (evidence_of held link)) (first_revoked moment (seen links)) j reason e) [
    | inl (here, is) ↦ (link, record { before = []; after = links; is = refl; here = (revoke_decides held moment link).0 (ap is_some is); none_before = tt }, here, revoked_so held moment link reason is)
    | inr (none, later) ↦ let rest = found_revoked links j reason later in
        (rest.0, record { before = link ∷ rest.1.before; after = rest.1.after; is = ap (λ xs. link ∷ xs) rest.1.is; here = rest.1.here; none_before = (not_revoked link none, rest.1.none_before) }, rest.2, rest.3)
  ]

  revoked_at : (before after : List Link) (link : Link) (reason : ℕ) → AllByRecursion (λ earlier. ¬ (Revokes earlier)) before → IsRevoked held moment link reason
      → first_revoked moment (seen (before ++ link ∷ after)) ≡ Some (link.number, reason)
  revoked_at [] after link reason none is = ap (λ o. or_revoked link.number o (first_revoked moment (seen after))) (reason_so held moment link reason is)
  revoked_at (earlier ∷ before) after link reason none is =
      ap (λ o. or_revoked earlier.number o (first_revoked moment (seen (before ++ link ∷ after)))) (no_reason earlier none.0)
      ∙ revoked_at before after link reason none.1 is

  none_revoked : (links : List Link) → AllByRecursion (λ link. ¬ (Revokes link)) links → first_revoked moment (seen links) ≡ None
  none_revoked [] none = refl
  none_revoked (link ∷ links) none = ap₂ (or_revoked link.number) (no_reason link none.0) (none_revoked links none.1)

  all_not_revoked : (links : List Link) → first_revoked moment (seen links) ≡ None → AllByRecursion (λ link. ¬ (Revokes link)) links
  all_not_revoked [] e = tt
  all_not_revoked (link ∷ links) e =
      let parts = none_of_both link.number (deciding_reason moment (evidence_of held link)) (first_revoked moment (seen links)) e in
      (not_revoked link parts.0, all_not_revoked links parts.1)

  not_covered : (link : Link) → is_covered_by moment (evidence_of held link) ≡ false → NotCovered link
  not_covered link no_cover = λ covered. true≢false (sym ((cover_decides held moment link).1 covered) ∙ no_cover)

  found_uncovered : (links : List Link) (j : ℕ) → first_uncovered moment (seen links) ≡ Some j → (link : Link) × IsFirst NotCovered links link × (j ≡ link.number)
  found_uncovered [] j e = absurd (none-some j e)
  found_uncovered (link ∷ links) j e = elim (uncovered_either (is_covered_by moment (evidence_of held link)) link.number (first_uncovered moment (seen links)) j e) [
    | inl (here, is) ↦ (link, record { before = []; after = links; is = refl; here = not_covered link is; none_before = tt }, here)
    | inr (covered, later) ↦ let rest = found_uncovered links j later in
        (rest.0, record { before = link ∷ rest.1.before; after = rest.1.after; is = ap (λ xs. link ∷ xs) rest.1.is; here = rest.1.here; none_before = ((λ uncovered. uncovered ((cover_decides held moment link).0 covered)), rest.1.none_before) }, rest.2)
  ]

  covered_unless : (link : Link) → ¬ (NotCovered link) → is_covered_by moment (evidence_of held link) ≡ true
  covered_unless link twice = elim (cases_Bool (is_covered_by moment (evidence_of held link))) [
    | inl covered ↦ covered
    | inr no_cover ↦ absurd (twice (not_covered link no_cover))
  ]

  uncovered_at : (before after : List Link) (link : Link) → AllByRecursion (λ earlier. ¬ (NotCovered earlier)) before → NotCovered link
      → first_uncovered moment (seen (before ++ link ∷ after)) ≡ Some link.number
  uncovered_at [] after link none here =
      ap (λ b. if b then first_uncovered moment (seen after) else Some link.number)
      (false_from_ne_true (is_covered_by moment (evidence_of held link)) (λ covered. here ((cover_decides held moment link).0 covered)))
  uncovered_at (earlier ∷ before) after link none here =
      ap (λ b. if b then first_uncovered moment (seen (before ++ link ∷ after)) else Some earlier.number) (covered_unless earlier none.0)
      ∙ uncovered_at before after link none.1 here

pub revoked_exactly_where : RevokedExactlyWhere
revoked_exactly_where accepts query held j reason = (
  λ is. let path = of_valid_path accepts query held (Revoked j reason) refl is in
      let found = found_revoked held query.moment (links_of query) j reason
      (revoked_parts (first_revoked query.moment (evidence_on held query)) (first_uncovered query.moment (evidence_on held query)) j reason path.1) in
      (path.0, record { link = found.0; first = found.1; number = found.2; why = found.3 }),
  λ (valid, is). from_valid_path accepts query held (Revoked j reason) valid
      (ap (λ k. Revoked k reason) is.number
      ∙ sym (ap (λ o. verdict_from o (first_uncovered query.moment (evidence_on held query)))
      (ap (λ links. first_revoked query.moment (map (evidence_of held) links)) is.first.is
      ∙ revoked_at held query.moment is.first.before is.first.after is.link reason is.first.none_before is.why))),
)

pub unknown_exactly_where : UnknownExactlyWhere
unknown_exactly_where accepts query held j = (
  λ is. let path = of_valid_path accepts query held (Unknown j) refl is in
      let parts = unknown_parts (first_revoked query.moment (evidence_on held query)) (first_uncovered query.moment (evidence_on held query)) j path.1 in
      let found = found_uncovered held query.moment (links_of query) j parts.1 in
      (path.0, record { none_revoked = all_not_revoked held query.moment (links_of query) parts.0; link = found.0; first = found.1; number = found.2 }),
  λ (valid, is). from_valid_path accepts query held (Unknown j) valid
      (ap Unknown is.number
      ∙ sym (ap₂ verdict_from (none_revoked held query.moment (links_of query) is.none_revoked)
      (ap (λ links. first_uncovered query.moment (map (evidence_of held) links)) is.first.is
      ∙ uncovered_at held query.moment is.first.before is.first.after is.link is.first.none_before is.first.here))),
)
