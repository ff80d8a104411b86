-- The first certificate on which two lists of evidence differ, and what a comparison says of it.
use Rattle.std.proofs.Common.{◌≡◌, ℕ, ℤ, zero, suc, ◌+◌, ◌<◌, ◌≤◌, List, [], ◌∷◌, map, length, drop, get_or, arith, refl, sym, ap, ap₂, subst, ◌∙◌, Option, Some, None, inl, inr}
use Rattle.std.proofs.lemmas.List.{get_or-map, length-map}
use Rattle.std.proofs.lemmas.Option.{none-some, same_Some}
use Rattle.statements_facts.specs.Statement.{Holdings}
use Rattle.path.specs.declared.reason.Outcome.TheVariants.{Good, Bad}
use Rattle.path.specs.declared.reason.Reason.{Reason}
use Rattle.path.specs.Query.{Query, Accepts}
use Rattle.path.specs.Validity.{IsValidPath, IsFirstFailure}
use Rattle.relying_agreement.specs.declared.verdict.Verdict.TheVariants.{Invalid}
use Rattle.relying_agreement.specs.declared.verdict.Comparison.{Comparison}
use Rattle.relying_agreement.specs.declared.verdict.Comparison.TheVariants.{Same, Differ}
use Rattle.relying_agreement.specs.Link.{Link, links_of}
use Rattle.relying_agreement.specs.Status.{Answers, Evidence, evidence_of, may_sign_crls}
use Rattle.relying_agreement.specs.Verdict.{verdict_by, evidence_on}
use Rattle.relying_agreement.specs.Comparison.{IsFirstDifference, IsComparison}
use Rattle.relying_search.specs.declared.evidence.Evidence as known
use Rattle.relying_search.specs.View.{seen_evidence}
use Rattle.relying_verdicts.specs.Difference.{IsFirstApart, ComparesEvidence}

-- ---- lists of evidence

pub none_left : {A : Type 0} (xs : List A) (i : ℕ) → length xs ≤ i → drop i xs ≡ []
none_left [] zero le = refl
none_left [] (suc i) le = refl
none_left (x ∷ xs) zero le = absurd (omega arith)
none_left (x ∷ xs) (suc i) le = none_left xs i (omega arith)

pub one_left : {A : Type 0} (xs : List A) (i : ℕ) (x : A) → i < length xs → x ≡ get_or xs i x → drop i xs ≡ x ∷ drop (i + 1) xs
one_left [] i x below is = absurd (omega arith)
one_left (y ∷ xs) zero x below is = ap (λ z. z ∷ xs) (sym is)
one_left (y ∷ xs) (suc i) x below is =
    let later : suc i + 1 ≡ suc (i + 1) = omega arith in
    one_left xs i x (omega arith) is ∙ ap (λ n. x ∷ drop n (y ∷ xs)) (sym later)

pub apart_begins : (xs ys : List Evidence) (answer : Option ℕ) → IsFirstApart (drop 0 xs) (drop 0 ys) answer → IsFirstApart xs ys answer
apart_begins xs ys answer is = is

pub apart_later : (xs ys : List Evidence) (i : ℕ) (x y : Evidence) → i < length xs → length xs ≡ length ys → x ≡ get_or xs i x → y ≡ get_or ys i y → x ≡ y
    → ((answer : Option ℕ) → IsFirstApart (drop i xs) (drop i ys) answer → IsFirstApart xs ys answer)
    → (answer : Option ℕ) → IsFirstApart (drop (i + 1) xs) (drop (i + 1) ys) answer → IsFirstApart xs ys answer
apart_later xs ys i x y below len is_x is_y same leads answer rest =
    leads answer
    (subst (λ zs. IsFirstApart zs (drop i ys) answer) (sym (one_left xs i x below is_x))
    (subst (λ zs. IsFirstApart (x ∷ drop (i + 1) xs) zs answer) (sym (one_left ys i y (omega arith) is_y)) (inl (same, rest))))

pub apart_here : (xs ys : List Evidence) (i : ℕ) (x y : Evidence) → i < length xs → length xs ≡ length ys → x ≡ get_or xs i x → y ≡ get_or ys i y → (x ≡ y → ⊥)
    → ((answer : Option ℕ) → IsFirstApart (drop i xs) (drop i ys) answer → IsFirstApart xs ys answer)
    → IsFirstApart xs ys (Some x.number)
apart_here xs ys i x y below len is_x is_y differs leads =
    leads (Some x.number)
    (subst (λ zs. IsFirstApart zs (drop i ys) (Some x.number)) (sym (one_left xs i x below is_x))
    (subst (λ zs. IsFirstApart (x ∷ drop (i + 1) xs) zs (Some x.number)) (sym (one_left ys i y (omega arith) is_y)) (inr (differs, refl))))

pub apart_nowhere : (xs ys : List Evidence) (i : ℕ) → length xs ≤ i → length xs ≡ length ys
    → ((answer : Option ℕ) → IsFirstApart (drop i xs) (drop i ys) answer → IsFirstApart xs ys answer) → IsFirstApart xs ys None
apart_nowhere xs ys i le len leads =
    leads None
    (subst (λ zs. IsFirstApart zs (drop i ys) None) (sym (none_left xs i le))
    (subst (λ zs. IsFirstApart [] zs None) (sym (none_left ys i (omega arith))) refl))

pub all_the_same : (xs ys : List Evidence) → IsFirstApart xs ys None → xs ≡ ys
all_the_same [] [] is = refl
all_the_same [] (y ∷ ys) is = absurd is
all_the_same (x ∷ xs) [] is = absurd is
all_the_same (x ∷ xs) (y ∷ ys) (inl (same, rest)) = ap₂ (λ z zs. z ∷ zs) same (all_the_same xs ys rest)
all_the_same (x ∷ xs) (y ∷ ys) (inr (differs, is)) = absurd (none-some x.number is)

-- an item of a list, as it is seen
seen_at : (all : List known.Evidence) (i : ℕ) (it : known.Evidence) → i < length all → it ≡ get_or all i it → seen_evidence it ≡ get_or (map seen_evidence all) i (seen_evidence it)
seen_at all i it below is = ap seen_evidence is ∙ sym (get_or-map seen_evidence all i it (seen_evidence it) below)

module _ (one other : List known.Evidence) (i : ℕ) (same_length : length one ≡ length other) (leads : (answer : Option ℕ) → IsFirstApart (drop i (map seen_evidence one)) (drop i (map seen_evidence other)) answer → IsFirstApart (map seen_evidence one) (map seen_evidence other) answer) where
  lengths : length (map seen_evidence one) ≡ length (map seen_evidence other)
  lengths = length-map one seen_evidence ∙ same_length ∙ sym (length-map other seen_evidence)

  pub goes_on : (x y : known.Evidence) → i < length one → x ≡ get_or one i x → y ≡ get_or other i y → seen_evidence x ≡ seen_evidence y
      → (answer : Option ℕ) → IsFirstApart (drop (i + 1) (map seen_evidence one)) (drop (i + 1) (map seen_evidence other)) answer → IsFirstApart (map seen_evidence one) (map seen_evidence other) answer
  goes_on x y below is_x is_y same =
      apart_later (map seen_evidence one) (map seen_evidence other) i (seen_evidence x) (seen_evidence y) (omega (arith, length-map one seen_evidence)) lengths
      (seen_at one i x below is_x) (seen_at other i y (omega arith) is_y) same leads

  pub ends_here : (x y : known.Evidence) → i < length one → x ≡ get_or one i x → y ≡ get_or other i y → (seen_evidence x ≡ seen_evidence y → ⊥)
      → IsFirstApart (map seen_evidence one) (map seen_evidence other) (Some x.number)
  ends_here x y below is_x is_y differs =
      apart_here (map seen_evidence one) (map seen_evidence other) i (seen_evidence x) (seen_evidence y) (omega (arith, length-map one seen_evidence)) lengths
      (seen_at one i x below is_x) (seen_at other i y (omega arith) is_y) differs leads

  pub ends_nowhere : length one ≤ i → IsFirstApart (map seen_evidence one) (map seen_evidence other) None
  ends_nowhere le = apart_nowhere (map seen_evidence one) (map seen_evidence other) i (omega (arith, length-map one seen_evidence)) lengths leads

pub same_of_none : (moment : ℤ) (xs ys : List Evidence) (answer : Option ℕ) → answer ≡ None → IsFirstApart xs ys answer → verdict_by moment ys ≡ verdict_by moment xs
same_of_none moment xs ys answer none is = ap (verdict_by moment) (sym (all_the_same xs ys (subst (IsFirstApart xs ys) none is)))

pub compared_as : (moment : ℤ) (xs xs' ys ys' : List Evidence) (answer : Comparison) → xs ≡ xs' → ys ≡ ys' → ComparesEvidence moment xs ys answer → ComparesEvidence moment xs' ys' answer
compared_as moment xs xs' ys ys' answer same_x same_y is =
    subst (λ zs. ComparesEvidence moment zs ys' answer) same_x (subst (λ zs. ComparesEvidence moment xs zs answer) same_y is)

-- ---- comparisons

abbrev evidence_with : Link → Answers → Evidence
evidence_with link answers = record { number = link.number; may_sign_crls = may_sign_crls link; answers = answers }

first_difference : (one other : Holdings) (links : List Link) (j : ℕ) → IsFirstApart (map (evidence_of one) links) (map (evidence_of other) links) (Some j) → IsFirstDifference one other links j
first_difference one other [] j is = absurd (none-some j (sym is))
first_difference one other (link ∷ links) j (inl (same, rest)) =
    let d = first_difference one other links j rest in
    record { before = link ∷ d.before; link = d.link; after = d.after; is = ap (λ xs. link ∷ xs) d.is; number = d.number; same_before = (ap (λ (it : Evidence). it.answers) same, d.same_before); differs = d.differs }
first_difference one other (link ∷ links) j (inr (differs, is)) =
    record { before = []; link = link; after = links; is = refl; number = same_Some j link.number is; same_before = tt; differs = λ same. differs (ap (evidence_with link) same) }

pub is_comparison : (accepts : Accepts) (query : Query) → IsValidPath accepts query → (one other : Holdings) (answer : Comparison)
    → ComparesEvidence query.moment (evidence_on one query) (evidence_on other query) answer → IsComparison accepts query one other answer
is_comparison accepts query valid one other (Same v) is = record {
  v = v;
  w = v;
  is_v = record { outcome = Good; is_outcome = valid; verdict_is = sym is.0 };
  is_w = record { outcome = Good; is_outcome = valid; verdict_is = sym is.1 };
  compares = (refl, refl);
}
is_comparison accepts query valid one other (Differ v w j) is = record {
  v = v;
  w = w;
  is_v = record { outcome = Good; is_outcome = valid; verdict_is = is.0 };
  is_w = record { outcome = Good; is_outcome = valid; verdict_is = is.1 };
  compares = (refl, refl, is.2, first_difference one other (links_of query) j is.3);
}

pub both_invalid : (accepts : Accepts) (query : Query) (j : ℕ) (reason : Reason) → IsFirstFailure accepts query j reason → (one other : Holdings) → IsComparison accepts query one other (Same (Invalid j reason))
both_invalid accepts query j reason fails one other = record {
  v = Invalid j reason;
  w = Invalid j reason;
  is_v = record { outcome = Bad j reason; is_outcome = fails; verdict_is = refl };
  is_w = record { outcome = Bad j reason; is_outcome = fails; verdict_is = refl };
  compares = (refl, refl);
}
