-- How an at sign divides a mailbox, and an rfc822Name.
use Rattle.std.proofs.Common.{◌≡◌, ◌≢◌, ◌⊎◌, ◌<◌, ◌+◌, ℕ, List, ◌∷◌, ◌++◌, length, take, drop, get_or, true, false, not, nat_eq, Option, Some, None, refl, sym, ◌∙◌, ap, arith, inl, inr, length-append}
use Rattle.std.specs.Prelude.{MatchOption}
use Rattle.std.specs.List.{position, position_or_len}
use Rattle.std.specs.Cmp.Lexicographic.{pointwise}
use Rattle.std.proofs.lemmas.Bool.{both_ways}
use Rattle.std.proofs.lemmas.Bool.Decides.{Decides-eqb}
use Rattle.std.proofs.lemmas.Slice.Eq.{slice_eq-Decides}
use Rattle.std.proofs.lemmas.List.{take_at, get_or_at, length-take-le, get_or-take, get_or_append_left, take-append-drop}
use Rattle.std.proofs.lemmas.List.Elements.{All-from_get_or}
use Rattle.std.proofs.lemmas.List.Quantifiers.{position-Some}
use Rattle.std.proofs.lemmas.List.Sums.{position_or_len_is, split_at_first}
use Rattle.names_distinguished.proofs.Laws.{same_ends}
use Rattle.names_identity.specs.Identity.{IsBehind}
use Rattle.names_identity.specs.Mailbox.{is_local_octet, not_local_octet, IsDivided}
use Rattle.names_identity.proofs.Positions.{some_is, none_is, pass_before}

-- the local part ends at the first octet that none has
pub divided_at : (text local host : List ℕ) → IsDivided text local host → position_or_len not_local_octet text ≡ length local
divided_at text local host d =
    let n : length text ≡ length local + (1 + length host) = omega (arith, ap length d.joined, length-append local (64 ∷ host)) in
    position_or_len_is not_local_octet text (length local) 0 (omega arith)
    (λ k below. ap (λ (l : List ℕ). not_local_octet (get_or l k 0)) d.joined
    ∙ (ap not_local_octet (get_or_append_left local (64 ∷ host) 0 k below) ∙ ap not (d.octets k 0 below)))
    (λ within. ap (λ (l : List ℕ). not_local_octet (get_or l (length local) 0)) d.joined ∙ ap not_local_octet (get_or_at local 64 host 0 (length local) refl))

-- a text without such an octet is not divided
pub not_divided : (text local host : List ℕ) → position not_local_octet text ≡ None → IsDivided text local host → ⊥
not_divided text local host h d =
    omega (arith, none_is not_local_octet text h, divided_at text local host d, ap length d.joined, length-append local (64 ∷ host))

-- nor is one where that octet comes first, or is no at sign
pub not_divided_here :
    (text local host : List ℕ) (at : ℕ) → position not_local_octet text ≡ Some at → (at ≡ 0) ⊎ (get_or text at 0 ≢ 64) →
    IsDivided text local host → ⊥
not_divided_here text local host at h stops d =
    let e : length local ≡ at = sym (divided_at text local host d) ∙ some_is not_local_octet text at h in
    elim stops [
      | inl zero_at ↦ omega (arith, d.some)
      | inr other ↦ other (ap (λ (l : List ℕ). get_or l at 0) d.joined ∙ get_or_at local 64 host 0 at e)
    ]

-- else the octet is the at sign that divides it
pub divides :
    (text : List ℕ) (at : ℕ) → position not_local_octet text ≡ Some at → 0 < at → get_or text at 0 ≡ 64 →
    IsDivided text (take at text) (drop (at + 1) text)
divides text at h some sign =
    let s = position-Some not_local_octet text at 0 h in
    let n : length (take at text) ≡ at = length-take-le at text (omega (arith, s.0)) in
    let e : position_or_len not_local_octet text ≡ at = some_is not_local_octet text at h in
    record {
      joined = split_at_first not_local_octet text 0 (omega (arith, s.0))
          ∙ (ap (λ (k : ℕ). take k text ++ get_or text k 0 ∷ drop (k + 1) text) e ∙ ap (λ (c : ℕ). take at text ++ c ∷ drop (at + 1) text) sign);
      some = omega arith;
      octets = All-from_get_or (λ (x : ℕ). is_local_octet x ≡ true) (take at text) 0
          (λ k below. ap is_local_octet (get_or-take at text k 0 (omega arith)) ∙ pass_before is_local_octet text at h k (omega arith));
    }

-- a text is divided in one way
pub one_division :
    (text local host first second : List ℕ) → IsDivided text local host → IsDivided text first second →
    (local ≡ first) × (host ≡ second)
one_division text local host first second d f =
    let n : length local ≡ length first = sym (divided_at text local host d) ∙ divided_at text first second f in
    let same = same_ends local (64 ∷ host) first (64 ∷ second) (sym d.joined ∙ f.joined)
    (omega (arith, ap length (sym d.joined ∙ f.joined), length-append local (64 ∷ host), length-append first (64 ∷ second))) in
    let h : 64 ∷ host ≡ 64 ∷ second = same.1 in
    (same.0, ap (drop 1) h)

-- what is stripped of a text, and what is left
pub same_by : (a b : List ℕ) → pointwise nat_eq a b ≡ true → a ≡ b
same_by a b t = (slice_eq-Decides Decides-eqb a b _ refl).0 t

pub differ_by : (a b : List ℕ) → pointwise nat_eq a b ≡ false → a ≡ b → ⊥
differ_by a b f e = both_ways (pointwise nat_eq a b) f ((slice_eq-Decides Decides-eqb a b _ refl).1 e)

pub stripped :
    (text front rest : List ℕ) → pointwise nat_eq (take (length front) text) front ≡ true →
    rest ≡ drop (length front) text → text ≡ front ++ rest
stripped text front rest t e =
    sym (take-append-drop (length front) text)
    ∙ (ap (λ (l : List ℕ). l ++ drop (length front) text) (same_by (take (length front) text) front t)
    ∙ ap (λ (l : List ℕ). front ++ l) (sym e))

pub not_stripped : (text front rest : List ℕ) → pointwise nat_eq (take (length front) text) front ≡ false → text ≡ front ++ rest → ⊥
not_stripped text front rest f e =
    differ_by (take (length front) text) front f (ap (λ (l : List ℕ). take (length front) l) e ∙ take_at front rest (length front) refl)

-- from one account of an option to another
pub mapped :
    {T : Type 0} {P Q : Type 0} {R S : T → Type 0} (found : Option T) → (P → Q) → ((x : T) → R x → S x) →
    MatchOption found P R → MatchOption found Q S
mapped None f g h = f h
mapped (Some x) f g h = g x h

-- what stands behind a local part is one list
pub rest_is : (name local rest behind : List ℕ) → name ≡ local ++ rest → name ≡ local ++ behind → rest ≡ behind
rest_is name local rest behind a b =
    (same_ends local rest local behind (sym a ∙ b)
    (omega (arith, ap length (sym a ∙ b), length-append local rest, length-append local behind))).1

-- the host behind a local part is one
pub same_behind : (name local left right : List ℕ) → IsBehind name local left → IsBehind name local right → left ≡ right
same_behind name local left right a b = let h : 64 ∷ left ≡ 64 ∷ right = rest_is name local (64 ∷ left) (64 ∷ right) a b in ap (drop 1) h
