-- The contents of a value as a part of a text.
use Rattle.std.proofs.Common.{◌≡◌, ℕ, ◌+◌, ◌-◌, ◌<◌, ◌≤◌, List, [], ◌∷◌, ◌++◌, length, take, drop, refl, sym, ap, ◌∙◌, arith, append_assoc, subst}
use Rattle.std.proofs.lemmas.List.{length-append, length-drop, take_all}
use Rattle.asn.specs.Part.{IsPartOf, contents}
use Rattle.asn.specs.Place.{seen_tlv, body, body_place}
use Rattle.asn.specs.declared.tlv.Tlv.{Tlv}
use Rattle.cert.specs.BitString.{bits_in}

-- the contents of a value stand where the values inside would
pub body_stands : (text : List ℕ) (value : Tlv) → IsPartOf text (body_place (seen_tlv value)).at (body_place (seen_tlv value)).octets → IsPartOf text (body_place (seen_tlv value)).at value.body.now
unfolding body_place contents
body_stands text value stands = subst (IsPartOf text (body_place (seen_tlv value)).at) (sym value.body_is) stands

pub body_is : (value : Tlv) → value.body.now ≡ body (seen_tlv value)
body_is value = value.body_is

-- the octets behind the first
pub behind_first : (text : List ℕ) (at : ℕ) (first : ℕ) (others : List ℕ) → IsPartOf text at (first ∷ others) → IsPartOf text (at + 1) others
behind_first text at first others stands = record {
  before = stands.before ++ first ∷ [];
  behind = stands.behind;
  joined = stands.joined ∙ ap (λ (t : List ℕ). t ++ stands.behind) (sym (append_assoc stands.before (first ∷ []) others));
  place = omega (arith, length-append stands.before (first ∷ []), stands.place);
}

-- contents that are empty have no bits
none_behind : (xs : List ℕ) → length xs < 1 → xs ≡ drop 1 xs
none_behind [] none = refl
none_behind (x ∷ xs) none = absurd (omega arith)

pub no_bits : (value : Tlv) → length value.body.now < 1 → value.body.now ≡ bits_in (body (seen_tlv value))
no_bits value none = none_behind value.body.now none ∙ ap bits_in (body_is value)

-- the octets behind the count of unused bits
abbrev pub cut : List ℕ → List ℕ
cut xs = take (length xs - 1) (drop 1 xs)

pub cut_is : (xs : List ℕ) → cut xs ≡ drop 1 xs
cut_is xs = take_all (length xs - 1) (drop 1 xs) (omega (arith, length-drop 1 xs))

behind_count : (text : List ℕ) (at : ℕ) (xs : List ℕ) → 1 ≤ length xs → IsPartOf text at xs → IsPartOf text (at + 1) (drop 1 xs)
behind_count text at [] some stands = absurd (omega arith)
behind_count text at (x ∷ xs) some stands = behind_first text at x xs stands

pub bits_stand : (text : List ℕ) (value : Tlv) (at : ℕ) → at ≡ (body_place (seen_tlv value)).at → 1 ≤ length value.body.now → IsPartOf text (body_place (seen_tlv value)).at (body_place (seen_tlv value)).octets → IsPartOf text (at + 1) (cut value.body.now)
bits_stand text value at e some stands =
    let there : IsPartOf text at value.body.now = subst (λ (k : ℕ). IsPartOf text k value.body.now) (sym e) (body_stands text value stands) in
    subst (IsPartOf text (at + 1)) (sym (cut_is value.body.now)) (behind_count text at value.body.now some there)

pub bits_are : (value : Tlv) → cut value.body.now ≡ bits_in (body (seen_tlv value))
bits_are value = cut_is value.body.now ∙ ap bits_in (body_is value)
