-- A test that a value has an encoding, which is enough for values whose contents are plain.
use Rattle.std.proofs.Common.{◌≡◌, ℕ, zero, suc, ◌+◌, ◌-◌, ◌<◌, ◌==◌, ◌&&◌, ◌||◌, Bool, true, false, not, List, [], ◌∷◌, length, slice_index, nat_lt, if◌then◌else◌, arith, refl, sym, subst, true≢false, inr}
use Rattle.std.specs.Prelude.{nat_le}
use Rattle.std.proofs.lemmas.Bool.{eqb-true, leb-true, ltb-true, not-true}
use Rattle.asn.specs.Value.{Value, Values, primitive, constructed, none, more}
use Rattle.asn.specs.Identifier.{is_refused, is_constructed}
use Rattle.der.specs.Contents.{IsBoolean, IsInteger, IsBitString, IsObjectIdentifier, IsContents}
use Rattle.der.specs.Length.{contents_limit}
use Rattle.asn.specs.Size.{size_of_all, IsEncodableAt, AreEncodableAt}

-- TRUE; an INTEGER of one octet; bits that are whole octets; arcs of one octet each; nothing
abbrev true_fits : List ℕ → Bool
true_fits [] = false
true_fits (octet ∷ []) = octet == 255
true_fits (octet ∷ other ∷ octets) = false

abbrev integer_fits : List ℕ → Bool
integer_fits [] = false
integer_fits (octet ∷ []) = true
integer_fits (octet ∷ other ∷ octets) = false

abbrev bits_fit : List ℕ → Bool
bits_fit [] = false
bits_fit (unused ∷ bits) = unused == 0

abbrev are_short : List ℕ → Bool
are_short [] = true
are_short (octet ∷ octets) = nat_lt octet 128 && are_short octets

abbrev arcs_fit : List ℕ → Bool
arcs_fit [] = false
arcs_fit (octet ∷ octets) = are_short (octet ∷ octets)

abbrev nothing_fits : List ℕ → Bool
nothing_fits [] = true
nothing_fits (octet ∷ octets) = false

abbrev contents_fit : ℕ → List ℕ → Bool
contents_fit identifier contents =
    if identifier == 1 then true_fits contents
    else (if identifier == 2 || identifier == 10 then integer_fits contents
    else (if identifier == 3 then bits_fit contents
    else (if identifier == 5 then nothing_fits contents
    else (if identifier == 6 then arcs_fit contents else true))))

abbrev mutual
  pub fits : ℕ → Value → Bool
  fits depth (primitive identifier contents) =
      nat_le depth 32 && (not (is_refused identifier) && (not (is_constructed identifier) && (contents_fit identifier contents && nat_lt (length contents) contents_limit)))
  fits depth (constructed identifier values) =
      nat_le depth 32 && (not (is_refused identifier) && (is_constructed identifier && (all_fit (depth + 1) values && nat_lt (size_of_all values) contents_limit)))

  all_fit : ℕ → Values → Bool
  all_fit depth none = true
  all_fit depth (more value values) = fits depth value && all_fit depth values

-- ---- the test is enough

true_is : (c : List ℕ) → true_fits c ≡ true → IsBoolean c
true_is [] e = absurd (true≢false (sym e))
true_is (octet ∷ []) e = inr (rw (eqb-true octet 255 e) refl)
true_is (octet ∷ other ∷ octets) e = absurd (true≢false (sym e))

integer_is : (c : List ℕ) → integer_fits c ≡ true → IsInteger c
integer_is [] e = absurd (true≢false (sym e))
integer_is (octet ∷ []) e = tt
integer_is (octet ∷ other ∷ octets) e = absurd (true≢false (sym e))

bits_are : (c : List ℕ) → bits_fit c ≡ true → IsBitString c
bits_are [] e = absurd (true≢false (sym e))
bits_are (unused ∷ bits) e = let whole = eqb-true unused 0 e in rw whole (omega arith, λ none. refl, omega arith)

both : (a b : Bool) → (a && b) ≡ true → (a ≡ true) × (b ≡ true)
both true b e = (refl, e)
both false b e = absurd (true≢false (sym e))

short_at : (c : List ℕ) (k : ℕ) → are_short c ≡ true → k < length c → slice_index c k < 128
short_at [] k e low = absurd (omega (arith, low))
short_at (octet ∷ octets) zero e low = ltb-true octet 128 (both (nat_lt octet 128) (are_short octets) e).0
short_at (octet ∷ octets) (suc k) e low = short_at octets k (both (nat_lt octet 128) (are_short octets) e).1 (omega (arith, low))

arcs_are : (c : List ℕ) → arcs_fit c ≡ true → IsObjectIdentifier c
arcs_are [] e = absurd (true≢false (sym e))
arcs_are (octet ∷ octets) e = (omega arith, short_at (octet ∷ octets) (length (octet ∷ octets) - 1) e (omega arith), λ k low is. absurd (omega (arith, is, short_at (octet ∷ octets) k e low)))

nothing_is : (c : List ℕ) → nothing_fits c ≡ true → c ≡ []
nothing_is [] e = refl
nothing_is (octet ∷ octets) e = absurd (true≢false (sym e))

contents_are : (i : ℕ) (c : List ℕ) → contents_fit i c ≡ true → IsContents i c
contents_are i c e = (
  λ is. true_is c (subst (λ n. contents_fit n c ≡ true) is e),
  λ is. integer_is c (subst (λ n. contents_fit n c ≡ true) is e),
  λ is. bits_are c (subst (λ n. contents_fit n c ≡ true) is e),
  λ is. nothing_is c (subst (λ n. contents_fit n c ≡ true) is e),
  λ is. arcs_are c (subst (λ n. contents_fit n c ≡ true) is e),
  λ is. integer_is c (subst (λ n. contents_fit n c ≡ true) is e),
)

mutual
  pub encodable_if : (v : Value) (d : ℕ) → fits d v ≡ true → IsEncodableAt d v
  encodable_if (primitive i c) d e =
      let deep = both _ _ e in
      let form = both _ _ deep.1 in
      let flag = both _ _ form.1 in
      let inside = both _ _ flag.1 in
      (leb-true d 32 deep.0, not-true _ form.0, not-true _ flag.0, contents_are i c inside.0, ltb-true _ _ inside.1)
  encodable_if (constructed i vs) d e =
      let deep = both _ _ e in
      let form = both _ _ deep.1 in
      let flag = both _ _ form.1 in
      let inside = both _ _ flag.1 in
      ((leb-true d 32 deep.0, not-true _ form.0, flag.0), all_encodable_if vs (d + 1) inside.0, ltb-true _ _ inside.1)

  all_encodable_if : (vs : Values) (d : ℕ) → all_fit d vs ≡ true → AreEncodableAt d vs
  all_encodable_if none d e = tt
  all_encodable_if (more v vs) d e = let h = both _ _ e in (encodable_if v d h.0, all_encodable_if vs d h.1)
