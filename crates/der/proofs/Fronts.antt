-- The header of a text that begins with a encoded value.
use Rattle.std.proofs.Common.{◌≡◌, ◌≢◌, ℕ, suc, ◌/◌, ◌%◌, ◌<◌, ◌≤◌, List, ◌∷◌, ◌++◌, length, get_or, drop, refl, sym, ap, arith, inl, inr, append_assoc, subst}
use Rattle.std.proofs.lemmas.Bool.{le-ltb, lt-ltb, cases_lt}
use Rattle.std.proofs.lemmas.List.{take_at, drop_at, length-append}
use Rattle.der.specs.declared.fault.Rule.TheVariants.{LengthForm}
use Rattle.der.specs.Length.{contents_limit, length_octets, contents_len, contents_of, end_of}
use Rattle.der.specs.Encoding.{encoding_of}
use Rattle.der.specs.FirstFault.{Breaks}
use Rattle.der.specs.Header.{IsLengthOf}

short : (i n : ℕ) (tail : List ℕ) → n < 128 → IsLengthOf (i ∷ n ∷ tail) 2 n
short i n tail lt =
    let t = lt-ltb n 128 lt in
    record { len_is = rw t refl; contents_is = rw t refl; whole = (omega arith, rw t (omega arith)); form = form; bounded = rw t (omega arith) }
  where
    form : Breaks LengthForm 1 (i ∷ n ∷ tail) → ⊥
    form (_, inl e) = omega arith
    form (_, inr (inl e)) = omega arith
    form (_, inr (inr (w, (ge, _)))) = omega arith

long_form : (text : List ℕ) → get_or text 1 0 ≢ 128 → get_or text 1 0 ≢ 255 → get_or text 2 0 ≢ 0 → 128 ≤ contents_len text → Breaks LengthForm 1 text → ⊥
long_form text not_128 not_255 high big (_, inl e) = not_128 e
long_form text not_128 not_255 high big (_, inr (inl e)) = not_255 e
long_form text not_128 not_255 high big (_, inr (inr (w, (_, inl e)))) = high e
long_form text not_128 not_255 high big (_, inr (inr (w, (_, inr lt)))) = omega arith

one : (i n : ℕ) (tail : List ℕ) → 128 ≤ n → n < 256 → IsLengthOf (i ∷ 129 ∷ n ∷ tail) 3 n
one i n tail low high =
    let e : contents_len (i ∷ 129 ∷ n ∷ tail) ≡ n = omega arith in
    record {
      len_is = refl;
      contents_is = sym e;
      whole = (omega arith, omega arith);
      form = long_form (i ∷ 129 ∷ n ∷ tail) (omega arith) (omega arith) (omega arith) (omega arith);
      bounded = omega arith;
    }

two : (i n : ℕ) (tail : List ℕ) → 256 ≤ n → n < 65536 → IsLengthOf (i ∷ 130 ∷ n / 256 ∷ n % 256 ∷ tail) 4 n
two i n tail low high =
    let text = i ∷ 130 ∷ n / 256 ∷ n % 256 ∷ tail in
    let e : contents_len text ≡ n = omega arith in
    record {
      len_is = refl;
      contents_is = sym e;
      whole = (omega arith, omega arith);
      form = long_form text (omega arith) (omega arith) (omega arith) (omega arith);
      bounded = omega arith;
    }

three : (i n : ℕ) (tail : List ℕ) → 65536 ≤ n → n < 16777216 → IsLengthOf (i ∷ 131 ∷ n / 65536 ∷ n / 256 % 256 ∷ n % 256 ∷ tail) 5 n
three i n tail low high =
    let text = i ∷ 131 ∷ n / 65536 ∷ n / 256 % 256 ∷ n % 256 ∷ tail in
    let e : contents_len text ≡ n = omega arith in
    record {
      len_is = refl;
      contents_is = sym e;
      whole = (omega arith, omega arith);
      form = long_form text (omega arith) (omega arith) (omega arith) (omega arith);
      bounded = omega arith;
    }

four : (i n : ℕ) (tail : List ℕ) → 16777216 ≤ n → n < contents_limit → IsLengthOf (i ∷ 132 ∷ n / 16777216 ∷ n / 65536 % 256 ∷ n / 256 % 256 ∷ n % 256 ∷ tail) 6 n
four i n tail low high =
    let text = i ∷ 132 ∷ n / 16777216 ∷ n / 65536 % 256 ∷ n / 256 % 256 ∷ n % 256 ∷ tail in
    let e : contents_len text ≡ n = omega arith in
    record {
      len_is = refl;
      contents_is = sym e;
      whole = (omega arith, omega arith);
      form = long_form text (omega arith) (omega arith) (omega arith) (omega arith);
      bounded = omega arith;
    }

lengths : (i n : ℕ) (tail : List ℕ) → n < contents_limit → IsLengthOf (i ∷ length_octets n ++ tail) (suc (length (length_octets n))) n
lengths i n tail bounded =
    elim (cases_lt n 128) [
      | inl a ↦ rw (lt-ltb n 128 a) (short i n tail a)
      | inr a ↦ rw (le-ltb n 128 a) (elim (cases_lt n 256) [
        | inl b ↦ rw (lt-ltb n 256 b) (one i n tail a b)
        | inr b ↦ rw (le-ltb n 256 b) (elim (cases_lt n 65536) [
          | inl c ↦ rw (lt-ltb n 65536 c) (two i n tail b c)
          | inr c ↦ rw (le-ltb n 65536 c) (elim (cases_lt n 16777216) [
            | inl d ↦ rw (lt-ltb n 16777216 d) (three i n tail c d)
            | inr d ↦ rw (le-ltb n 16777216 d) (four i n tail d bounded)
          ])
        ])
      ])
    ]

-- what the words on a text say of a text that begins with a encoding
pub record Front (text : List ℕ) (i : ℕ) (c rest : List ℕ) : Type 0 where
  pub identifier : get_or text 0 0 ≡ i
  pub lengths_are : IsLengthOf text (suc (length (length_octets (length c)))) (length c)
  pub contents_is : contents_of text ≡ c
  pub rest_is : drop (end_of text) text ≡ rest
  pub within : end_of text ≤ length text

pub front : (i : ℕ) (c rest : List ℕ) → length c < contents_limit → Front (encoding_of i c ++ rest) i c rest
front i c rest bounded =
    let octets = length_octets (length c) in
    let head = i ∷ octets in
    let regrouped : encoding_of i c ++ rest ≡ head ++ (c ++ rest) = ap (λ (w : List ℕ). i ∷ w) (append_assoc octets c rest) in
    let here = lengths i (length c) (c ++ rest) bounded in
    let past : drop (length head) (head ++ (c ++ rest)) ≡ c ++ rest = drop_at head (c ++ rest) (length head) refl in
    let end_is : end_of (head ++ (c ++ rest)) ≡ length (head ++ c) = rw (← here.len_is, ← here.contents_is, length-append) refl in
    let behind : drop (length (head ++ c)) ((head ++ c) ++ rest) ≡ rest = drop_at (head ++ c) rest (length (head ++ c)) refl in
    subst (λ (t : List ℕ). Front t i c rest) (sym regrouped) record {
      identifier = refl;
      lengths_are = here;
      contents_is = rw (← here.len_is, ← here.contents_is, past) (take_at c rest (length c) refl);
      rest_is = rw (end_is, ← append_assoc head c rest) behind;
      within = omega (arith, end_is, length-append head (c ++ rest), length-append c rest, length-append head c);
    }
