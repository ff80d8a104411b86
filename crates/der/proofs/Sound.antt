-- A header that breaks no rule is the shortest encoding of its length.
use Rattle.std.proofs.Common.{◌≡◌, ◌≢◌, ◌⊎◌, ℕ, ◌+◌, ◌*◌, ◌-◌, ◌/◌, ◌%◌, ◌<◌, ◌≤◌, List, [], ◌∷◌, length, get_or, take, drop, refl, sym, ◌∙◌, arith, inl, inr, subst}
use Rattle.std.proofs.lemmas.Bool.{le-ltb, lt-ltb, cases_lt}
use Rattle.std.proofs.Math.Seq.{take-add}
use Rattle.std.proofs.lemmas.List.{length-drop, length-take-le}
use Rattle.der.specs.declared.fault.Rule.TheVariants.{LengthForm, TooLong}
use Rattle.der.specs.Length.{contents_limit, length_octets, header_len, contents_len, contents_of, end_of}
use Rattle.der.specs.Encoding.{encoding_of}
use Rattle.der.specs.Header.{IsSound}
use Rattle.der.proofs.Headers.{header_len-long, contents_len-long}
use Rattle.der.proofs.Numbers.{number-long}

-- the octets before the contents are these
abbrev IsShort : List ℕ → Type 0
IsShort text = take (header_len text) text ≡ get_or text 0 0 ∷ length_octets (contents_len text)

one : (i a : ℕ) (tail : List ℕ) → 128 ≤ a → a < 256 → IsShort (i ∷ 129 ∷ a ∷ tail)
one i a tail low high =
    let e : contents_len (i ∷ 129 ∷ a ∷ tail) ≡ a = omega arith in
    rw (e, le-ltb a 128 low, lt-ltb a 256 high) refl

two : (i a b : ℕ) (tail : List ℕ) → 0 < a → a < 256 → b < 256 → IsShort (i ∷ 130 ∷ a ∷ b ∷ tail)
two i a b tail positive ha hb =
    let n = a * 256 + b in
    let e : contents_len (i ∷ 130 ∷ a ∷ b ∷ tail) ≡ n = omega arith in
    let q : n / 256 ≡ a = omega arith in
    let r : n % 256 ≡ b = omega arith in
    rw (e, le-ltb n 128 (omega arith), le-ltb n 256 (omega arith), lt-ltb n 65536 (omega arith), q, r) refl

three : (i a b d : ℕ) (tail : List ℕ) → 0 < a → a < 256 → b < 256 → d < 256 → IsShort (i ∷ 131 ∷ a ∷ b ∷ d ∷ tail)
three i a b d tail positive ha hb hd =
    let n = a * 65536 + b * 256 + d in
    let e : contents_len (i ∷ 131 ∷ a ∷ b ∷ d ∷ tail) ≡ n = omega arith in
    let q : n / 65536 ≡ a = omega arith in
    let m : n / 256 ≡ a * 256 + b = omega arith in
    let s : (a * 256 + b) % 256 ≡ b = omega arith in
    let r : n % 256 ≡ d = omega arith in
    rw (e, le-ltb n 128 (omega arith), le-ltb n 256 (omega arith), le-ltb n 65536 (omega arith), lt-ltb n 16777216 (omega arith), q, m, s, r) refl

four : (i a b d e : ℕ) (tail : List ℕ) → 0 < a → a < 256 → b < 256 → d < 256 → e < 256 → IsShort (i ∷ 132 ∷ a ∷ b ∷ d ∷ e ∷ tail)
four i a b d e tail positive ha hb hd he =
    let n = a * 16777216 + b * 65536 + d * 256 + e in
    let is : contents_len (i ∷ 132 ∷ a ∷ b ∷ d ∷ e ∷ tail) ≡ n = omega arith in
    let p : n / 16777216 ≡ a = omega arith in
    let q : n / 65536 ≡ a * 256 + b = omega arith in
    let r : (a * 256 + b) % 256 ≡ b = omega arith in
    let s : n / 256 ≡ a * 65536 + b * 256 + d = omega arith in
    let t : (a * 65536 + b * 256 + d) % 256 ≡ d = omega arith in
    let u : n % 256 ≡ e = omega arith in
    rw (is, le-ltb n 128 (omega arith), le-ltb n 256 (omega arith), le-ltb n 65536 (omega arith), le-ltb n 16777216 (omega arith), p, q, r, s, t, u) refl

not_zero : (text : List ℕ) → IsSound text → 128 ≤ get_or text 1 0 → (get_or text 2 0 ≢ 0) × (128 ≤ contents_len text) × (contents_len text < contents_limit) × (get_or text 1 0 ≢ 128) × (get_or text 1 0 ≢ 255) × (2 + (get_or text 1 0 - 128) ≤ length text)
not_zero text sound long =
    let w = sound.whole in
    let len = header_len-long text long in
    let form = sound.keeps LengthForm 1 (omega arith) in
    (λ e. form (w.0, inr (inr (w, (long, inl e)))), small, bounded, λ e. form (w.0, inl e), λ e. form (w.0, inr (inl e)), omega arith)
  where
    small : 128 ≤ contents_len text
    small = elim (cases_lt (contents_len text) 128) [ inl lt ↦ absurd (sound.keeps LengthForm 1 (omega arith) (sound.whole.0, inr (inr (sound.whole, (long, inr lt))))) | inr le ↦ le ]

    bounded : contents_len text < contents_limit
    bounded = elim (cases_lt (contents_len text) contents_limit) [ inl lt ↦ lt | inr le ↦ absurd (sound.keeps TooLong 1 (omega arith) (sound.whole, le)) ]

-- which first length octets are left
few : (text : List ℕ) → IsSound text → 128 ≤ get_or text 1 0 → (get_or text 1 0 ≡ 129) ⊎ (get_or text 1 0 ≡ 130) ⊎ (get_or text 1 0 ≡ 131) ⊎ (get_or text 1 0 ≡ 132)
few text sound long =
    let f = not_zero text sound long in
    elim (cases_lt (get_or text 1 0) 130) [
      | inl a ↦ inl (omega (arith, f.3))
      | inr a ↦ elim (cases_lt (get_or text 1 0) 131) [
        | inl b ↦ inr (inl (omega arith))
        | inr b ↦ elim (cases_lt (get_or text 1 0) 132) [
          | inl d ↦ inr (inr (inl (omega arith)))
          | inr d ↦ elim (cases_lt (get_or text 1 0) 133) [
            | inl e ↦ inr (inr (inr (omega arith)))
            | inr e ↦ absurd (
                let bound : contents_limit ≤ contents_len text = rw (contents_len-long text long) (number-long text (get_or text 1 0 - 128) f.5 (inl (omega arith)) (omega (arith, f.0))) in
                omega (arith, f.2))
          ]
        ]
      ]
    ]

pub is_short : (text : List ℕ) → ((k : ℕ) → get_or text k 0 < 256) → IsSound text → IsShort text
is_short [] fits sound = absurd (omega (arith, sound.whole.0))
is_short (i ∷ []) fits sound = absurd (omega (arith, sound.whole.0))
is_short (i ∷ l ∷ tail) fits sound =
    elim (cases_lt l 128) [
      | inl lt ↦ rw (lt-ltb l 128 lt, lt-ltb l 128 lt) refl
      | inr ge ↦ long_short i l tail fits sound ge (few (i ∷ l ∷ tail) sound ge)
    ]
  where
    long_short : (i l : ℕ) (tail : List ℕ) → ((k : ℕ) → get_or (i ∷ l ∷ tail) k 0 < 256) → IsSound (i ∷ l ∷ tail) → 128 ≤ l → ((l ≡ 129) ⊎ (l ≡ 130) ⊎ (l ≡ 131) ⊎ (l ≡ 132)) → IsShort (i ∷ l ∷ tail)
    long_short i l (a ∷ tail) fits sound ge (inl e) =
        let f = not_zero (i ∷ l ∷ a ∷ tail) sound ge in
        let c : contents_len (i ∷ l ∷ a ∷ tail) ≡ a = rw (e) (omega arith) in
        subst (λ (x : ℕ). IsShort (i ∷ x ∷ a ∷ tail)) (sym e) (one i a tail (omega (arith, f.1)) (fits 2))
    long_short i l (a ∷ b ∷ tail) fits sound ge (inr (inl e)) =
        let f = not_zero (i ∷ l ∷ a ∷ b ∷ tail) sound ge in
        subst (λ (x : ℕ). IsShort (i ∷ x ∷ a ∷ b ∷ tail)) (sym e) (two i a b tail (omega (arith, f.0)) (fits 2) (fits 3))
    long_short i l (a ∷ b ∷ d ∷ tail) fits sound ge (inr (inr (inl e))) =
        let f = not_zero (i ∷ l ∷ a ∷ b ∷ d ∷ tail) sound ge in
        subst (λ (x : ℕ). IsShort (i ∷ x ∷ a ∷ b ∷ d ∷ tail)) (sym e) (three i a b d tail (omega (arith, f.0)) (fits 2) (fits 3) (fits 4))
    long_short i l (a ∷ b ∷ d ∷ g ∷ tail) fits sound ge (inr (inr (inr e))) =
        let f = not_zero (i ∷ l ∷ a ∷ b ∷ d ∷ g ∷ tail) sound ge in
        subst (λ (x : ℕ). IsShort (i ∷ x ∷ a ∷ b ∷ d ∷ g ∷ tail)) (sym e) (four i a b d g tail (omega (arith, f.0)) (fits 2) (fits 3) (fits 4) (fits 5))
    long_short i l [] fits sound ge (inl e) = absurd (omega (arith, (not_zero (i ∷ l ∷ []) sound ge).5))
    long_short i l [] fits sound ge (inr (inl e)) = absurd (omega (arith, (not_zero (i ∷ l ∷ []) sound ge).5))
    long_short i l [] fits sound ge (inr (inr (inl e))) = absurd (omega (arith, (not_zero (i ∷ l ∷ []) sound ge).5))
    long_short i l (a ∷ []) fits sound ge (inr (inl e)) = absurd (omega (arith, (not_zero (i ∷ l ∷ a ∷ []) sound ge).5))
    long_short i l (a ∷ []) fits sound ge (inr (inr (inl e))) = absurd (omega (arith, (not_zero (i ∷ l ∷ a ∷ []) sound ge).5))
    long_short i l (a ∷ b ∷ []) fits sound ge (inr (inr (inl e))) = absurd (omega (arith, (not_zero (i ∷ l ∷ a ∷ b ∷ []) sound ge).5))
    long_short i l [] fits sound ge (inr (inr (inr e))) = absurd (omega (arith, (not_zero (i ∷ l ∷ []) sound ge).5))
    long_short i l (a ∷ []) fits sound ge (inr (inr (inr e))) = absurd (omega (arith, (not_zero (i ∷ l ∷ a ∷ []) sound ge).5))
    long_short i l (a ∷ b ∷ []) fits sound ge (inr (inr (inr e))) = absurd (omega (arith, (not_zero (i ∷ l ∷ a ∷ b ∷ []) sound ge).5))
    long_short i l (a ∷ b ∷ d ∷ []) fits sound ge (inr (inr (inr e))) = absurd (omega (arith, (not_zero (i ∷ l ∷ a ∷ b ∷ d ∷ []) sound ge).5))

-- how many octets the contents has, and that they are the limit's
pub contents_fits : (text : List ℕ) → IsSound text → (length (contents_of text) ≡ contents_len text) × (contents_len text < contents_limit)
contents_fits text sound = (length-take-le (contents_len text) (drop (header_len text) text) (let w = sound.within in omega (arith, length-drop (header_len text) text)), bounded)
  where
    bounded : contents_len text < contents_limit
    bounded = elim (cases_lt (contents_len text) contents_limit) [ inl lt ↦ lt | inr le ↦ absurd (sound.keeps TooLong 1 (omega arith) (sound.whole, le)) ]

pub encoded : (text : List ℕ) → ((k : ℕ) → get_or text k 0 < 256) → IsSound text → take (end_of text) text ≡ encoding_of (get_or text 0 0) (contents_of text)
encoded text fits sound =
    take-add (header_len text) (contents_len text) text ∙ rw (is_short text fits sound, (contents_fits text sound).0) refl
