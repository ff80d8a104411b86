-- The length octets of an encoding are served.
use Rattle.std.proofs.Common.{◌≡◌, ℕ, ◌≤◌, List, ◌++◌, length, arith, inl, inr}
use Rattle.std.proofs.lemmas.Bool.{le-ltb, lt-ltb, cases_lt}
use Rattle.der.specs.Length.{length_octets}
use Rattle.der.specs.Value.{Value}
use Rattle.der.specs.Encoding.{EncodesAt}
use Rattle.der.specs.Header.{HasServedLength}
use Rattle.der.proofs.Clean.{parts_of, front_of}

at_most_five : (n : ℕ) → length (length_octets n) ≤ 5
at_most_five n =
    elim (cases_lt n 128) [
      | inl a ↦ rw (lt-ltb n 128 a) (omega arith)
      | inr a ↦ rw (le-ltb n 128 a) (elim (cases_lt n 256) [
        | inl b ↦ rw (lt-ltb n 256 b) (omega arith)
        | inr b ↦ rw (le-ltb n 256 b) (elim (cases_lt n 65536) [
          | inl c ↦ rw (lt-ltb n 65536 c) (omega arith)
          | inr c ↦ rw (le-ltb n 65536 c) (elim (cases_lt n 16777216) [
            | inl d ↦ rw (lt-ltb n 16777216 d) (omega arith)
            | inr d ↦ rw (le-ltb n 16777216 d) (omega arith)
          ])
        ])
      ])
    ]

pub served_length : (depth : ℕ) (text x rest : List ℕ) (v : Value) → text ≡ x ++ rest → EncodesAt depth x v → HasServedLength text
served_length depth text x rest v e sp =
    let p = parts_of v depth x sp in
    let lengths = (front_of depth text x rest p.0 p.1 e p.2).lengths_are in
    record {
      whole = lengths.whole;
      short = omega (arith, lengths.len_is, at_most_five (length p.1));
      definite = λ is. lengths.form (lengths.whole.0, inl is);
    }
