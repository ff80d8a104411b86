-- The walk of reasons finds what the standard calls them, and nothing else.
use Rattle.std.proofs.Common.{◌≡◌, ◌-◌, ◌%◌, ◌^◌, ◌==◌, ℕ, true, List, [], ◌∷◌, length, Ok, arith, refl, ap, ◌∙◌}
use Rattle.std.specs.Prelude.{nat_lt, slice_index}
use Rattle.std.proofs.lemmas.Bool.{eqb-true, eq-eqb, ltb-true, lt-ltb, and_parts, and_from}
use Rattle.asn.specs.Contents.{IsBitString}
use Rattle.asn.specs.Place.{Place, body}
use Rattle.asn.proofs.Laws.{bind_ok, ok_is, check_ok, check_again}
use Rattle.cert.specs.BitString.{bits_in}
use Rattle.cert.specs.declared.fault.CertRule.{CertRule}
use Rattle.cert.specs.declared.fault.CertRule.TheVariants.{ExtensionValue}
use Rattle.cert_points.specs.ReasonFlags.{is_bit_string, reason_flags, AreReasonFlags}

is_of_bits : (contents : List ℕ) → is_bit_string contents ≡ true → IsBitString contents
is_of_bits [] e = absurd cc
is_of_bits (unused ∷ []) e = let whole = eqb-true unused 0 e in rw whole (omega arith, λ none. refl, omega arith)
is_of_bits (unused ∷ first ∷ bits) e =
    let low = slice_index (first ∷ bits) (length (first ∷ bits) - 1) % (2 ^ unused) in
    let both = and_parts (nat_lt unused 8) (low == 0) e in
    (ltb-true unused 8 both.0, (λ none. absurd (omega (arith, none))), eqb-true low 0 both.1)

of_bits_is : (contents : List ℕ) → IsBitString contents → is_bit_string contents ≡ true
of_bits_is [] is = absurd is
of_bits_is (unused ∷ []) is = eq-eqb unused 0 (is.1 refl)
of_bits_is (unused ∷ first ∷ bits) is =
    let low = slice_index (first ∷ bits) (length (first ∷ bits) - 1) % (2 ^ unused) in
    and_from (nat_lt unused 8) (low == 0) (lt-ltb unused 8 is.0) (eq-eqb low 0 is.2)

counted : (contents : List ℕ) → IsBitString contents → (unused : ℕ) × (contents ≡ unused ∷ bits_in contents)
counted [] is = absurd is
counted (unused ∷ bits) is = (unused, refl)

pub are_reasons : (value : Place) (bits : List ℕ) → reason_flags value ≡ Ok bits → AreReasonFlags value bits
unfolding reason_flags
are_reasons value bits e =
    let checked = bind_ok _ _ bits e in
    let form = is_of_bits (body value) (check_ok _ _ _ _ checked.1) in
    let count = counted (body value) form in
    let same : bits_in (body value) ≡ bits = ok_is {E = CertRule × ℕ} _ bits checked.2 in
    record { unused = count.0; form = form; contents = count.1 ∙ ap (λ (b : List ℕ). count.0 ∷ b) same }

pub reasons_are : (value : Place) (bits : List ℕ) → AreReasonFlags value bits → reason_flags value ≡ Ok bits
unfolding reason_flags
reasons_are value bits are =
    rw (check_again (is_bit_string (body value)) ExtensionValue value.at (of_bits_is (body value) are.form))
    (ap (λ (contents : List ℕ). Ok (bits_in contents)) are.contents)
