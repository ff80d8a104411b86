-- ReasonFlags (RFC 5280, 4.2.1.13): BIT STRING { unused (0), keyCompromise (1), cACompromise (2),
-- affiliationChanged (3), superseded (4), cessationOfOperation (5), certificateHold (6), privilegeWithdrawn (7),
-- aACompromise (8) }
use Rattle.std.specs.Prelude.{◌≡◌, ◌↔◌, ◌==◌, ◌&&◌, ◌-◌, ◌%◌, ◌^◌, ℕ, Bool, false, nat_lt, List, [], ◌∷◌, length, slice_index, Result, Ok}
use Rattle.asn.specs.Contents.{IsBitString}
use Rattle.asn.specs.Place.{Place, body}
use Rattle.asn.specs.Walk.{◌>>=◌, check_that}
use Rattle.cert.specs.BitString.{bits_in}
use Rattle.cert.specs.declared.fault.CertRule.{CertRule}
use Rattle.cert.specs.declared.fault.CertRule.TheVariants.{ExtensionValue}

-- contents of a BIT STRING (X.690, 8.6.2, 11.2.1), which DER leaves unchecked under a context tag
abbrev pub is_bit_string : List ℕ → Bool
is_bit_string [] = false
is_bit_string (unused ∷ []) = unused == 0
is_bit_string (unused ∷ first ∷ bits) =
    nat_lt unused 8 && (slice_index (first ∷ bits) (length (first ∷ bits) - 1) % (2 ^ unused) == 0)

unfoldable pub reason_flags : Place → Result (List ℕ) (CertRule × ℕ)
reason_flags value = do
  form ← check_that (is_bit_string (body value)) ExtensionValue value.at
  Ok (bits_in (body value))

-- The contents are those of a BIT STRING, and these are the octets of its bits.
pub record AreReasonFlags (value : Place) (bits : List ℕ) : Type 0 where
  pub unused : ℕ
  pub form : IsBitString (body value)
  pub contents : body value ≡ unused ∷ bits

abbrev pub ReasonFlagsAreExact : Type 0
ReasonFlagsAreExact =
    (value : Place) (bits : List ℕ) → (reason_flags value ≡ Ok bits) ↔ AreReasonFlags value bits
