-- What the encoding determines.
use Rattle.std.specs.Prelude.{◌≡◌, ◌⊎◌, ℕ, ◌<◌, List, ◌++◌, slice_index}
use Rattle.der.specs.Value.{Value}
use Rattle.der.specs.Encoding.{Encodes}
use Rattle.der.specs.FirstFault.{IsFirstFault}
use Rattle.der.specs.declared.fault.Rule.{Rule}
use Rattle.der.specs.declared.fault.Fault.{Fault}
use Rattle.der.specs.declared.fault.Fault.TheVariants.{Refused}

-- a value has at most one encoding
abbrev pub OneEncoding : Type 0
OneEncoding = (a b : List ℕ) (v : Value) → Encodes a v → Encodes b v → a ≡ b

-- no encoding begins another, and a text is the encoding of at most one value
abbrev pub OneValue : Type 0
OneValue = (a b x y : List ℕ) (v w : Value) → Encodes a v → Encodes b w → a ++ x ≡ b ++ y → (a ≡ b) × (v ≡ w)

-- a text has at most one first fault: the rule and the place
abbrev pub OneFault : Type 0
OneFault =
    (text : List ℕ) (r s : Rule) (p q : ℕ) →
    IsFirstFault text (Refused r p) → IsFirstFault text (Refused s q) → (r ≡ s) × (p ≡ q)

-- elements of the list are octets
abbrev pub AreOctets : List ℕ → Type 0
AreOctets text = (k : ℕ) → slice_index text k < 256

-- octets are the encoding of a value or have a first fault
abbrev pub Decision : List ℕ → Type 0
Decision text = ((value : Value) × Encodes text value) ⊎ ((rule : Rule) × (at : ℕ) × IsFirstFault text (Refused rule at))

-- and never both
pub record EncodedOrRefused : Type 0 where
  pub one : (text : List ℕ) → AreOctets text → Decision text
  pub apart : (text : List ℕ) (value : Value) (fault : Fault) → Encodes text value → IsFirstFault text fault → ⊥
