-- Contents that are DER of their own: the value inside, or the first fault.
use Rattle.std.specs.Prelude.{◌⊎◌, ℕ, ◌+◌, List, Result, Ok, Err}
use Rattle.std.proofs.Common.{inl, inr}
use Rattle.der.specs.declared.fault.Rule.{Rule}
use Rattle.der.specs.Laws.{AreOctets, Decision}
use Rattle.der.proofs.Laws.{decide, are_octets}
use Rattle.asn.specs.Place.{Place, body_place}

-- octets encode a value or have a first fault, which is decided: the answer
abbrev pub answer_of : (text : List ℕ) → Decision text → Result (Unit {0}) (Rule × ℕ)
answer_of text (inl value) = Ok tt
answer_of text (inr (rule, at, first)) = Err (rule, at)

abbrev pub first_fault_if : (text : List ℕ) → (AreOctets text ⊎ (AreOctets text → ⊥)) → Result (Unit {0}) (Rule × ℕ)
first_fault_if text (inl octets) = answer_of text (decide text octets)
first_fault_if text (inr none) = Ok tt

-- the first fault of octets: nothing where they are the encoding of a value
unfoldable pub first_fault_in : List ℕ → Result (Unit {0}) (Rule × ℕ)
first_fault_in text = first_fault_if text (are_octets text)

-- the place of a fault counts from the octets' own place
abbrev pub placed : Result (Unit {0}) (Rule × ℕ) → Place → Result Place (Rule × ℕ)
placed (Ok done) place = Ok place
placed (Err fault) place = Err (fault.0, place.at + fault.1)

-- the value that the whole input is
unfoldable pub outermost : List ℕ → Result Place (Rule × ℕ)
outermost text = placed (first_fault_in text) (record { octets = text; at = 0 })

-- the value that the contents of a value are, which is at depth 1 again
unfoldable pub nested : Place → Result Place (Rule × ℕ)
nested value = placed (first_fault_in (body_place value).octets) (body_place value)
