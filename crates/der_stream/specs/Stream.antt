-- One value from the front of a source of octets.
use Rattle.std.specs.Prelude.{◌≡◌, ◌==◌, ◌||◌, ℕ, ◌<◌, ◌≤◌, List, [], ◌∷◌, ◌++◌, length, take, drop, ⊤, Option, Some, None, Vec, option_map, if◌then◌else◌}
use Rattle.std.specs.Io.KnownBytes.{Consumes, IsAtEnd}
use Rattle.der.specs.Value.{Value}
use Rattle.der.specs.Length.{first_length, header_len, end_of, IsHeaderWhole}
use Rattle.der.specs.Encoding.{Encodes}
use Rattle.der.specs.FirstFault.{Breaks, FirstFaultIn}
use Rattle.der.specs.Fault.{rule_number}
use Rattle.der.specs.declared.fault.Rule.{Rule}
use Rattle.der.specs.declared.fault.Rule.TheVariants.{TagForm, LengthForm, TooLong, Truncated, TooDeep, Content, Trailing}
use Rattle.der.specs.declared.fault.Fault.TheVariants.{Refused, Memory}
use Rattle.der_stream.specs.declared.reading.ReadFault.{ReadFault}
use Rattle.der_stream.specs.declared.reading.ReadFault.TheVariants.{Fault, Limit, Io}

-- what is answered, if the source does not fail and memory does not run out
pub data StreamAnswer : Type 0 where
  value : List ℕ → StreamAnswer
  ended : StreamAnswer
  past_limit : StreamAnswer
  refused : Rule → ℕ → StreamAnswer

-- the header is all there, and no rule on it is broken
abbrev pub HasFaultlessHeader : List ℕ → Type 0
HasFaultlessHeader text = IsHeaderWhole text × ((rule : Rule) → rule_number rule < 4 → Breaks rule 1 text → ⊥)

-- how many octets show that the outermost value breaks a rule
abbrev pub octets_to_see : Rule → List ℕ → ℕ
octets_to_see TagForm text = 1
octets_to_see LengthForm text = if first_length text == 128 || first_length text == 255 then 2 else header_len text
octets_to_see TooLong text = header_len text
octets_to_see Truncated text = length text
octets_to_see TooDeep text = end_of text
octets_to_see Content text = end_of text
octets_to_see Trailing text = end_of text

-- how many octets are read of a text that is refused for a rule at a place: no more than show it, or the whole outermost value
abbrev pub octets_read : Rule → ℕ → List ℕ → ℕ
octets_read rule at text = if at == 0 then octets_to_see rule text else end_of text

-- Before the call the source has the octets `text` left, and then the octets `left`.
abbrev pub ReadsNext : ℕ → List ℕ → List ℕ → StreamAnswer → Type 0
ReadsNext limit text left (value octets) = ((v : Value) × Encodes octets v) × (length octets ≤ limit) × (text ≡ octets ++ left)
ReadsNext limit text left ended = (text ≡ []) × (left ≡ [])
ReadsNext limit text left past_limit = HasFaultlessHeader text × (limit < end_of text) × (left ≡ drop (header_len text) text)
ReadsNext limit text left (refused rule at) =
    (0 < length text) × FirstFaultIn 1 text rule at × (HasFaultlessHeader text → end_of text ≤ limit)
    × (left ≡ drop (octets_read rule at text) text)

-- the same of a source that tells what it has left
abbrev pub TakesFrom : ℕ → Option (List ℕ) → Option (List ℕ) → StreamAnswer → Type 0
TakesFrom limit None left answer = ⊤
TakesFrom limit (Some text) None answer = ⊥
TakesFrom limit (Some text) (Some left) answer = ReadsNext limit text left answer

abbrev pub TakesValue : ℕ → Option (List ℕ) → Option (List ℕ) → Option (List ℕ) → Type 0
TakesValue limit text left None = TakesFrom limit text left ended
TakesValue limit text left (Some octets) = TakesFrom limit text left (value octets)

abbrev pub TakesFault : ℕ → Option (List ℕ) → Option (List ℕ) → ReadFault → Type 0
TakesFault limit text left (Fault (Refused rule at)) = TakesFrom limit text left (refused rule at)
TakesFault limit text left (Fault Memory) = ⊤
TakesFault limit text left Limit = TakesFrom limit text left past_limit
TakesFault limit text left Io = ⊤

-- the octets that a source has left and the limit leave one answer, and one place behind it
abbrev pub OneAnswer : Type 0
OneAnswer =
    (limit : ℕ) (text : List ℕ) (left right : List ℕ) (one other : StreamAnswer) →
    ReadsNext limit text left one → ReadsNext limit text right other → (one ≡ other) × (left ≡ right)

-- What the code knows of the octets that it has read: they are a header that breaks no rule, of a value with so many octets.
pub record IsHeaderRead (octets : List ℕ) (len : ℕ) : Type 0 where
  pub faultless : HasFaultlessHeader octets
  pub whole : length octets ≡ header_len octets
  pub len_is : len ≡ end_of octets

-- An octet was read, or the source is at its end.
abbrev pub ReadsOctet : Option (List ℕ) → Option (List ℕ) → Option ℕ → Type 0
ReadsOctet old new (Some octet) = Consumes old new (octet ∷ [])
ReadsOctet old new None = Consumes old new [] × IsAtEnd new

-- These octets of a header were read, or the source is at its end, so that no value is read from it.
abbrev pub ReadsHeader : {R : Type 0} → (R → Option (List ℕ)) → R → R → List ℕ → Option ℕ → Type 0
ReadsHeader remaining old new octets (Some len) = Consumes (remaining old) (remaining new) octets
ReadsHeader remaining old new octets None = (limit : ℕ) → TakesValue limit (remaining old) (remaining new) None

-- the fault of a header, or no fault of the octets, whatever the limit is
abbrev pub IsHeaderFault : Option (List ℕ) → Option (List ℕ) → ReadFault → Type 0
IsHeaderFault old new fault = (limit : ℕ) → TakesFault limit old new fault

-- So many octets were read into the buffer, behind the octets that filled it.
abbrev pub Fills : {R : Type 0} → (R → Option (List ℕ)) → R → R → ℕ → List ℕ → ℕ → Type 0
Fills remaining old new filled buffer count = Consumes (remaining old) (remaining new) (take count (drop filled buffer))

-- what was read are the octets behind those that the buffer held
abbrev pub ReadsMore : {R A : Type 0} → (R → Option (List ℕ)) → R → R → Vec ℕ A → Vec ℕ A → Type 0
ReadsMore remaining old new held octets =
    Consumes (remaining old) (remaining new) (drop (length held.items) octets.items)

-- the fault of a value with so many octets, or no fault of the octets, where the buffer holds what was read first
abbrev pub IsContentsFault : {R A : Type 0} → ℕ → (R → Option (List ℕ)) → R → R → Vec ℕ A → ReadFault → Type 0
IsContentsFault len remaining old new held fault =
    (limit : ℕ) (first : Option (List ℕ)) → len ≤ limit → Consumes first (remaining old) held.items
    → TakesFault limit first (remaining new) fault

-- the value that is answered, if one is, was read, and nothing behind it
abbrev pub TakesOctets : {R A : Type 0} → ℕ → (R → Option (List ℕ)) → R → R → Option (Vec ℕ A) → Type 0
TakesOctets limit remaining old new found =
    TakesValue limit (remaining old) (remaining new) (option_map (λ octets. octets.items) found)

-- the source is refused for the fault, and no octet was read that it does not need
abbrev pub IsRefusedBy : {R : Type 0} → ℕ → (R → Option (List ℕ)) → R → R → ReadFault → Type 0
IsRefusedBy limit remaining old new fault = TakesFault limit (remaining old) (remaining new) fault

-- the encoding of one value, within the limit
abbrev pub IsValueWithin : ℕ → List ℕ → Type 0
IsValueWithin limit octets = ((v : Value) × Encodes octets v) × (length octets ≤ limit)

-- memory ran out, or the source failed
abbrev pub IsNoRefusal : ReadFault → Type 0
IsNoRefusal (Fault (Refused rule at)) = ⊥
IsNoRefusal (Fault Memory) = ⊤
IsNoRefusal Limit = ⊥
IsNoRefusal Io = ⊤
