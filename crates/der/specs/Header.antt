-- What the code knows of a header that it has read.
use Rattle.std.specs.Prelude.{◌≡◌, ◌≢◌, ℕ, ◌<◌, ◌≤◌, List, ◌++◌, length, slice_index, take, false}
use Rattle.der.specs.Value.{Value}
use Rattle.der.specs.Identifier.{is_refused}
use Rattle.der.specs.Encoding.{EncodesAt}
use Rattle.der.specs.Length.{contents_limit, first_length, header_len, contents_len, end_of, IsHeaderWhole}
use Rattle.der.specs.FirstFault.{Breaks, BreaksFirst}
use Rattle.der.specs.Fault.{rule_number}
use Rattle.der.specs.declared.fault.Rule.{Rule}
use Rattle.der.specs.declared.fault.Rule.TheVariants.{LengthForm, Truncated}
use Rattle.der.specs.declared.header.Header.{Header}

-- none of the rules on a header is broken, at whatever depth
pub record IsSound (text : List ℕ) : Type 0 where
  pub keeps : (rule : Rule) (depth : ℕ) → rule_number rule < 5 → Breaks rule depth text → ⊥
  pub whole : IsHeaderWhole text
  pub within : end_of text ≤ length text

pub record IsHeaderOf (text : List ℕ) (header : Header) : Type 0 where
  pub sound : IsSound text
  pub identifier : header.identifier ≡ slice_index text 0
  pub len : header.len ≡ header_len text
  pub contents : header.contents ≡ contents_len text

-- the header at the front of the text breaks the rule, and none with a lesser number, at whatever depth the value stands
abbrev pub BreaksHeaderRule : List ℕ → Rule → Type 0
BreaksHeaderRule text rule = (depth : ℕ) → (rule_number rule < 5) × BreaksFirst rule depth text

-- what the octets before the contents say, whatever rules they break
pub record SaysHeader (text : List ℕ) (header : Header) : Type 0 where
  pub identifier : header.identifier ≡ slice_index text 0
  pub len : header.len ≡ header_len text
  pub contents : header.contents ≡ contents_len text

-- The length octets are all there, in the definite form, and at most four follow the first.
pub record HasServedLength (text : List ℕ) : Type 0 where
  pub whole : IsHeaderWhole text
  pub short : header_len text ≤ 6
  pub definite : first_length text ≢ 128

-- The length octets are these, and break no rule that a length can break by itself.
pub record IsLengthOf (text : List ℕ) (len contents : ℕ) : Type 0 where
  pub len_is : len ≡ header_len text
  pub contents_is : contents ≡ contents_len text
  pub whole : IsHeaderWhole text
  pub form : Breaks LengthForm 1 text → ⊥
  pub bounded : contents_len text < contents_limit

-- a rule that the length octets break is the first after the identifier's
abbrev pub KeepsLength : List ℕ → Rule → Type 0
KeepsLength text rule = (other : Rule) → 1 < rule_number other → rule_number other < rule_number rule → Breaks other 1 text → ⊥

-- The length octets break the rule, which is one on a header behind the identifier's, and none before it.
abbrev pub BreaksLengthRule : List ℕ → Rule → Type 0
BreaksLengthRule text rule =
    (depth : ℕ) → Breaks rule depth text × (1 < rule_number rule) × (rule_number rule < 5) × KeepsLength text rule

-- if the rule is that the text is cut short, it ends within the header
abbrev pub EndsInHeader : List ℕ → Rule → Type 0
EndsInHeader text rule = rule ≡ Truncated → length text < header_len text

-- The first octets of a text, behind which its header goes on: no rule is broken so far.
pub record GoesOn (front : List ℕ) : Type 0 where
  pub short : length front < header_len front
  pub accepted : 0 < length front → is_refused (slice_index front 0) ≡ false
  pub definite : first_length front ≢ 128
  pub unreserved : first_length front ≢ 255

-- The octets begin with a whole header that breaks no rule, whatever follows them.
pub record HasHeader (front : List ℕ) (header : Header) : Type 0 where
  pub accepted : is_refused (slice_index front 0) ≡ false
  pub identifier : header.identifier ≡ slice_index front 0
  pub lengths : IsLengthOf front header.len header.contents

-- The rule is the first that is broken by every text that begins with these octets.
abbrev pub IsBrokenAhead : List ℕ → Rule → Type 0
IsBrokenAhead front rule = (rule_number rule < 4) × ((behind : List ℕ) → BreaksFirst rule 1 (front ++ behind))

-- the text begins with the encoding of a value, which has this many octets
pub record BeginsWithValue (depth : ℕ) (text : List ℕ) (len : ℕ) : Type 0 where
  pub len_is : len ≡ end_of text
  pub sound : IsSound text
  pub encoded : (value : Value) × EncodesAt depth (take len text) value
