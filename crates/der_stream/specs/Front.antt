-- What is read of a source that is to hold values, and why that is enough.
use Rattle.std.specs.Prelude.{◌≡◌, ◌↔◌, ◌⊎◌, ℕ, ◌+◌, ◌<◌, ◌≤◌, List, ◌++◌, Option, Some, None, Bool, true, false, Vec, length, drop}
use Rattle.std.specs.Io.{StartsWith}
use Rattle.std.specs.Io.KnownBytes.{Consumes, IsAtEnd}
use Rattle.der.specs.Length.{end_of}
use Rattle.der.specs.Header.{IsBrokenAhead}
use Rattle.der.specs.Value.{Value}
use Rattle.der.specs.Encoding.{Encodes}
use Rattle.der.specs.FirstFault.{IsFirstFault}
use Rattle.der.specs.Laws.{AreOctets}
use Rattle.der.specs.declared.fault.Rule.{Rule}
use Rattle.der.specs.declared.fault.Fault.{Fault}
use Rattle.der_stream.specs.Stream.{HasFaultlessHeader, IsHeaderRead}

-- So many values stand at the front of the text, one behind the other, and the last ends at this place. Of each the header is whole and
-- breaks no rule, and as many octets of contents are there as it says, whatever they are.
pub data ValuesEndAt (text : List ℕ) : ℕ → ℕ → Type 0 where
  none : ValuesEndAt text 0 0
  one_more : {count at : ℕ} → ValuesEndAt text count at
      → HasFaultlessHeader (drop at text) → at + end_of (drop at text) ≤ length text
      → ValuesEndAt text (count + 1) (at + end_of (drop at text))

-- So many values of a source are looked at. These octets were read of it, which are enough for that, and this is left.
pub data IsEnough (most : ℕ) (octets : List ℕ) (left : Option (List ℕ)) : Type 0 where
  -- the source is at its end
  at_end : IsAtEnd left → IsEnough most octets left
  -- or so many values were read, and an octet behind them
  octet_behind : {at : ℕ} → ValuesEndAt octets most at → at < length octets → IsEnough most octets left
  -- or fewer, and behind them the octets of a header that is refused, whatever follows
  refused_header : {count at : ℕ} (rule : Rule) → count < most → ValuesEndAt octets count at → IsBrokenAhead (drop at octets) rule
      → IsEnough most octets left

-- fewer of these octets would not be enough
abbrev pub AreAllNeeded : ℕ → List ℕ → Type 0
AreAllNeeded most octets =
    (front behind : List ℕ) → octets ≡ front ++ behind → 0 < length behind → IsEnough most front (Some behind) → ⊥

-- the two texts have the same first fault, or are the encoding of the same value
abbrev pub HaveOneOutcome : List ℕ → List ℕ → Type 0
HaveOneOutcome octets text =
    ((fault : Fault) → IsFirstFault octets fault ↔ IsFirstFault text fault)
    × ((value : Value) → Encodes octets value ↔ Encodes text value)

-- if one value is looked at, what is enough of a text has its outcome
abbrev pub OneIsShown : Type 0
OneIsShown =
    (octets left : List ℕ) → AreOctets octets → IsEnough 1 octets (Some left) → HaveOneOutcome octets (octets ++ left)

-- if several are, the same holds from the first octet of each
abbrev pub EachIsShown : Type 0
EachIsShown =
    (most : ℕ) (octets left : List ℕ) → AreOctets octets → IsEnough most octets (Some left) →
    (count at : ℕ) → count < most → ValuesEndAt (octets ++ left) count at →
    HaveOneOutcome (drop at octets) (drop at (octets ++ left))

-- the buffer holds what it held, and behind it what the source had next
pub record ReadsBehind {A : Type 0} (old new : Option (List ℕ)) (before after : Vec ℕ A) : Type 0 where
  pub front : StartsWith after.items before.items
  pub read : Consumes old new (drop (length before.items) after.items)

-- the buffer has so many octets, or the source is at its end
abbrev pub IsFilled : ℕ → List ℕ → Option (List ℕ) → Type 0
IsFilled len octets left = (len ≤ length octets) ⊎ IsAtEnd left

-- These octets are no whole value: the source is at its end, or their header is refused, which fewer of them would not show.
pub record HasNoValue (octets : List ℕ) (left : Option (List ℕ)) : Type 0 where
  pub reason : IsAtEnd left ⊎ ((rule : Rule) × IsBrokenAhead octets rule)
  pub cut : HasFaultlessHeader octets → length octets < end_of octets
  pub needed : (front behind : List ℕ) (rule : Rule) → octets ≡ front ++ behind → 0 < length behind → IsBrokenAhead front rule → ⊥

-- the octets are a header, whose value has so many octets of contents, or no whole value
abbrev pub IsHeader : List ℕ → Option (List ℕ) → Option ℕ → Type 0
IsHeader octets left (Some contents) = IsHeaderRead octets (length octets + contents)
IsHeader octets left None = HasNoValue octets left

-- the octets are a header and all its contents, or no whole value
abbrev pub IsWholeOrNone : List ℕ → Option (List ℕ) → Bool → Type 0
IsWholeOrNone octets left true = HasFaultlessHeader octets × (length octets ≡ end_of octets)
IsWholeOrNone octets left false = HasNoValue octets left
