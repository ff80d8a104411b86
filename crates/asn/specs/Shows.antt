-- What a value and a cursor show of the value that their octets are the encoding of.
use Rattle.std.specs.Prelude.{◌≡◌, ℕ, ◌+◌, ◌++◌, List, Option, None, Some, true, false}
use Rattle.der.specs.Value.{Value, Values, primitive, constructed, none, more}
use Rattle.der.specs.Identifier.{is_constructed}
use Rattle.der.specs.Encoding.{EncodesAt, EncodesAllAt, Encodes}
use Rattle.asn.specs.Place.{remaining}
use Rattle.asn.specs.declared.tlv.Tlv.{Tlv}
use Rattle.asn.specs.declared.tlv.Cursor.{Cursor}

-- the identifier octet with its form, and the contents, or the values inside that the contents are the encodings of
abbrev pub Shows : ℕ → Value → Tlv → Type 0
Shows depth (primitive identifier contents) tlv =
    (tlv.tag ≡ identifier) × (is_constructed tlv.tag ≡ false) × (tlv.body.now ≡ contents)
Shows depth (constructed identifier values) tlv =
    (tlv.tag ≡ identifier) × (is_constructed tlv.tag ≡ true) × EncodesAllAt (depth + 1) tlv.body.now values

-- what stands inside a value: nothing where it is primitive, else the values inside
abbrev pub ShowsInside : ℕ → Value → Option Cursor → Type 0
ShowsInside depth (primitive identifier contents) None = Unit {0}
ShowsInside depth (primitive identifier contents) (Some cursor) = ⊥
ShowsInside depth (constructed identifier values) None = ⊥
ShowsInside depth (constructed identifier values) (Some cursor) = EncodesAllAt (depth + 1) cursor.octets.now values

-- the next of the values, and those that the cursor has left then
abbrev pub ShowsNext : ℕ → Values → Option Tlv → Cursor → Type 0
ShowsNext depth none None left = Unit {0}
ShowsNext depth none (Some tlv) left = ⊥
ShowsNext depth (more value values) None left = ⊥
ShowsNext depth (more value values) (Some tlv) left =
    EncodesAt depth tlv.whole.now value × Shows depth value tlv × EncodesAllAt depth left.octets.now values

-- whatever value the octets are the encoding of, it is shown
abbrev pub ShowsEncoded : List ℕ → Tlv → Type 0
ShowsEncoded octets tlv = (value : Value) → Encodes octets value → Shows 1 value tlv

-- whatever value is shown, at whatever depth, the cursor shows what stands inside it
abbrev pub ShowsContents : Tlv → Option Cursor → Type 0
ShowsContents tlv inside = (depth : ℕ) (value : Value) → Shows depth value tlv → ShowsInside depth value inside

-- whatever values the old cursor has left, the next of them is shown, and the new cursor has the others left
abbrev pub ShowsFirst : Cursor → Option Tlv → Cursor → Type 0
ShowsFirst old next new =
    (depth : ℕ) (values : Values) → EncodesAllAt depth (remaining old).octets values → ShowsNext depth values next new

-- octets that begin with the encoding of a value are cut behind it
abbrev pub CutsBehindValue : List ℕ → Tlv → List ℕ → Type 0
CutsBehindValue octets tlv others =
    (depth : ℕ) (value : Value) (front rest : List ℕ) → octets ≡ front ++ rest → EncodesAt depth front value
    → (tlv.whole.now ≡ front) × (others ≡ rest)
