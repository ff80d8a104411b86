-- Which value a tree of the code is, and what is answered of values and their encodings.
use Rattle.std.specs.Prelude.{◌≡◌, ◌<◌, ℕ, List, [], ◌∷◌, map, Result, MatchResult}
use Rattle.std.specs.Global.{Vec}
use Rattle.der.specs.Value.{Value, primitive, constructed, Values, none, more}
use Rattle.der.specs.Length.{contents_limit}
use Rattle.der.specs.Encoding.{EncodesAllAt, Encodes}
use Rattle.der.specs.declared.fault.Fault.{Fault}
use Rattle.der.specs.declared.fault.Fault.TheVariants as F
use Rattle.asn.specs.declared.tlv.Tlv.{Tlv}
use Rattle.asn.specs.declared.tlv.Cursor.{Cursor}
use Rattle.asn.specs.Place.{remaining}
use Rattle.asn.specs.Shows.{Shows}
use Rattle.asn.specs.Size.{size_of, size_of_all, IsEncodableAt, AreEncodableAt}
use Rattle.der_tree.specs.declared.encoding.EncodeFault.{EncodeFault}
use Rattle.der_tree.specs.declared.encoding.EncodeFault.TheVariants as E
use Rattle.der_tree.specs.declared.tree.Tree.{Tree, fold-Tree}
use Rattle.der_tree.specs.declared.tree.Tree.TheOpen.{Tree-F}

abbrev pub as_values : List Value → Values
as_values [] = none
as_values (value ∷ values) = more value (as_values values)

-- one level, with each tree inside already seen as its value
abbrev pub value_step : Tree-F Value → Value
value_step (Tree-F.Primitive identifier contents) = primitive identifier contents.items
value_step (Tree-F.Constructed identifier inner) = constructed identifier (as_values inner.items)

-- the value of a tree, apart from where it lies in memory
abbrev pub value_of : Tree → Value
value_of = fold-Tree Value value_step

abbrev pub values_of_trees : List Tree → Values
values_of_trees trees = as_values (map value_of trees)

-- The tree is the value that is shown, whatever depth it stands at.
abbrev pub IsTreeOf : Tlv → Tree → Type 0
IsTreeOf tlv tree = (depth : ℕ) (value : Value) → Shows depth value tlv → value_of tree ≡ value

-- The trees are the values that the cursor has left, one for one.
abbrev pub AreTreesIn : Cursor → List Tree → Type 0
AreTreesIn members trees =
    (depth : ℕ) (values : Values) → EncodesAllAt depth (remaining members).octets values → values_of_trees trees ≡ values

-- If the octets encode a value, its tree is answered, unless memory is refused.
abbrev pub GivesTree : List ℕ → Result Tree Fault → Type 0
GivesTree octets result =
    (value : Value) → Encodes octets value → MatchResult result (λ tree. value_of tree ≡ value) (λ fault. fault ≡ F.Memory)

-- the value has an encoding at this depth, of so many octets
abbrev pub HasSizeAt : ℕ → Value → ℕ → Type 0
HasSizeAt depth value size = IsEncodableAt depth value × (size ≡ size_of value)

-- the values have encodings at this depth, of so many octets together, which are few enough for the contents of one value
abbrev pub HaveSizeAt : ℕ → Values → ℕ → Type 0
HaveSizeAt depth values size = AreEncodableAt depth values × (size ≡ size_of_all values) × (size < contents_limit)

-- a value has no encoding at this depth, or they are too many octets for the contents of one value
abbrev pub HaveNoSizeAt : ℕ → Values → Type 0
HaveNoSizeAt depth values = AreEncodableAt depth values → size_of_all values < contents_limit → ⊥

-- If the value has an encoding, that is answered, unless memory is refused.
abbrev pub GivesEncoding : Value → Result (Vec ℕ) EncodeFault → Type 0
GivesEncoding value result =
    (octets : List ℕ) → Encodes octets value → MatchResult result (λ found. found.items ≡ octets) (λ fault. fault ≡ E.Memory)

-- no octets encode the value
abbrev pub HasNoEncoding : Value → Type 0
HasNoEncoding value = (octets : List ℕ) → Encodes octets value → ⊥
