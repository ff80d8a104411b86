-- Values of attributes, as they are compared (RFC 5280, 7.1).
use Rattle.std.specs.Prelude.{ℕ, List, ◌∷◌, Bool, ◌==◌, ◌||◌, cond}
use Rattle.names_distinguished.specs.declared.attribute.Attribute.{Attribute}
use Rattle.names_text.specs.Preparation.{prepared}

-- UTF8String, PrintableString and IA5String
abbrev pub is_text : ℕ → Bool
is_text tag = tag == 12 || (tag == 19 || tag == 22)

-- a value as it is compared: a prepared text, or the identifier and contents of a value of another type
pub data ComparedValue : Type 0 where
  Text : List ℕ → ComparedValue
  Other : List ℕ → ComparedValue

abbrev pub compared : ℕ → List ℕ → ComparedValue
compared tag contents = cond (is_text tag) (Text (prepared contents)) (Other (tag ∷ contents))

abbrev pub compared_value : Attribute → ComparedValue
compared_value a = compared a.tag a.contents.now
