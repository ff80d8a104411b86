-- How a value is printed: a line for each value, in order.
use Rattle.std.specs.Prelude.{ℕ, ◌+◌, ◌*◌, List, [], ◌∷◌, ◌++◌, length, replicate}
use Rattle.std.specs.Fmt.{decimal}
use Rattle.hex.specs.Hex.{encode_lower}
use Rattle.asn.specs.Value.{Value, primitive, constructed, Values, none, more}
use Rattle.asn.specs.Size.{size_of_all}

-- two spaces for each level
abbrev pub indent : ℕ → List ℕ
indent level = replicate (2 * level) 32

-- a space and the contents in hexadecimal, where there are any
abbrev pub shown_contents : List ℕ → List ℕ
shown_contents [] = []
shown_contents (octet ∷ octets) = 32 ∷ encode_lower (octet ∷ octets)

-- the indent, the identifier octet, the length of the contents, what is shown of them
abbrev pub line : ℕ → ℕ → ℕ → List ℕ → List ℕ
line level identifier size shown =
    indent level ++ encode_lower (identifier ∷ []) ++ 32 ∷ [] ++ decimal size ++ shown ++ 10 ∷ []

abbrev mutual
  -- the lines of a value at this level, with those of the values inside
  pub lines_of : ℕ → Value → List ℕ
  lines_of level (primitive identifier contents) =
      line level identifier (length contents) (shown_contents contents)
  lines_of level (constructed identifier values) =
      line level identifier (size_of_all values) [] ++ lines_of_all (level + 1) values

  pub lines_of_all : ℕ → Values → List ℕ
  lines_of_all level none = []
  lines_of_all level (more value values) = lines_of level value ++ lines_of_all level values
