-- Purposes on the command line: OBJECT IDENTIFIERs in dotted decimal, and their contents octets (X.690 8.19).
use Rattle.std.specs.Prelude.{◌≡◌, ◌≢◌, ◌<◌, ◌≤◌, ◌+◌, ◌*◌, ◌/◌, ◌%◌, ◌^◌, ◌==◌, ℕ, List, [], ◌∷◌, ◌++◌, map, length, slice_index}
use Rattle.std.specs.List.{All, flat_map, slice_split}
use Rattle.std.specs.Fmt.{decimal}
use Rattle.std.specs.Int.Digits.{digits_of}

-- the text is these numbers in decimal, with a dot between each two
abbrev pub IsDotted : List ℕ → List ℕ → Type 0
IsDotted text arcs = slice_split (λ octet. octet == 46) text ≡ map decimal arcs

-- a decimal number may stand so: with no plus in front, and with no zero before another digit
pub record IsPlain (text : List ℕ) : Type 0 where
  pub some : 0 < length text
  pub unsigned : slice_index text 0 ≢ 43
  pub short : slice_index text 0 ≡ 48 → length text ≡ 1

-- a number of 63 bits
abbrev pub IsServedArc : ℕ → Type 0
IsServedArc number = number < 2 ^ 63

-- two numbers with which an OBJECT IDENTIFIER may begin: the first is 0, 1 or 2, and where it is not 2, the second is below 40 (8.19.4)
pub record MayBegin (first second : ℕ) : Type 0 where
  pub root : first ≤ 2
  pub below : first < 2 → second < 40
  pub served : IsServedArc (first * 40 + second)

-- the numbers of an OBJECT IDENTIFIER
abbrev pub AreOidNumbers : List ℕ → Type 0
AreOidNumbers [] = ⊥
AreOidNumbers (first ∷ []) = ⊥
AreOidNumbers (first ∷ second ∷ others) = MayBegin first second × All IsServedArc others

-- the subidentifiers: one for the first two of the numbers, and one for each other (8.19.3, 8.19.4)
abbrev pub subidentifiers : List ℕ → List ℕ
subidentifiers [] = []
subidentifiers (first ∷ []) = []
subidentifiers (first ∷ second ∷ others) = (first * 40 + second) ∷ others

-- the octets of a subidentifier, seven bits each, the highest first; bit 8 is one in all but the last (8.19.2)
abbrev pub leading_octets : ℕ → List ℕ
leading_octets number = map (λ digit. 128 + digit) (digits_of 128 number)

abbrev pub subidentifier_octets : ℕ → List ℕ
subidentifier_octets number = leading_octets (number / 128) ++ (number % 128) ∷ []

abbrev pub contents_of_arcs : List ℕ → List ℕ
contents_of_arcs arcs = flat_map subidentifier_octets (subidentifiers arcs)

-- the text is the dotted decimal of an OBJECT IDENTIFIER with these contents octets
pub record NamesPurpose (text contents : List ℕ) : Type 0 where
  pub arcs : List ℕ
  pub are : AreOidNumbers arcs
  pub dotted : IsDotted text arcs
  pub spelled : contents ≡ contents_of_arcs arcs
