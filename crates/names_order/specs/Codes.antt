-- How sets of attributes are told apart: the codes that a model's value is made of.
use Rattle.std.specs.Prelude.{◌≡◌, ◌⊎◌, ℕ, List, refl}
use Rattle.std.specs.Coded.{Coded, code_by, coded⊎, coded_list, coded_ℕ}
use Rattle.std.specs.FinMap.{code}
use mathlib.Core.Logic.{inl, inr}
use Rattle.names.specs.AttributeValue.{ComparedValue, Text, Other}
use Rattle.names.specs.DistinguishedName.{RdnMap}

abbrev pub sides_of : ComparedValue → List ℕ ⊎ List ℕ
sides_of (Text octets) = inl octets
sides_of (Other octets) = inr octets

abbrev pub value_of_sides : List ℕ ⊎ List ℕ → ComparedValue
value_of_sides (inl octets) = Text octets
value_of_sides (inr octets) = Other octets

pub value_of-sides_of : (value : ComparedValue) → value_of_sides (sides_of value) ≡ value
value_of-sides_of (Text octets) = refl
value_of-sides_of (Other octets) = refl

abbrev pub value_code : Coded ComparedValue
value_code = code_by (List ℕ ⊎ List ℕ) (coded⊎ (coded_list coded_ℕ) (coded_list coded_ℕ)) sides_of value_of_sides value_of-sides_of

abbrev pub rdn_code : Coded RdnMap
rdn_code = code (coded_list coded_ℕ) value_code
