-- Lists of values that all have a property.
use Rattle.std.proofs.Common.{List, [], ◌∷◌, ◌++◌}
use Rattle.std.specs.List.{AllByRecursion}
use Rattle.asn.specs.DerLaws.{AreOctets}
use Rattle.asn.specs.Place.{Place}

-- their octets are octets
abbrev pub Octets : Place → Type 0
Octets value = AreOctets value.octets

pub all_behind : (P : Place → Type 0) (front behind : List Place) → AllByRecursion P (front ++ behind) → AllByRecursion P behind
all_behind P [] behind all = all
all_behind P (place ∷ front) behind all = all_behind P front behind all.1

pub last_of : (P : Place → Type 0) (front : List Place) (value : Place) → AllByRecursion P (front ++ value ∷ []) → P value
last_of P front value all = (all_behind P front (value ∷ []) all).0
