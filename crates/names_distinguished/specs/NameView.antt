-- What names hold, without where it lies in memory.
use Rattle.std.specs.Prelude.{◌≡◌, List, ◌∷◌, ◌++◌, map, Option, MatchOption}
use Rattle.std.specs.List.{AllByRecursion}
use Rattle.asn.specs.Members.{left}
use Rattle.names_distinguished.specs.declared.attribute.Attribute.{Attribute}
use Rattle.names_distinguished.specs.declared.rdn.Rdn.{Rdn}
use Rattle.names_distinguished.specs.declared.rdn_sequence.RdnSequence.{RdnSequence}
use Rattle.names_distinguished.specs.AttributeValue.{compared_value}
use Rattle.names_distinguished.specs.DistinguishedName.{ComparedAttribute, RdnMap, rdn_map, AgreeAt, IsWithin}
use Rattle.names_distinguished.specs.NameParts.{entry_at, map_at}

abbrev pub entry_of : Attribute → ComparedAttribute
entry_of a = (a.kind.now, compared_value a)

unfoldable pub entries_of : Rdn → List ComparedAttribute
entries_of rdn = map entry_at (left rdn.attributes).values

-- the first attribute of a set, and those behind it
abbrev pub IsFirstAttribute : Rdn → Attribute × Rdn → Type 0
IsFirstAttribute rdn parts = entries_of rdn ≡ entry_of parts.0 ∷ entries_of parts.1

-- the sets have the same value, or both none, of each type that the first one has
abbrev pub AgreeOnFirst : Rdn → Rdn → Type 0
AgreeOnFirst rdn other = AllByRecursion (λ e. AgreeAt (entries_of rdn) (entries_of other) e.0) (entries_of rdn)

abbrev pub map_of : Rdn → RdnMap
map_of rdn = rdn_map (entries_of rdn)

unfoldable pub maps_of : RdnSequence → List RdnMap
maps_of sequence = map map_at (left sequence.rdns).values

-- the first set of a name, and those behind it
abbrev pub IsFirstRdn : RdnSequence → Rdn × RdnSequence → Type 0
IsFirstRdn sequence parts = maps_of sequence ≡ map_of parts.0 ∷ maps_of parts.1

-- the first name begins with all sets of the other, and these are left; or it does not
abbrev pub LeavesBehind : RdnSequence → RdnSequence → Option RdnSequence → Type 0
LeavesBehind sequence other result =
    MatchOption result (¬ (IsWithin (maps_of sequence) (maps_of other)))
    (λ rest. maps_of sequence ≡ maps_of other ++ maps_of rest)
