-- What a name that was read holds.
use Rattle.std.specs.Prelude.{◌≡◌, ◌↔◌, ℕ, nat_eq, List, ◌++◌}
use Rattle.std.specs.List.{starts_with}
use Rattle.names_distinguished.specs.declared.name.Name.{Name}
use Rattle.names_distinguished.specs.DistinguishedName.{RdnMap, NamesMatch, is_within}
use Rattle.names_distinguished.specs.NameView.{maps_of}
use Rattle.names_distinguished.specs.NameKey.{name_key, rdns_key}

-- its whole encoding
unfoldable pub raw_of : Name → List ℕ
raw_of name = name.raw.now

-- its offset in the whole input
unfoldable pub offset_of : Name → ℕ
offset_of name = name.offset

-- its sets of attributes, as they are compared
unfoldable pub rdns_of : Name → List RdnMap
rdns_of name = maps_of name.rdns

-- two names have one key exactly where they match
abbrev pub KeysDecideMatching : Type 0
KeysDecideMatching =
    (left right : Name) → (name_key (rdns_of left) ≡ name_key (rdns_of right) ↔ NamesMatch (rdns_of left) (rdns_of right))

-- the key of a name tells where it ends
abbrev pub KeysTellTheirEnd : Type 0
KeysTellTheirEnd =
    (left right : Name) (behind after : List ℕ) → name_key (rdns_of left) ++ behind ≡ name_key (rdns_of right) ++ after →
    NamesMatch (rdns_of left) (rdns_of right) × (behind ≡ after)

-- a name lies within another exactly where the one's key of sets begins with the other's
abbrev pub KeysDecideWithin : Type 0
KeysDecideWithin =
    (inner outer : Name) → is_within (rdns_of inner) (rdns_of outer) ≡ starts_with nat_eq (rdns_key (rdns_of inner)) (rdns_key (rdns_of outer))
