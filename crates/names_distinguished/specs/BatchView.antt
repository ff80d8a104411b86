-- The attributes of a batch, as they are compared.
use Rattle.std.specs.Prelude.{ℕ, List, ◌∷◌, map, Option, MatchOption}
use Rattle.names_distinguished.specs.declared.attribute.Attribute.{Attribute}
use Rattle.names_distinguished.specs.declared.rdn.Rdn.{Rdn}
use Rattle.names_distinguished.specs.declared.batch.Batch.{Batch}
use Rattle.names_distinguished.specs.DistinguishedName.{ComparedAttribute}
use Rattle.names_distinguished.specs.NameView.{entry_of, entries_of}
use Rattle.names_distinguished.specs.Batch.{IsAdded, IsBatchOfSet, IsFrontCount, FrontDiffers}

unfoldable pub batched : Batch → List ComparedAttribute
batched batch = map entry_of batch.attributes.items

-- an attribute of a new type was added to a batch
abbrev pub IsAddedTo : Attribute → Batch → Batch → Type 0
IsAddedTo attribute old new = IsAdded (entry_of attribute) (batched old) (batched new)

-- the batch has the first attributes of a set, which is an attribute and others, and these are left
abbrev pub IsFrontBatch : Attribute → Rdn → Batch → Rdn → Type 0
IsFrontBatch first others batch rest =
    IsBatchOfSet (entry_of first ∷ entries_of others) (entries_of rest) (batched batch)

-- of the first attributes of a set so many have a type of the other set, with its value, and the others are left; or one has
-- another value
abbrev pub CountsFront : Rdn → Rdn → Option (ℕ × Rdn) → Type 0
CountsFront set other result =
    MatchOption result (FrontDiffers (entries_of set) (entries_of other))
    (λ part. IsFrontCount (entries_of set) (entries_of other) (entries_of part.1) part.0)
