-- Values one after the other, at the front of a source of octets.
use Rattle.std.specs.Prelude.{◌≡◌, ◌≢◌, ◌⊎◌, ◌<◌, ◌++◌, ⊤, ℕ, List, length, map, Option, Some, None}
use Rattle.std.specs.List.{flat_map, AllByRecursion}
use Rattle.der_stream.specs.declared.reading.ReadFault.{ReadFault}
use Rattle.der_stream.specs.declared.reading.ReadFault.TheVariants.{Limit}
use Rattle.der_stream.specs.declared.sequence.PathOctets.{PathOctets}
use Rattle.der_stream.specs.Stream.{ended, TakesFrom, TakesFault}
pub use Rattle.der_stream.specs.Stream.{IsValueWithin}

-- octets one after the other
abbrev pub joined : List (List ℕ) → List ℕ
joined values = flat_map (λ octets. octets) values

-- the octets begin with these values, in order, and then these are left
pub record StartsWithValues (limit : ℕ) (text : List ℕ) (values : List (List ℕ)) (left : List ℕ) : Type 0 where
  pub each : AllByRecursion (IsValueWithin limit) values
  pub text_is : text ≡ joined values ++ left

-- the same of a source that tells what it has left
abbrev pub BeginsFrom : ℕ → Option (List ℕ) → List (List ℕ) → Option (List ℕ) → Type 0
BeginsFrom limit None values left = ⊤
BeginsFrom limit (Some text) values None = ⊥
BeginsFrom limit (Some text) values (Some left) = StartsWithValues limit text values left

-- Why no more was read: so many were, or the source ended behind them; or the value that starts there is refused.
abbrev pub StopsBehind : ℕ → ℕ → List (List ℕ) → Option (List ℕ) → Option (List ℕ) → Option (ℕ × ReadFault) → Type 0
StopsBehind limit most values behind left None =
    ((length values ≡ most) × (left ≡ behind)) ⊎ ((length values < most) × TakesFrom limit behind left ended)
StopsBehind limit most values behind left (Some stopped) =
    (length values < most) × (stopped.0 ≡ length (joined values)) × TakesFault limit behind left stopped.1

-- of at most so many, the values with which a source begins were read, and no more for that reason
pub record ReadsValues (limit most : ℕ) (old new : Option (List ℕ)) (values : List (List ℕ)) (stopped : Option (ℕ × ReadFault)) : Type 0 where
  pub behind : Option (List ℕ)
  pub begins : BeginsFrom limit old values behind
  pub stops : StopsBehind limit most values behind new stopped

-- the same of what `path_octets` answers, with room for the longest value that there is
abbrev pub ReadsAtMost : {R : Type 0} → ℕ → (R → Option (List ℕ)) → R → R → PathOctets → Type 0
ReadsAtMost most remaining old new path =
    ReadsValues 268435461 most (remaining old) (remaining new) (map (λ octets. octets.items) path.values.items) path.stopped

-- no value was past the limit, if the source tells what it has left
abbrev pub NoneIsPast : Option (List ℕ) → Option (ℕ × ReadFault) → Type 0
NoneIsPast (Some text) (Some stopped) = stopped.1 ≢ Limit
NoneIsPast text stopped = ⊤
