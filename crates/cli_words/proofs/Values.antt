-- The values of an argument, and the first of them.
use Rattle.std.proofs.Common.{◌≡◌, List, Option, Some, None, find, refl, option_map}
use Rattle.std.specs.Prelude.{option_and_then, slice_get}
use Rattle.std.specs.Str.{bytes_eq}
use Rattle.clap.specs.Words.{Row, Text, all_of, first_of}

no_first_in : (found : Option Row) → option_map (λ r. r.values) found ≡ None → option_and_then (λ r. slice_get r.values 0) found ≡ None
no_first_in None none = refl
no_first_in (Some row) none = cc

-- an argument with no values has no first one
pub no_first : (id : Text) (rows : List Row) → all_of id rows ≡ None → first_of id rows ≡ None
no_first id rows none = no_first_in (find (λ r. bytes_eq r.id id) rows) none
