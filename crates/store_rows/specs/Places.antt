-- Entries at places: those of a list stand from a base on, which its issuer and scope give, ascending by serial number.
use Rattle.std.specs.Prelude.{⊤, ◌≡◌, ◌≢◌, ◌⊎◌, ℕ, suc, ◌+◌, ◌*◌, ◌<◌, ◌≤◌, Bool, not, ◌&&◌, ◌==◌, nat_lt, List, [], ◌∷◌, filter, find, map, Option, Some, None, option_map, if◌then◌else◌}
use Rattle.std.specs.List.{AllByRecursion}
use Rattle.std.specs.Str.{bytes_eq}
use Rattle.std.specs.Ordering.{nat_cmp}
use Rattle.std.specs.declared.cmp.Ordering.{Ordering}
use Rattle.std.specs.declared.cmp.Ordering.TheVariants.{Less, Equal, Greater}
use Rattle.std.specs.Cmp.Lexicographic.{slice_cmp}
use Rattle.sqlite_trees.specs.Tree.{IsAscending}
use Rattle.statements_facts.specs.Listed.{ListedSerial}
use Rattle.store_rows.specs.declared.beside.SerialAtPlace.{SerialAtPlace}
use Rattle.store_rows.specs.declared.beside.SerialAtPlace.TheVariants.{Nothing, Below, Same, Above}
use Rattle.store_rows.specs.Contents.{EntryRow}

abbrev pub IsBelow : ListedSerial → ListedSerial → Type 0
IsBelow one other = slice_cmp nat_cmp one.serial other.serial ≡ Less

-- what stands at a place, beside a serial number
abbrev pub beside_serial : Ordering → ℕ → SerialAtPlace
beside_serial Less reason = Below
beside_serial Equal reason = Same reason
beside_serial Greater reason = Above

abbrev pub beside_of : Option ListedSerial → List ℕ → SerialAtPlace
beside_of None serial = Nothing
beside_of (Some listed) serial = beside_serial (slice_cmp nat_cmp listed.serial serial) listed.reason

abbrev pub is_under : ℕ → ℕ → EntryRow → Bool
is_under i s e = (e.issuer == i) && (e.scope == s)

-- what stands under an issuer and a scope, in the order of the rows
abbrev pub entries_under : List EntryRow → ℕ → ℕ → List ListedSerial
entries_under es i s = map (λ e. e.listed) (filter (is_under i s) es)

-- where the entries of an issuer and a scope begin
abbrev pub list_base : ℕ → ℕ → ℕ
list_base i s = (i * 4 + s) * 4294967296

-- they stand at this place and those after it
abbrev pub StandFrom : ℕ → List EntryRow → Type 0
StandFrom n [] = ⊤
StandFrom n (e ∷ es) = (e.place ≡ n) × StandFrom (suc n) es

-- an entry stands in the room of its own list
pub record IsInside (e : EntryRow) : Type 0 where
  pub issuer : e.issuer < 536870911
  pub scope : e.scope < 3
  pub low : list_base e.issuer e.scope ≤ e.place
  pub high : e.place < list_base e.issuer e.scope + 4294967296

-- ids rise, each entry stands in the room of its list, and a list's entries stand from its base on, ascending by serial number
pub record ArePlaced (es : List EntryRow) : Type 0 where
  pub rise : IsAscending (λ a b. a.place < b.place) es
  pub inside : AllByRecursion IsInside es
  pub stand : (i s : ℕ) → StandFrom (list_base i s) (filter (is_under i s) es)
  pub serials : (i s : ℕ) → IsAscending IsBelow (entries_under es i s)

abbrev pub is_at : ℕ → EntryRow → Bool
is_at n e = e.place == n

abbrev pub at_most : Option EntryRow → List EntryRow
at_most None = []
at_most (Some e) = e ∷ []

-- a row is put before the first that is not below it
abbrev pub put_entry : EntryRow → List EntryRow → List EntryRow
put_entry new [] = new ∷ []
put_entry new (e ∷ es) = if nat_lt e.place new.place then e ∷ put_entry new es else new ∷ e ∷ es

abbrev pub without : ℕ → ℕ → List EntryRow → List EntryRow
without i s = filter (λ e. not (is_under i s e))

-- these are put at this place and those after it
abbrev pub fill : List EntryRow → ℕ → ℕ → ℕ → List ListedSerial → List EntryRow
fill es i s n [] = es
fill es i s n (p ∷ ps) = fill (put_entry (record { place = n; issuer = i; scope = s; listed = p }) es) i s (suc n) ps

-- a list in the place of what stood there
abbrev pub replaced : List EntryRow → ℕ → ℕ → List ListedSerial → List EntryRow
replaced es i s ps = fill (without i s es) i s (list_base i s) ps

-- a list stands in its places, and each other list where it stood
pub record Replaces (old new : List EntryRow) (i s : ℕ) (ps : List ListedSerial) : Type 0 where
  pub placed : ArePlaced new
  pub own : entries_under new i s ≡ ps
  pub others : (j t : ℕ) → (j ≢ i) ⊎ (t ≢ s) → entries_under new j t ≡ entries_under old j t

-- the reason of a serial number, as one test of each row tells it
abbrev pub is_entry : ℕ → ℕ → List ℕ → EntryRow → Bool
is_entry i s serial e = is_under i s e && bytes_eq e.listed.serial serial

abbrev pub reason_at : List EntryRow → ℕ → ℕ → List ℕ → Option ℕ
reason_at es i s serial = option_map (λ e. e.listed.reason) (find (is_entry i s serial) es)
