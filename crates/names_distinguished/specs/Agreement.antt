-- Where two sets agree, type by type, as it is counted run by run.
use Rattle.std.specs.Prelude.{◌≡◌, ◌+◌, ℕ, false, List, [], ◌∷◌, map, Option, Some, None, is_some, MatchOption, if◌then◌else◌}
use Rattle.std.specs.List.{AllByRecursion}
use Rattle.names_distinguished.specs.declared.run.Run.{Run}
use Rattle.names_distinguished.specs.declared.run.Source.{Source}
use Rattle.names_distinguished.specs.declared.run.Source.TheVariants.{Set, Batch}
use Rattle.names_distinguished.specs.declared.attribute.Attribute.{Attribute}
use Rattle.names_distinguished.specs.declared.rdn.Rdn.{Rdn}
use Rattle.names_distinguished.specs.AttributeValue.{ComparedValue}
use Rattle.names_distinguished.specs.DistinguishedName.{ComparedAttribute, value_at}
use Rattle.names_distinguished.specs.NameView.{entry_of, entries_of}
use Rattle.names_distinguished.specs.Repetition.{comes_before}

-- of these attributes the first ones, as long as their types ascend, behind this type
abbrev pub rising : List ℕ → List ComparedAttribute → List ComparedAttribute
rising last [] = []
rising last (e ∷ es) = if comes_before last e.0 then e ∷ rising e.0 es else []

-- the first run of a list
abbrev pub run_of : List ComparedAttribute → List ComparedAttribute
run_of [] = []
run_of (e ∷ es) = e ∷ rising e.0 es

-- what is left of a run
abbrev pub run_from : Option Attribute → List ComparedAttribute → List ComparedAttribute
run_from None others = []
run_from (Some next) others = entry_of next ∷ rising next.kind.now others

-- the attributes of a source
unfoldable pub entries_in : Source → List ComparedAttribute
entries_in (Set set) = entries_of set
entries_in (Batch batch) = map entry_of batch.now

unfoldable pub run_left : Run → List ComparedAttribute
run_left run = run_from run.next (entries_in run.others)

-- what is left of a run has all of its types that do not come before this one
pub record SearchesOn (kind : List ℕ) (run rest : List ComparedAttribute) : Type 0 where
  pub same : (other : List ℕ) → comes_before other kind ≡ false → value_at other run ≡ value_at other rest

-- the first of a run doesn't come before the type
abbrev pub StopsAt : List ℕ → List ComparedAttribute → Type 0
StopsAt kind [] = Unit {0}
StopsAt kind (e ∷ es) = comes_before e.0 kind ≡ false

-- the types of a run that come before the type were passed over
pub record IsFoundPast (kind : List ℕ) (run rest : List ComparedAttribute) : Type 0 where
  pub searches : SearchesOn kind run rest
  pub stops : StopsAt kind rest

-- if the run has the type of the attribute, then with its value
pub record Fits (run : List ComparedAttribute) (e : ComparedAttribute) : Type 0 where
  pub only : (value : ComparedValue) → value_at e.0 run ≡ Some value → value ≡ e.1

abbrev pub AllFit : List ComparedAttribute → List ComparedAttribute → Type 0
AllFit run set = AllByRecursion (Fits run) set

-- how many of these attributes have a type of the run
unfoldable pub found_in : List ComparedAttribute → List ComparedAttribute → ℕ
found_in run [] = 0
found_in run (e ∷ es) = (if is_some (value_at e.0 run) then 1 else 0) + found_in run es

pub record IsCount (run set : List ComparedAttribute) (count : ℕ) : Type 0 where
  pub fits : AllFit run set
  pub number : count ≡ found_in run set

-- the first attribute of a source, and those behind it
abbrev pub IsFirstIn : Source → Attribute × Source → Type 0
IsFirstIn source parts = entries_in source ≡ entry_of parts.0 ∷ entries_in parts.1

-- how many of the attributes have a type of the run, unless one has another value than the run's: of one, and of a set
abbrev pub FindsAttribute : Run → Attribute → Option ℕ → Type 0
FindsAttribute run attribute result =
    MatchOption result (¬ (Fits (run_left run) (entry_of attribute))) (IsCount (run_left run) (entry_of attribute ∷ []))

abbrev pub FindsAll : Run → Rdn → Option ℕ → Type 0
FindsAll run set result =
    MatchOption result (¬ (AllFit (run_left run) (entries_of set))) (IsCount (run_left run) (entries_of set))
