-- Where values stand among those that were read of files, and where the certificates of a path stand.
use Rattle.std.specs.Prelude.{◌≡◌, ◌<◌, ◌≤◌, ◌+◌, ℕ, List, [], ◌∷◌, ◌++◌, reverse, vec_len}
use Rattle.std.specs.List.{sum_by}
use Rattle.path_issuers.specs.Search.{Candidate}
use Rattle.cli_answers.specs.SearchText.{Place}
use Rattle.cli_operands.specs.declared.path_file.PathFile.{PathFile}

-- how many were read of a file, and of files
abbrev pub value_count : PathFile → ℕ
value_count it = vec_len it.values

abbrev pub values_in : List PathFile → ℕ
values_in files = sum_by value_count files

-- The value of that number among those of the files, counted from 0, stands there: in a file, and in that at this number, counted from 1.
pub record StandsAmong (files : List PathFile) (index : ℕ) (place : Place) : Type 0 where
  pub before : List PathFile
  pub it : PathFile
  pub behind : List PathFile
  pub files_are : files ≡ before ++ it ∷ behind
  pub file_is : place.file ≡ it.file.now
  pub counted : index + 1 ≡ values_in before + place.number
  pub some : 1 ≤ place.number
  pub within : place.number ≤ value_count it

-- it stands there if there are as many values
abbrev pub StandsIfThere : List PathFile → ℕ → Place → Type 0
StandsIfThere files index place = index < values_in files → StandsAmong files index place

-- each of the numbers stands at the place
abbrev pub EachStands : (ℕ → Place → Type 0) → List ℕ → List Place → Type 0
EachStands Stands [] [] = Unit {0}
EachStands Stands (index ∷ indexes) (place ∷ places) = Stands index place × EachStands Stands indexes places
EachStands Stands _ _ = ⊥

-- The places of a path, from that of the anchor down to the target's. The candidate has those between from the target upward.
pub record ArePathPlaces (AnchorStands Stands : ℕ → Place → Type 0) (target : Place) (candidate : Candidate) (places : List Place) : Type 0 where
  pub anchor : Place
  pub between : List Place
  pub places_are : places ≡ anchor ∷ (between ++ target ∷ [])
  pub anchor_stands : AnchorStands candidate.anchor anchor
  pub between_stand : EachStands Stands (reverse candidate.above) between

-- the places of these numbers stand behind the others, if they are there
abbrev pub GrowsByPlaces : List PathFile → List ℕ → List Place → List Place → Type 0
GrowsByPlaces files indexes old new =
    (more : List Place) × EachStands (StandsIfThere files) indexes more × (new ≡ old ++ more)
