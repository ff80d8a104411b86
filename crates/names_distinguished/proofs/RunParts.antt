-- What is left of a run, and what is behind it.
use Rattle.std.proofs.Common.{◌≡◌, ◌<◌, ◌^◌, ℕ, List, [], ◌∷◌, ◌++◌, length, true, false, Option, Some, None, refl, ap, ◌∙◌, arith, IsTrue}
use Rattle.std.proofs.lemmas.List.{length-map}
use Rattle.asn.specs.Place.{remaining}
use Rattle.asn.specs.Members.{left, members_at}
use Rattle.asn.proofs.Laws.{values_count}
use Rattle.names_distinguished.specs.declared.attribute.Attribute.{Attribute}
use Rattle.names_distinguished.specs.declared.rdn.Rdn.{Rdn}
use Rattle.names_distinguished.specs.declared.run.Run.{Run}
use Rattle.names_distinguished.specs.DistinguishedName.{ComparedAttribute}
use Rattle.names_distinguished.specs.NameParts.{entry_at, are_distinct}
use Rattle.names_distinguished.specs.NameView.{entry_of, entries_of}
use Rattle.names_distinguished.specs.Repetition.{comes_before}
use Rattle.names_distinguished.specs.Agreement.{entries_in, rising, run_of, run_from, run_left}

pub run_left_next : (run : Run) (a : Attribute) → run.next ≡ Some a → run_left run ≡ entry_of a ∷ rising a.kind.now (entries_in run.others)
unfolding run_left
run_left_next run a e = ap (λ (o : Option Attribute). run_from o (entries_in run.others)) e

pub run_left_none : (run : Run) → run.next ≡ None → run_left run ≡ []
unfolding run_left
run_left_none run e = ap (λ (o : Option Attribute). run_from o (entries_in run.others)) e

pub rising_more : (last : List ℕ) (rest others : List ComparedAttribute) (e : ComparedAttribute) → rest ≡ e ∷ others → comes_before last e.0 ≡ true → rising last rest ≡ e ∷ rising e.0 others
rising_more last rest others e is before = ap (rising last) is ∙ rw before refl

pub rising_ends : (last : List ℕ) (rest others : List ComparedAttribute) (e : ComparedAttribute) → rest ≡ e ∷ others → comes_before last e.0 ≡ false → rising last rest ≡ []
rising_ends last rest others e is stops = ap (rising last) is ∙ rw stops refl

pub rising_none : (last : List ℕ) (rest : List ComparedAttribute) → rest ≡ [] → rising last rest ≡ []
rising_none last rest is = ap (rising last) is

-- what is behind a run
abbrev pub LeavesBehind : List ComparedAttribute → List ComparedAttribute → List ComparedAttribute → Type 0
LeavesBehind whole run rest = (tail : List ComparedAttribute) → rest ≡ run ++ tail → whole ≡ run_of whole ++ tail

-- no set is larger than a number can be
pub entries_short : (set : Rdn) → length (entries_of set) < 2 ^ 64
unfolding entries_of members_at
entries_short set =
    let n = length-map (left set.attributes).values entry_at in
    let c = values_count (remaining set.attributes) in
    let f = set.attributes.fits in
    omega arith

pub is_distinct : (set : Rdn) → IsTrue (are_distinct (entries_of set))
unfolding entries_of
is_distinct set = set.distinct
