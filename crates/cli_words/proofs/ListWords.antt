-- What clap's definition makes of the words of `list --store STORE [--at TIME]`.
use Rattle.std.proofs.Common.{◌≡◌, List, [], ◌∷◌, Some, None, refl, ap, codes}
use Rattle.clap.specs.Words.{Row, Text, fault_of, first_of, subcommand_of}
use Rattle.clap.specs.Kinds.{Kinds, or_else}
use Rattle.clap.specs.Simple.{Shape}
use Rattle.clap.specs.Walk.{Walk, nothing_held, rows_after, settled_rows, walk_from}
use Rattle.clap.proofs.OnLiterals.{clap_on_literals}
use Rattle.cli_words.specs.App.{program}
use Rattle.cli_words.specs.PlainLine.{IsPlainWord}
use Rattle.cli_words.proofs.Turns.{Enters, WalksTo, at, goes_none, goes_option, level_well, rest_fault, rows_are, shape_of}

-- the words behind the subcommand
abbrev pub list_words : Text → List Text
list_words store = codes "--store" ∷ store ∷ []

abbrev pub list_at_words : Text → Text → List Text
list_at_words store moment = codes "--store" ∷ store ∷ codes "--at" ∷ moment ∷ []

abbrev shape : Shape
shape = shape_of (codes "list")

-- where the walk stands behind the store, and behind the moment
abbrev stored : Text → Walk
stored store = at [] (Some (codes "store", store ∷ []))

abbrev behind_store : Text → List Row
behind_store store = settled_rows shape.rules (Some (codes "store", store ∷ [])) []

abbrev timed : Text → Text → Walk
timed store moment = at (behind_store store) (Some (codes "at", moment ∷ []))

goes : (store : Text) → IsPlainWord store → WalksTo shape (walk_from nothing_held) (list_words store) (stored store)
unfolding clap_on_literals
goes store plain =
    goes_option shape _ (walk_from nothing_held) _ [] (codes "--store") (codes "store") store _ refl refl plain refl refl refl (goes_none shape _)

goes_at : (store moment : Text) → IsPlainWord store → IsPlainWord moment → WalksTo shape (walk_from nothing_held) (list_at_words store moment) (timed store moment)
unfolding clap_on_literals
goes_at store moment plain plain' =
    goes_option shape _ (walk_from nothing_held) _ [] (codes "--store") (codes "store") store _ refl refl plain refl refl refl
    (goes_option shape _ _ _ (behind_store store) (codes "--at") (codes "at") moment _ refl refl plain' refl refl refl (goes_none shape _))

rest_well : (store : Text) → rest_fault shape (stored store) ≡ []
unfolding clap_on_literals
rest_well store = refl

rest_well_at : (store moment : Text) → rest_fault shape (timed store moment) ≡ []
unfolding clap_on_literals
rest_well_at store moment = refl

-- the words break no rule of the command
pub no_fault : (name store : Text) → IsPlainWord store → fault_of program (name ∷ codes "list" ∷ list_words store) ≡ []
unfolding clap_on_literals
no_fault name store plain =
    ap (λ (kinds : Kinds). or_else kinds []) (level_well shape (list_words store) _ (goes store plain) (rest_well store))

pub no_fault_at : (name store moment : Text) → IsPlainWord store → IsPlainWord moment → fault_of program (name ∷ codes "list" ∷ list_at_words store moment) ≡ []
unfolding clap_on_literals
no_fault_at name store moment plain plain' =
    ap (λ (kinds : Kinds). or_else kinds []) (level_well shape (list_at_words store moment) _ (goes_at store moment plain plain') (rest_well_at store moment))

-- they enter the subcommand, and its store is theirs
pub entered : (name store : Text) → IsPlainWord store
    → Enters (subcommand_of program (name ∷ codes "list" ∷ list_words store)) (codes "list")
    ((codes "store", Some store) ∷ (codes "at", None) ∷ [])
unfolding clap_on_literals
entered name store plain =
    let are = rows_are shape (list_words store) _ (goes store plain) in
    record {
      rows = rows_after shape.rules [] (list_words store);
      is = refl;
      finds = (ap (first_of (codes "store")) are, (ap (first_of (codes "at")) are, tt));
    }

-- and so is the moment
pub entered_at : (name store moment : Text) → IsPlainWord store → IsPlainWord moment
    → Enters (subcommand_of program (name ∷ codes "list" ∷ list_at_words store moment)) (codes "list")
    ((codes "store", Some store) ∷ (codes "at", Some moment) ∷ [])
unfolding clap_on_literals
entered_at name store moment plain plain' =
    let are = rows_are shape (list_at_words store moment) _ (goes_at store moment plain plain') in
    record {
      rows = rows_after shape.rules [] (list_at_words store moment);
      is = refl;
      finds = (ap (first_of (codes "store")) are, (ap (first_of (codes "at")) are, tt));
    }
