-- What clap's definition makes of the words of `session --store STORE`.
use Rattle.std.proofs.Common.{◌≡◌, List, [], ◌∷◌, Some, None, refl, ap, codes}
use Rattle.clap.specs.Words.{Text, fault_of, first_of, subcommand_of}
use Rattle.clap.specs.Kinds.{Kinds, or_else}
use Rattle.clap.specs.Simple.{Shape}
use Rattle.clap.specs.Walk.{Walk, nothing_held, rows_after, walk_from}
use Rattle.clap.proofs.OnLiterals.{clap_on_literals}
use Rattle.cli_words.specs.App.{program}
use Rattle.cli_words.specs.PlainLine.{IsPlainWord}
use Rattle.cli_words.proofs.Turns.{Enters, WalksTo, at, goes_none, goes_option, level_well, rest_fault, rows_are, shape_of}

-- the words behind the subcommand
abbrev pub session_words : Text → List Text
session_words store = codes "--store" ∷ store ∷ []

abbrev shape : Shape
shape = shape_of (codes "session")

-- where the walk stands behind the store
abbrev stored : Text → Walk
stored store = at [] (Some (codes "store", store ∷ []))

goes : (store : Text) → IsPlainWord store → WalksTo shape (walk_from nothing_held) (session_words store) (stored store)
unfolding clap_on_literals
goes store plain =
    goes_option shape _ (walk_from nothing_held) _ [] (codes "--store") (codes "store") store _ refl refl plain refl refl refl (goes_none shape _)

rest_well : (store : Text) → rest_fault shape (stored store) ≡ []
unfolding clap_on_literals
rest_well store = refl

-- the words break no rule of the command
pub no_fault : (name store : Text) → IsPlainWord store → fault_of program (name ∷ codes "session" ∷ session_words store) ≡ []
unfolding clap_on_literals
no_fault name store plain =
    ap (λ (kinds : Kinds). or_else kinds []) (level_well shape (session_words store) _ (goes store plain) (rest_well store))

-- they enter the subcommand, and its store is theirs
pub entered : (name store : Text) → IsPlainWord store
    → Enters (subcommand_of program (name ∷ codes "session" ∷ session_words store)) (codes "session")
    ((codes "store", Some store) ∷ (codes "verdicts", None) ∷ [])
unfolding clap_on_literals
entered name store plain =
    let are = rows_are shape (session_words store) _ (goes store plain) in
    record {
      rows = rows_after shape.rules [] (session_words store);
      is = refl;
      finds = (ap (first_of (codes "store")) are, (ap (first_of (codes "verdicts")) are, tt));
    }
