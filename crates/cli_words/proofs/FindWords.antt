-- What clap's definition makes of the words of `find --store STORE --verdicts VERDICTS --at TIME --anchor FILE FILE`.
use Rattle.std.proofs.Common.{◌≡◌, List, [], ◌∷◌, Option, Some, refl, ap, codes}
use Rattle.clap.specs.Words.{Row, Text, all_of, fault_of, first_of, subcommand_of}
use Rattle.clap.specs.Kinds.{Kinds, or_else}
use Rattle.clap.specs.Simple.{Shape}
use Rattle.clap.specs.Walk.{Walk, nothing_held, rows_after, settled_rows, walk_from}
use Rattle.clap.proofs.OnLiterals.{clap_on_literals}
use Rattle.cli_words.specs.App.{program}
use Rattle.cli_words.specs.CommandLine.{AskToFind, words_in}
use Rattle.cli_words.specs.PlainLine.{IsPlainWord, search_texts}
use Rattle.cli_words.proofs.Turns.{WalksTo, filed, goes_file, goes_option, level_well, rest_fault, rows_are, shape_of}

-- the words behind the subcommand
abbrev pub find_words : Text → Text → Text → Text → Text → List Text
find_words store verdicts moment anchor file =
    codes "--store" ∷ store ∷ codes "--verdicts" ∷ verdicts ∷ codes "--at" ∷ moment ∷ codes "--anchor" ∷ anchor ∷ file ∷ []

abbrev shape : Shape
shape = shape_of (codes "find")

-- the rows behind each option
abbrev rows : Text → Text → List Row → List Row
rows id value before = settled_rows shape.rules (Some (id, value ∷ [])) before

abbrev stored : Text → List Row
stored store = rows (codes "store") store []

abbrev judged : Text → Text → List Row
judged store verdicts = rows (codes "verdicts") verdicts (stored store)

abbrev timed : Text → Text → Text → List Row
timed store verdicts moment = rows (codes "at") moment (judged store verdicts)

abbrev ended : Text → Text → Text → Text → Text → Walk
ended store verdicts moment anchor file = filed shape (timed store verdicts moment) (Some (codes "anchor", anchor ∷ [])) file

goes : (store verdicts moment anchor file : Text) → IsPlainWord store → IsPlainWord verdicts → IsPlainWord moment → IsPlainWord anchor → IsPlainWord file
    → WalksTo shape (walk_from nothing_held) (find_words store verdicts moment anchor file) (ended store verdicts moment anchor file)
unfolding clap_on_literals
goes store verdicts moment anchor file s v t a f =
    goes_option shape _ (walk_from nothing_held) _ [] (codes "--store") (codes "store") store _ refl refl s refl refl refl
    (goes_option shape _ _ _ (stored store) (codes "--verdicts") (codes "verdicts") verdicts _ refl refl v refl refl refl
    (goes_option shape _ _ _ (judged store verdicts) (codes "--at") (codes "at") moment _ refl refl t refl refl refl
    (goes_option shape _ _ _ (timed store verdicts moment) (codes "--anchor") (codes "anchor") anchor _ refl refl a refl refl refl
    (goes_file shape _ _ file f refl))))

rest_well : (store verdicts moment anchor file : Text) → rest_fault shape (ended store verdicts moment anchor file) ≡ []
unfolding clap_on_literals
rest_well store verdicts moment anchor file = refl

-- the words break no rule of the command
pub no_fault : (name store verdicts moment anchor file : Text) → IsPlainWord store → IsPlainWord verdicts → IsPlainWord moment → IsPlainWord anchor → IsPlainWord file
    → fault_of program (name ∷ codes "find" ∷ find_words store verdicts moment anchor file) ≡ []
unfolding clap_on_literals
no_fault name store verdicts moment anchor file s v t a f =
    ap (λ (kinds : Kinds). or_else kinds [])
    (level_well shape (find_words store verdicts moment anchor file) _ (goes store verdicts moment anchor file s v t a f) (rest_well store verdicts moment anchor file))

-- they enter the subcommand, and its options and its files are theirs
pub record EntersFind (entered : Option (Text × List Row)) (store verdicts moment anchor file : Text) : Type 0 where
  pub rows : List Row
  pub is : entered ≡ Some (codes "find", rows)
  pub store_is : first_of (codes "store") rows ≡ Some store
  pub verdicts_is : first_of (codes "verdicts") rows ≡ Some verdicts
  pub anchor_is : first_of (codes "anchor") rows ≡ Some anchor
  pub asks : AskToFind rows (search_texts moment anchor file)

pub entered : (name store verdicts moment anchor file : Text) → IsPlainWord store → IsPlainWord verdicts → IsPlainWord moment → IsPlainWord anchor → IsPlainWord file
    → EntersFind (subcommand_of program (name ∷ codes "find" ∷ find_words store verdicts moment anchor file)) store verdicts moment anchor file
unfolding clap_on_literals
entered name store verdicts moment anchor file s v t a f =
    let are = rows_are shape (find_words store verdicts moment anchor file) _ (goes store verdicts moment anchor file s v t a f) in
    record {
      rows = rows_after shape.rules [] (find_words store verdicts moment anchor file);
      is = refl;
      store_is = ap (first_of (codes "store")) are;
      verdicts_is = ap (first_of (codes "verdicts")) are;
      anchor_is = ap (first_of (codes "anchor")) are;
      asks = record {
        moment = ap (first_of (codes "at")) are;
        purpose = ap (first_of (codes "purpose")) are;
        name = ap (first_of (codes "name")) are;
        anchors = ap (all_of (codes "anchor")) are;
        among = ap (λ (found : List Row). words_in (all_of (codes "among") found)) are;
        target = ap (first_of (codes "file")) are;
      };
    }
