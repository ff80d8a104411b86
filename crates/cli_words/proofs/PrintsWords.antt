-- What clap's definition makes of the words of `prints --issuer ISSUER FILE`.
use Rattle.std.proofs.Common.{◌≡◌, List, [], ◌∷◌, Option, Some, None, refl, ap, codes}
use Rattle.clap.specs.Words.{Row, Text, all_of, fault_of, first_of, subcommand_of}
use Rattle.clap.specs.Kinds.{Kinds, or_else}
use Rattle.clap.specs.Simple.{Shape}
use Rattle.clap.specs.Walk.{Walk, nothing_held, rows_after, walk_from}
use Rattle.clap.proofs.OnLiterals.{clap_on_literals}
use Rattle.cli_words.specs.App.{program}
use Rattle.cli_words.specs.PlainLine.{IsPlainWord}
use Rattle.cli_words.proofs.Turns.{Finds, WalksTo, filed, goes_file, goes_option, level_well, rest_fault, rows_are, shape_of}

-- the words behind the subcommand
abbrev pub prints_words : Text → Text → List Text
prints_words issuer file = codes "--issuer" ∷ issuer ∷ file ∷ []

abbrev shape : Shape
shape = shape_of (codes "prints")

abbrev ended : Text → Text → Walk
ended issuer file = filed shape [] (Some (codes "issuer", issuer ∷ [])) file

goes : (issuer file : Text) → IsPlainWord issuer → IsPlainWord file → WalksTo shape (walk_from nothing_held) (prints_words issuer file) (ended issuer file)
unfolding clap_on_literals
goes issuer file plain plain' =
    goes_option shape _ (walk_from nothing_held) _ [] (codes "--issuer") (codes "issuer") issuer _ refl refl plain refl refl refl
    (goes_file shape _ _ file plain' refl)

rest_well : (issuer file : Text) → rest_fault shape (ended issuer file) ≡ []
unfolding clap_on_literals
rest_well issuer file = refl

-- the words break no rule of the command
pub no_fault : (name issuer file : Text) → IsPlainWord issuer → IsPlainWord file → fault_of program (name ∷ codes "prints" ∷ prints_words issuer file) ≡ []
unfolding clap_on_literals
no_fault name issuer file plain plain' =
    ap (λ (kinds : Kinds). or_else kinds []) (level_well shape (prints_words issuer file) _ (goes issuer file plain plain') (rest_well issuer file))

-- they enter the subcommand without a kind and with nothing to search among, and its files are theirs
pub record EntersPrints (entered : Option (Text × List Row)) (issuer file : Text) : Type 0 where
  pub rows : List Row
  pub is : entered ≡ Some (codes "prints", rows)
  pub finds : Finds ((codes "as", None) ∷ (codes "issuer", Some issuer) ∷ (codes "file", Some file) ∷ (codes "parts", Some (codes "false")) ∷ []) rows
  pub among : all_of (codes "among") rows ≡ None

pub entered : (name issuer file : Text) → IsPlainWord issuer → IsPlainWord file
    → EntersPrints (subcommand_of program (name ∷ codes "prints" ∷ prints_words issuer file)) issuer file
unfolding clap_on_literals
entered name issuer file plain plain' =
    let are = rows_are shape (prints_words issuer file) _ (goes issuer file plain plain') in
    record {
      rows = rows_after shape.rules [] (prints_words issuer file);
      is = refl;
      finds = (ap (first_of (codes "as")) are, (ap (first_of (codes "issuer")) are, (ap (first_of (codes "file")) are, (ap (first_of (codes "parts")) are, tt))));
      among = ap (all_of (codes "among")) are;
    }
