-- What clap's definition makes of the words of `deliver --store STORE --verdicts VERDICTS --issuer ISSUER FILE`.
use Rattle.std.proofs.Common.{◌≡◌, List, [], ◌∷◌, Some, refl, ap, codes}
use Rattle.clap.specs.Words.{Row, Text, fault_of, first_of, subcommand_of}
use Rattle.clap.specs.Kinds.{Kinds, or_else}
use Rattle.clap.specs.Simple.{Shape}
use Rattle.clap.specs.Walk.{Walk, nothing_held, rows_after, settled_rows, walk_from}
use Rattle.clap.proofs.OnLiterals.{clap_on_literals}
use Rattle.cli_words.specs.App.{program}
use Rattle.cli_words.specs.PlainLine.{IsPlainWord}
use Rattle.cli_words.proofs.Turns.{Enters, WalksTo, filed, goes_file, goes_option, level_well, rest_fault, rows_are, shape_of}

-- the words behind the subcommand
abbrev pub deliver_words : Text → Text → Text → Text → List Text
deliver_words store verdicts issuer file =
    codes "--store" ∷ store ∷ codes "--verdicts" ∷ verdicts ∷ codes "--issuer" ∷ issuer ∷ file ∷ []

abbrev shape : Shape
shape = shape_of (codes "deliver")

-- the rows behind each option
abbrev rows : Text → Text → List Row → List Row
rows id value before = settled_rows shape.rules (Some (id, value ∷ [])) before

abbrev stored : Text → List Row
stored store = rows (codes "store") store []

abbrev judged : Text → Text → List Row
judged store verdicts = rows (codes "verdicts") verdicts (stored store)

abbrev ended : Text → Text → Text → Text → Walk
ended store verdicts issuer file = filed shape (judged store verdicts) (Some (codes "issuer", issuer ∷ [])) file

goes : (store verdicts issuer file : Text) → IsPlainWord store → IsPlainWord verdicts → IsPlainWord issuer → IsPlainWord file
    → WalksTo shape (walk_from nothing_held) (deliver_words store verdicts issuer file) (ended store verdicts issuer file)
unfolding clap_on_literals
goes store verdicts issuer file plain plain' plain'' plain''' =
    goes_option shape _ (walk_from nothing_held) _ [] (codes "--store") (codes "store") store _ refl refl plain refl refl refl
    (goes_option shape _ _ _ (stored store) (codes "--verdicts") (codes "verdicts") verdicts _ refl refl plain' refl refl refl
    (goes_option shape _ _ _ (judged store verdicts) (codes "--issuer") (codes "issuer") issuer _ refl refl plain'' refl refl refl
    (goes_file shape _ _ file plain''' refl)))

rest_well : (store verdicts issuer file : Text) → rest_fault shape (ended store verdicts issuer file) ≡ []
unfolding clap_on_literals
rest_well store verdicts issuer file = refl

-- the words break no rule of the command
pub no_fault : (name store verdicts issuer file : Text) → IsPlainWord store → IsPlainWord verdicts → IsPlainWord issuer → IsPlainWord file
    → fault_of program (name ∷ codes "deliver" ∷ deliver_words store verdicts issuer file) ≡ []
unfolding clap_on_literals
no_fault name store verdicts issuer file plain plain' plain'' plain''' =
    ap (λ (kinds : Kinds). or_else kinds [])
    (level_well shape (deliver_words store verdicts issuer file) _ (goes store verdicts issuer file plain plain' plain'' plain''') (rest_well store verdicts issuer file))

-- they enter the subcommand, and its options and its file are theirs
pub entered : (name store verdicts issuer file : Text) → IsPlainWord store → IsPlainWord verdicts → IsPlainWord issuer → IsPlainWord file
    → Enters (subcommand_of program (name ∷ codes "deliver" ∷ deliver_words store verdicts issuer file)) (codes "deliver")
    ((codes "store", Some store) ∷ (codes "verdicts", Some verdicts) ∷ (codes "issuer", Some issuer) ∷ (codes "file", Some file) ∷ [])
unfolding clap_on_literals
entered name store verdicts issuer file plain plain' plain'' plain''' =
    let are = rows_are shape (deliver_words store verdicts issuer file) _ (goes store verdicts issuer file plain plain' plain'' plain''') in
    record {
      rows = rows_after shape.rules [] (deliver_words store verdicts issuer file);
      is = refl;
      finds = (ap (first_of (codes "store")) are, (ap (first_of (codes "verdicts")) are, (ap (first_of (codes "issuer")) are, (ap (first_of (codes "file")) are, tt))));
    }
