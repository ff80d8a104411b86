-- What clap's definition makes of the words of `check --store STORE --verdicts VERDICTS --at TIME --anchor ANCHOR FILE...`.
use Rattle.std.proofs.Common.{◌≡◌, ◌==◌, ◌<◌, ◌++◌, ◌∙◌, ℕ, suc, List, [], ◌∷◌, Option, Some, None, false, refl, ap, subst, codes, length, append_assoc, arith, nat_lt}
use Rattle.std.specs.List.{All}
use Rattle.std.proofs.lemmas.List.{append-nil}
use Rattle.std.proofs.lemmas.Bool.Decides.{nat_tests}
use Rattle.clap.specs.Lexer.{usize_max}
use Rattle.clap.specs.Words.{Row, Text, all_of, fault_of, first_of, subcommand_of}
use Rattle.clap.specs.Faults.{level_fault, settle_fault, turn_fault, walk_fault}
use Rattle.clap.specs.Kinds.{Kinds, or_else, values_kinds}
use Rattle.clap.specs.Simple.{Shape, built, entered as entered_by, names_of}
use Rattle.clap.specs.Walk.{Walk, finished, nothing_held, positional, rows_after, settled_rows, walk, walk_from, walked}
use Rattle.clap.specs.declared.builder.value_parser.ValueParser.TheVariants as vp
use Rattle.clap.proofs.OnLiterals.{clap_on_literals}
use Rattle.cli_words.specs.App.{program}
use Rattle.cli_words.specs.PlainLine.{IsPlainWord}
use Rattle.cli_words.proofs.Turns.{EntersFiles, Finds, WalksTo, all_accepted, at, goes_more, goes_none, goes_option, halted, halted_on, halted_well, is_other, later_fault, level_well, rest_fault, rows_are, shape_of, top_fault}

-- the words behind the subcommand
abbrev pub check_words : Text → Text → Text → Text → List Text → List Text
check_words store verdicts moment anchor files =
    codes "--store" ∷ store ∷ codes "--verdicts" ∷ verdicts ∷ codes "--at" ∷ moment ∷ codes "--anchor" ∷ anchor ∷ files

abbrev shape : Shape
shape = shape_of (codes "check")

-- the rows behind each option
abbrev rows : Text → Text → List Row → List Row
rows id value before = settled_rows shape.rules (Some (id, value ∷ [])) before

abbrev behind_store : Text → List Row
behind_store store = rows (codes "store") store []

abbrev behind_verdicts : Text → Text → List Row
behind_verdicts store verdicts = rows (codes "verdicts") verdicts (behind_store store)

abbrev behind_at : Text → Text → Text → List Row
behind_at store verdicts moment = rows (codes "at") moment (behind_verdicts store verdicts)

abbrev behind_anchor : Text → Text → Text → Text → List Row
behind_anchor store verdicts moment anchor = rows (codes "anchor") anchor (behind_at store verdicts moment)

-- where the walk stands behind the options, and behind files
abbrev ready : Text → Text → Text → Text → Walk
ready store verdicts moment anchor = at (behind_at store verdicts moment) (Some (codes "anchor", anchor ∷ []))

abbrev filing : List Row → List Text → Walk
filing before files = record (at before (Some (codes "file", files))) { waiting = positional }

begins_at : (store verdicts moment anchor xs : Text) (x : ℕ) → (x == 45) ≡ false → walked shape.rules [] (ready store verdicts moment anchor) (x ∷ xs) ≡ filing (behind_anchor store verdicts moment anchor) ((x ∷ xs) ∷ [])
unfolding clap_on_literals
begins_at store verdicts moment anchor xs x plain = simp plain

begins : (store verdicts moment anchor file : Text) → IsPlainWord file → walked shape.rules [] (ready store verdicts moment anchor) file ≡ filing (behind_anchor store verdicts moment anchor) (file ∷ [])
unfolding clap_on_literals
begins store verdicts moment anchor [] plain = refl
begins store verdicts moment anchor (x ∷ xs) plain = begins_at store verdicts moment anchor xs x (is_other x plain)

begins_well_at : (store verdicts moment anchor xs : Text) (x : ℕ) → (x == 45) ≡ false → turn_fault shape [] (ready store verdicts moment anchor) (x ∷ xs) ≡ []
unfolding clap_on_literals
begins_well_at store verdicts moment anchor xs x plain = simp plain

begins_well : (store verdicts moment anchor file : Text) → IsPlainWord file → turn_fault shape [] (ready store verdicts moment anchor) file ≡ []
unfolding clap_on_literals
begins_well store verdicts moment anchor [] plain = refl
begins_well store verdicts moment anchor (x ∷ xs) plain = begins_well_at store verdicts moment anchor xs x (is_other x plain)

-- one file more
files_at : (before : List Row) (files : List Text) (xs : Text) (x : ℕ) → (x == 45) ≡ false → walked shape.rules [] (filing before files) (x ∷ xs) ≡ filing before (files ++ (x ∷ xs) ∷ [])
unfolding clap_on_literals
files_at before files xs x plain = simp plain

files_more : (before : List Row) (files : List Text) (file : Text) → IsPlainWord file → walked shape.rules [] (filing before files) file ≡ filing before (files ++ file ∷ [])
unfolding clap_on_literals
files_more before files [] plain = refl
files_more before files (x ∷ xs) plain = files_at before files xs x (is_other x plain)

files_well_at : (before : List Row) (files : List Text) (xs : Text) (x : ℕ) → (x == 45) ≡ false → turn_fault shape [] (filing before files) (x ∷ xs) ≡ []
unfolding clap_on_literals
files_well_at before files xs x plain = simp plain

files_well : (before : List Row) (files : List Text) (file : Text) → IsPlainWord file → turn_fault shape [] (filing before files) file ≡ []
unfolding clap_on_literals
files_well before files [] plain = refl
files_well before files (x ∷ xs) plain = files_well_at before files xs x (is_other x plain)

goes_files : (before : List Row) (files more : List Text) → All IsPlainWord more → WalksTo shape (filing before files) more (filing before (files ++ more))
goes_files before files [] plain = rw (append-nil files) (goes_none shape (filing before files))
goes_files before files (file ∷ more) plain =
    let first : IsPlainWord file = plain 0 [] (omega arith) in
    let rest = goes_files before (files ++ file ∷ []) more (λ k d less. plain (suc k) d (omega (arith, less))) in
    goes_more shape (filing before files) (filing before (files ++ file ∷ [])) (filing before (files ++ file ∷ more)) file more (files_well before files file first) (files_more before files file first)
    (subst (λ (all : List Text). WalksTo shape (filing before (files ++ file ∷ [])) more (filing before all)) (append_assoc files (file ∷ []) more) rest)

goes : (store verdicts moment anchor file : Text) (more : List Text) → IsPlainWord store → IsPlainWord verdicts → IsPlainWord moment → IsPlainWord anchor → All IsPlainWord (file ∷ more)
    → WalksTo shape (walk_from nothing_held) (check_words store verdicts moment anchor (file ∷ more)) (filing (behind_anchor store verdicts moment anchor) (file ∷ more))
unfolding clap_on_literals
goes store verdicts moment anchor file more store_plain verdicts_plain moment_plain anchor_plain plain =
    let first : IsPlainWord file = plain 0 [] (omega arith) in
    goes_option shape _ (walk_from nothing_held) _ [] (codes "--store") (codes "store") store _ refl refl store_plain refl refl refl
    (goes_option shape _ _ _ (behind_store store) (codes "--verdicts") (codes "verdicts") verdicts _ refl refl verdicts_plain refl refl refl
    (goes_option shape _ _ _ (behind_verdicts store verdicts) (codes "--at") (codes "at") moment _ refl refl moment_plain refl refl refl
    (goes_option shape _ _ _ (behind_at store verdicts moment) (codes "--anchor") (codes "anchor") anchor _ refl refl anchor_plain refl refl refl
    (goes_more shape _ _ _ file more (begins_well store verdicts moment anchor file first) (begins store verdicts moment anchor file first)
    (goes_files (behind_anchor store verdicts moment anchor) (file ∷ []) more (λ k d less. plain (suc k) d (omega (arith, less))))))))

-- files of which there are not too many are taken
settles_at : (before : List Row) (file : Text) (more : List Text) (n : ℕ) → length (file ∷ more) ≡ n → (n == 0) ≡ false → nat_lt n 1 ≡ false → nat_lt usize_max n ≡ false
    → values_kinds false vp.String more ≡ [] → settle_fault shape.rules shape.args_override_self (filing before (file ∷ more)).held ≡ []
unfolding clap_on_literals
settles_at before file more n is some least most accepted = simp (is, some, least, most, accepted)

later_well : (store verdicts moment anchor file : Text) (more : List Text) → later_fault shape (filing (behind_anchor store verdicts moment anchor) (file ∷ more)) ≡ []
unfolding clap_on_literals
later_well store verdicts moment anchor file more = refl

rest_well : (store verdicts moment anchor file : Text) (more : List Text) → settle_fault shape.rules shape.args_override_self (filing (behind_anchor store verdicts moment anchor) (file ∷ more)).held ≡ [] → rest_fault shape (filing (behind_anchor store verdicts moment anchor) (file ∷ more)) ≡ []
rest_well store verdicts moment anchor file more settles =
    ap (λ (kinds : Kinds). or_else kinds (later_fault shape (filing (behind_anchor store verdicts moment anchor) (file ∷ more)))) settles ∙ later_well store verdicts moment anchor file more

settles : (before : List Row) (file : Text) (more : List Text) → length more < usize_max → settle_fault shape.rules shape.args_override_self (filing before (file ∷ more)).held ≡ []
settles before file more few =
    settles_at before file more (length (file ∷ more)) refl (grind (arith, nat_tests)) (grind (arith, nat_tests)) (grind (arith, nat_tests)) (all_accepted more)

-- behind the subcommand's name, all words are its own
abbrev begun : List Text → Walk
begun words = halted (walk_from nothing_held) (codes "check", words)

stops : (words : List Text) → walk (built program).top.rules (names_of (built program)) nothing_held (codes "check" ∷ words) ≡ begun words
unfolding clap_on_literals
stops words = halted_on (built program).top.rules (names_of (built program)) (walk_from nothing_held) (codes "check") [] words

stops_well : (words : List Text) → walk_fault (built program).top (names_of (built program)) (walk_from nothing_held) (codes "check" ∷ words) ≡ []
unfolding clap_on_literals
stops_well words = halted_well (built program).top (names_of (built program)) (walk_from nothing_held) (codes "check", []) words

top_well : (words : List Text) → level_fault shape [] nothing_held words false [] ≡ [] → top_fault [] (begun words) ≡ []
unfolding clap_on_literals
top_well words level = rw level refl

fault_from : (name : Text) (words : List Text) → level_fault shape [] nothing_held words false [] ≡ [] → fault_of program (name ∷ codes "check" ∷ words) ≡ []
fault_from name words level =
    ap (λ (kinds : Kinds). top_fault kinds (walk (built program).top.rules (names_of (built program)) nothing_held (codes "check" ∷ words))) (stops_well words)
    ∙ ap (top_fault []) (stops words) ∙ top_well words level

enters_from : (name : Text) (words : List Text) → subcommand_of program (name ∷ codes "check" ∷ words) ≡ Some (codes "check", rows_after shape.rules [] words)
enters_from name words = ap (λ (w : Walk). entered_by (built program) w.stopped) (stops words)

-- the words break no rule of the command
pub no_fault : (name store verdicts moment anchor file : Text) (more : List Text) → IsPlainWord store → IsPlainWord verdicts → IsPlainWord moment → IsPlainWord anchor → All IsPlainWord (file ∷ more) → length more < usize_max
    → fault_of program (name ∷ codes "check" ∷ check_words store verdicts moment anchor (file ∷ more)) ≡ []
no_fault name store verdicts moment anchor file more store_plain verdicts_plain moment_plain anchor_plain plain few =
    fault_from name (check_words store verdicts moment anchor (file ∷ more))
    (level_well shape (check_words store verdicts moment anchor (file ∷ more)) _ (goes store verdicts moment anchor file more store_plain verdicts_plain moment_plain anchor_plain plain) (rest_well store verdicts moment anchor file more (settles (behind_anchor store verdicts moment anchor) file more few)))

-- the words ask nothing of policies
pub record EntersCheck (entered : Option (Text × List Row)) (values : List (Text × Option Text)) (given : List Text) : Type 0 where
  pub of : EntersFiles entered (codes "check") values given
  pub policies : all_of (codes "policy") of.rows ≡ None
  pub flags : Finds ((codes "require-policy", Some (codes "false")) ∷ (codes "inhibit-mapping", Some (codes "false")) ∷ (codes "inhibit-any-policy", Some (codes "false")) ∷ []) of.rows

files_found : (store verdicts moment anchor file : Text) (more : List Text) → all_of (codes "file") (finished shape.rules (filing (behind_anchor store verdicts moment anchor) (file ∷ more)).held) ≡ Some (file ∷ more)
unfolding clap_on_literals
files_found store verdicts moment anchor file more = refl

-- they enter the subcommand, and its options and its files are theirs
pub entered : (name store verdicts moment anchor file : Text) (more : List Text) → IsPlainWord store → IsPlainWord verdicts → IsPlainWord moment → IsPlainWord anchor → All IsPlainWord (file ∷ more)
    → EntersCheck (subcommand_of program (name ∷ codes "check" ∷ check_words store verdicts moment anchor (file ∷ more)))
    ((codes "purpose", None) ∷ (codes "store", Some store) ∷ (codes "verdicts", Some verdicts) ∷ (codes "at", Some moment) ∷ (codes "anchor", Some anchor) ∷ (codes "file", Some file) ∷ []) (file ∷ more)
unfolding clap_on_literals
entered name store verdicts moment anchor file more store_plain verdicts_plain moment_plain anchor_plain plain =
    let are = rows_are shape (check_words store verdicts moment anchor (file ∷ more)) _ (goes store verdicts moment anchor file more store_plain verdicts_plain moment_plain anchor_plain plain) in
    record {
      of = record {
        rows = rows_after shape.rules [] (check_words store verdicts moment anchor (file ∷ more));
        is = enters_from name (check_words store verdicts moment anchor (file ∷ more));
        finds = (ap (first_of (codes "purpose")) are, (ap (first_of (codes "store")) are, (ap (first_of (codes "verdicts")) are, (ap (first_of (codes "at")) are, (ap (first_of (codes "anchor")) are, (ap (first_of (codes "file")) are, tt))))));
        files = ap (all_of (codes "file")) are;
      };
      policies = ap (all_of (codes "policy")) are;
      flags = (ap (first_of (codes "require-policy")) are, (ap (first_of (codes "inhibit-mapping")) are, (ap (first_of (codes "inhibit-any-policy")) are, tt)));
    }
