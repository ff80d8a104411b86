-- Words that are read one after the other, and what they enter.
use Rattle.std.proofs.Common.{◌≡◌, ◌≢◌, ◌==◌, ◌++◌, ◌∙◌, ℕ, List, [], ◌∷◌, Option, Some, None, find, fold, unwrap_or, false, true, refl, ap, sym, codes, arith, append_assoc, is_some}
use Rattle.std.proofs.lemmas.List.{append-nil}
use Rattle.std.proofs.lemmas.Bool.Decides.{nat_tests}
use Rattle.std.specs.Str.{bytes_eq}
use Rattle.clap.specs.Words.{Row, Rule, Text, all_of, first_of}
use Rattle.clap.specs.Faults.{check_fault, defaults_fault, entered_fault, level_fault, settle_fault, step_fault, turn_fault, walk_fault}
use Rattle.clap.specs.Kinds.{Kinds, or_else, values_kinds}
use Rattle.clap.specs.declared.builder.value_parser.ValueParser.TheVariants as vp
use Rattle.clap.specs.Simple.{Shape, built, entered, label_of}
use Rattle.clap.specs.Walk.{Names, Walk, answers_to, arg_by_id, arg_by_index, finished, idle, most_values, nothing_held, option, rows_after, settled, to_positional, value as file_value, walk_from, walked}
use Rattle.clap.proofs.OnLiterals.{clap_on_literals}
use Rattle.cli_words.specs.App.{program}
use Rattle.cli_words.specs.PlainLine.{IsPlainWord}

-- a letter that is no hyphen
pub is_other : (x : ℕ) → x ≢ 45 → (x == 45) ≡ false
is_other x ne = grind (arith, nat_tests)

-- what clap reads of a subcommand, once it is built
abbrev pub shape_of : Text → Shape
shape_of name = unwrap_or (find (λ s. answers_to name (label_of s)) (built program).subs) (built program).top

-- the walk over the words breaks no rule and ends there
pub record WalksTo (s : Shape) (w : Walk) (words : List Text) (end : Walk) : Type 0 where
  pub well : walk_fault s [] w words ≡ []
  pub ends : fold (walked s.rules []) w words ≡ end

pub goes_none : (s : Shape) (w : Walk) → WalksTo s w [] w
unfolding walk_fault
goes_none s w = record { well = refl; ends = refl }

pub goes_more : (s : Shape) (w next end : Walk) (word : Text) (words : List Text) → turn_fault s [] w word ≡ [] → walked s.rules [] w word ≡ next
    → WalksTo s next words end → WalksTo s w (word ∷ words) end
unfolding walk_fault
goes_more s w next end word words well is rest =
    record {
      well = rw (well, is) rest.well;
      ends = ap (λ (v : Walk). fold (walked s.rules []) v words) is ∙ rest.ends;
    }

-- where the walk stands behind a value, and behind the name of an option
abbrev pub at : List Row → Option (Text × List Text) → Walk
at rows pending = record {
  held = record { rows = rows; pending = pending; skip = 0 };
  waiting = idle;
  position = 1;
  is_trailing = false;
  stopped = None;
}

abbrev pub waits : List Row → Text → Walk
waits rows id = record (at rows (Some (id, []))) { waiting = option id }

-- the value of an option
answers_at : (c : List Rule) (a : Rule) (rows : List Row) (id xs : Text) (x : ℕ) → (x == 45) ≡ false → arg_by_id c id ≡ Some a → bytes_eq id a.id ≡ true → most_values a ≡ 1
    → walked c [] (waits rows id) (x ∷ xs) ≡ at rows (Some (id, (x ∷ xs) ∷ []))
unfolding clap_on_literals
answers_at c a rows id xs x plain known same one = simp (plain, known, same, one)

answers_nothing : (c : List Rule) (a : Rule) (rows : List Row) (id : Text) → arg_by_id c id ≡ Some a → bytes_eq id a.id ≡ true → most_values a ≡ 1
    → walked c [] (waits rows id) [] ≡ at rows (Some (id, [] ∷ []))
unfolding clap_on_literals
answers_nothing c a rows id known same one = simp (known, same, one)

pub answers : (c : List Rule) (a : Rule) (rows : List Row) (id word : Text) → IsPlainWord word → arg_by_id c id ≡ Some a → bytes_eq id a.id ≡ true → most_values a ≡ 1
    → walked c [] (waits rows id) word ≡ at rows (Some (id, word ∷ []))
answers c a rows id [] plain known same one = answers_nothing c a rows id known same one
answers c a rows id (x ∷ xs) plain known same one = answers_at c a rows id xs x (is_other x plain) known same one

answers_well_at : (s : Shape) (rows : List Row) (id xs : Text) (x : ℕ) → (x == 45) ≡ false → turn_fault s [] (waits rows id) (x ∷ xs) ≡ []
unfolding clap_on_literals
answers_well_at s rows id xs x plain = simp plain

answers_well : (s : Shape) (rows : List Row) (id word : Text) → IsPlainWord word → turn_fault s [] (waits rows id) word ≡ []
unfolding clap_on_literals
answers_well s rows id [] plain = refl
answers_well s rows id (x ∷ xs) plain = answers_well_at s rows id xs x (is_other x plain)

-- an option and its value
pub goes_option : (s : Shape) (a : Rule) (w end : Walk) (rows : List Row) (flag id value : Text) (words : List Text)
    → turn_fault s [] w flag ≡ [] → walked s.rules [] w flag ≡ waits rows id → IsPlainWord value → arg_by_id s.rules id ≡ Some a → bytes_eq id a.id ≡ true → most_values a ≡ 1
    → WalksTo s (at rows (Some (id, value ∷ []))) words end → WalksTo s w (flag ∷ value ∷ words) end
goes_option s a w end rows flag id value words well asks plain known same one rest =
    goes_more s w (waits rows id) end flag (value ∷ words) well asks
    (goes_more s (waits rows id) (at rows (Some (id, value ∷ []))) end value words (answers_well s rows id value plain)
    (answers s.rules a rows id value plain known same one) rest)

-- the one file of a subcommand
abbrev pub filed : Shape → List Row → Option (Text × List Text) → Text → Walk
filed s rows pending file = to_positional s.rules (arg_by_index s.rules 1) file (at rows pending) (at rows pending).held

ends_at : (s : Shape) (rows : List Row) (pending : Option (Text × List Text)) (xs : Text) (x : ℕ) → (x == 45) ≡ false → walked s.rules [] (at rows pending) (x ∷ xs) ≡ filed s rows pending (x ∷ xs)
unfolding clap_on_literals
ends_at s rows pending xs x plain = simp plain

ends : (s : Shape) (rows : List Row) (pending : Option (Text × List Text)) (file : Text) → IsPlainWord file → walked s.rules [] (at rows pending) file ≡ filed s rows pending file
unfolding clap_on_literals
ends s rows pending [] plain = refl
ends s rows pending (x ∷ xs) plain = ends_at s rows pending xs x (is_other x plain)

ends_well_at : (s : Shape) (rows : List Row) (pending : Option (Text × List Text)) (xs : Text) (x : ℕ) → (x == 45) ≡ false
    → turn_fault s [] (at rows pending) (x ∷ xs) ≡ step_fault s 1 (at rows pending).held file_value
unfolding clap_on_literals
ends_well_at s rows pending xs x plain = simp plain

ends_well : (s : Shape) (rows : List Row) (pending : Option (Text × List Text)) (file : Text) → IsPlainWord file → turn_fault s [] (at rows pending) file ≡ step_fault s 1 (at rows pending).held file_value
unfolding clap_on_literals
ends_well s rows pending [] plain = refl
ends_well s rows pending (x ∷ xs) plain = ends_well_at s rows pending xs x (is_other x plain)

pub goes_file : (s : Shape) (rows : List Row) (pending : Option (Text × List Text)) (file : Text) → IsPlainWord file → step_fault s 1 (at rows pending).held file_value ≡ []
    → WalksTo s (at rows pending) (file ∷ []) (filed s rows pending file)
goes_file s rows pending file plain well =
    goes_more s (at rows pending) (filed s rows pending file) (filed s rows pending file) file [] (ends_well s rows pending file plain ∙ well) (ends s rows pending file plain)
    (goes_none s (filed s rows pending file))

-- what is refused behind a walk, and behind its last argument
abbrev pub later_fault : Shape → Walk → Kinds
later_fault s w =
    or_else (defaults_fault (settled s.rules w.held).rows s.rules) (check_fault s (finished s.rules w.held) false)

abbrev pub rest_fault : Shape → Walk → Kinds
rest_fault s w = or_else (settle_fault s.rules s.args_override_self w.held) (later_fault s w)

pub level_well : (s : Shape) (words : List Text) (end : Walk) → WalksTo s (walk_from nothing_held) words end → rest_fault s end ≡ [] → level_fault s [] nothing_held words false [] ≡ []
level_well s words end goes done = rw (goes.well, goes.ends) done

pub rows_are : (s : Shape) (words : List Text) (end : Walk) → WalksTo s (walk_from nothing_held) words end → rows_after s.rules [] words ≡ finished s.rules end.held
rows_are s words end goes = ap (λ (w : Walk). finished s.rules w.held) goes.ends

-- the rows have these first values
abbrev pub Finds : List (Text × Option Text) → List Row → Type 0
Finds [] rows = Unit {0}
Finds (given ∷ others) rows = (first_of given.0 rows ≡ given.1) × Finds others rows

pub record Enters (entered : Option (Text × List Row)) (name : Text) (values : List (Text × Option Text)) : Type 0 where
  pub rows : List Row
  pub is : entered ≡ Some (name, rows)
  pub finds : Finds values rows

-- the same, and the files
pub record EntersFiles (entered : Option (Text × List Row)) (name : Text) (values : List (Text × Option Text)) (given : List Text) : Type 0 where
  pub rows : List Row
  pub is : entered ≡ Some (name, rows)
  pub finds : Finds values rows
  pub files : all_of (codes "file") rows ≡ Some given

-- any text is a value
pub all_accepted : (values : List Text) → values_kinds false vp.String values ≡ []
all_accepted [] = refl
all_accepted (value ∷ values) = all_accepted values

-- a walk that stopped at a subcommand hands all words on to it
abbrev pub halted : Walk → Text × List Text → Walk
halted w p = record w { stopped = Some p }

pub halted_well : (s : Shape) (names : Names) (w : Walk) (p : Text × List Text) (words : List Text) → walk_fault s names (halted w p) words ≡ []
unfolding walk_fault walked
halted_well s names w p [] = refl
halted_well s names w p (word ∷ words) = halted_well s names w (p.0, p.1 ++ word ∷ []) words

pub halted_on : (c : List Rule) (names : Names) (w : Walk) (name : Text) (behind words : List Text) → fold (walked c names) (halted w (name, behind)) words ≡ halted w (name, behind ++ words)
unfolding walked
halted_on c names w name behind [] = ap (λ (all : List Text). halted w (name, all)) (sym (append-nil behind))
halted_on c names w name behind (word ∷ words) =
    halted_on c names w name (behind ++ word ∷ []) words ∙ ap (λ (all : List Text). halted w (name, all)) (append_assoc behind (word ∷ []) words)

-- what is refused by the program, where its walk ends so
abbrev pub top_fault : Kinds → Walk → Kinds
top_fault kinds w =
    or_else kinds (or_else (entered_fault (built program) w.stopped)
    (or_else (settle_fault (built program).top.rules (built program).top.args_override_self w.held)
    (or_else (defaults_fault (settled (built program).top.rules w.held).rows (built program).top.rules)
    (check_fault (built program).top (finished (built program).top.rules w.held) (is_some (entered (built program) w.stopped))))))
