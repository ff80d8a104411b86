-- What clap's definition makes of the words of `tree FILE`.
use Rattle.std.proofs.Common.{◌≡◌, ◌==◌, ℕ, [], ◌∷◌, Some, true, false, refl, codes}
use Rattle.clap.specs.Words.{Text, fault_of, first_of, subcommand_of, is_simple, is_simple_and_free}
use Rattle.clap.specs.Walk.{rows_after}
use Rattle.clap.proofs.OnLiterals.{clap_on_literals}
use Rattle.cli_words.specs.App.{program}
use Rattle.cli_words.specs.PlainLine.{IsPlainWord}
use Rattle.cli_words.proofs.Turns.{Enters, is_other, shape_of}

-- the program's command is one of which clap gives the matches
pub program_is_simple : is_simple program ≡ true
unfolding clap_on_literals
program_is_simple = refl

pub program_is_free : is_simple_and_free program ≡ true
unfolding clap_on_literals
program_is_free = refl

no_fault_at : (name xs : Text) (x : ℕ) → (x == 45) ≡ false → fault_of program (name ∷ codes "tree" ∷ (x ∷ xs) ∷ []) ≡ []
unfolding clap_on_literals
no_fault_at name xs x plain = simp plain

file_at : (xs : Text) (x : ℕ) → (x == 45) ≡ false → first_of (codes "file") (rows_after (shape_of (codes "tree")).rules [] ((x ∷ xs) ∷ [])) ≡ Some (x ∷ xs)
unfolding clap_on_literals
file_at xs x plain = simp plain

file_found : (file : Text) → IsPlainWord file → first_of (codes "file") (rows_after (shape_of (codes "tree")).rules [] (file ∷ [])) ≡ Some file
unfolding clap_on_literals
file_found [] plain = refl
file_found (x ∷ xs) plain = file_at xs x (is_other x plain)

-- the words break no rule of the command
pub no_fault : (name file : Text) → IsPlainWord file → fault_of program (name ∷ codes "tree" ∷ file ∷ []) ≡ []
unfolding clap_on_literals
no_fault name [] plain = refl
no_fault name (x ∷ xs) plain = no_fault_at name xs x (is_other x plain)

-- they enter the subcommand, and its file is theirs
pub entered : (name file : Text) → IsPlainWord file → Enters (subcommand_of program (name ∷ codes "tree" ∷ file ∷ [])) (codes "tree") ((codes "file", Some file) ∷ [])
unfolding clap_on_literals
entered name file plain =
    record {
      rows = rows_after (shape_of (codes "tree")).rules [] (file ∷ []);
      is = refl;
      finds = (file_found file plain, tt);
    }
