-- What clap's definition makes of the words of `show FILE`.
use Rattle.std.proofs.Common.{◌≡◌, ◌==◌, ℕ, [], ◌∷◌, Some, None, false, refl, codes}
use Rattle.clap.specs.Words.{Text, fault_of, first_of, subcommand_of}
use Rattle.clap.specs.Walk.{rows_after}
use Rattle.clap.proofs.OnLiterals.{clap_on_literals}
use Rattle.cli_words.specs.App.{program}
use Rattle.cli_words.specs.PlainLine.{IsPlainWord}
use Rattle.cli_words.proofs.Turns.{Enters, Finds, is_other, shape_of}

no_fault_at : (name xs : Text) (x : ℕ) → (x == 45) ≡ false → fault_of program (name ∷ codes "show" ∷ (x ∷ xs) ∷ []) ≡ []
unfolding clap_on_literals
no_fault_at name xs x plain = simp plain

file_at : (xs : Text) (x : ℕ) → (x == 45) ≡ false → first_of (codes "file") (rows_after (shape_of (codes "show")).rules [] ((x ∷ xs) ∷ [])) ≡ Some (x ∷ xs)
unfolding clap_on_literals
file_at xs x plain = simp plain

all_at : (xs : Text) (x : ℕ) → (x == 45) ≡ false → first_of (codes "all") (rows_after (shape_of (codes "show")).rules [] ((x ∷ xs) ∷ [])) ≡ Some (codes "false")
unfolding clap_on_literals
all_at xs x plain = simp plain

kind_at : (xs : Text) (x : ℕ) → (x == 45) ≡ false → first_of (codes "as") (rows_after (shape_of (codes "show")).rules [] ((x ∷ xs) ∷ [])) ≡ None
unfolding clap_on_literals
kind_at xs x plain = simp plain

found : (file : Text) → IsPlainWord file → Finds ((codes "as", None) ∷ (codes "file", Some file) ∷ (codes "all", Some (codes "false")) ∷ []) (rows_after (shape_of (codes "show")).rules [] (file ∷ []))
unfolding clap_on_literals
found [] plain = (refl, (refl, (refl, tt)))
found (x ∷ xs) plain = (kind_at xs x (is_other x plain), (file_at xs x (is_other x plain), (all_at xs x (is_other x plain), tt)))

-- the words break no rule of the command
pub no_fault : (name file : Text) → IsPlainWord file → fault_of program (name ∷ codes "show" ∷ file ∷ []) ≡ []
unfolding clap_on_literals
no_fault name [] plain = refl
no_fault name (x ∷ xs) plain = no_fault_at name xs x (is_other x plain)

-- they enter the subcommand without a kind, and its file is theirs
pub entered : (name file : Text) → IsPlainWord file
    → Enters (subcommand_of program (name ∷ codes "show" ∷ file ∷ [])) (codes "show")
    ((codes "as", None) ∷ (codes "file", Some file) ∷ (codes "all", Some (codes "false")) ∷ [])
unfolding clap_on_literals
entered name file plain =
    record {
      rows = rows_after (shape_of (codes "show")).rules [] (file ∷ []);
      is = refl;
      finds = found file plain;
    }
