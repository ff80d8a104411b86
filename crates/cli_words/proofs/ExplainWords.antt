-- What clap's definition makes of the words of `explain WORD`.
use Rattle.std.proofs.Common.{◌≡◌, ◌==◌, ℕ, List, [], ◌∷◌, Some, false, refl, codes}
use Rattle.clap.specs.Words.{Row, Text, all_of, fault_of, subcommand_of}
use Rattle.clap.specs.Walk.{rows_after}
use Rattle.clap.proofs.OnLiterals.{clap_on_literals}
use Rattle.cli_words.specs.App.{program}
use Rattle.cli_words.specs.PlainLine.{IsPlainWord}
use Rattle.cli_words.proofs.Turns.{is_other, shape_of}

no_fault_at : (name xs : Text) (x : ℕ) → (x == 45) ≡ false → fault_of program (name ∷ codes "explain" ∷ (x ∷ xs) ∷ []) ≡ []
unfolding clap_on_literals
no_fault_at name xs x plain = simp plain

-- the words break no rule of the command
pub no_fault : (name word : Text) → IsPlainWord word → fault_of program (name ∷ codes "explain" ∷ word ∷ []) ≡ []
unfolding clap_on_literals
no_fault name [] plain = refl
no_fault name (x ∷ xs) plain = no_fault_at name xs x (is_other x plain)

-- the rows of the subcommand
abbrev pub rows : Text → List Row
rows word = rows_after (shape_of (codes "explain")).rules [] (word ∷ [])

pub entered : (name word : Text) → subcommand_of program (name ∷ codes "explain" ∷ word ∷ []) ≡ Some (codes "explain", rows word)
unfolding clap_on_literals
entered name word = refl

topic_at : (xs : Text) (x : ℕ) → (x == 45) ≡ false → all_of (codes "topic") (rows (x ∷ xs)) ≡ Some ((x ∷ xs) ∷ [])
unfolding clap_on_literals
topic_at xs x plain = simp plain

-- the word is its topic
pub topic_found : (word : Text) → IsPlainWord word → all_of (codes "topic") (rows word) ≡ Some (word ∷ [])
unfolding clap_on_literals
topic_found [] plain = refl
topic_found (x ∷ xs) plain = topic_at xs x (is_other x plain)
