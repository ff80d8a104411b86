use Rattle.std.proofs.Common.{◌≡◌, ◌<◌, ◌+◌, ◌^◌, ◌∷◌, ℕ, List, Bor, length, map, ap, subst, arith}
use Rattle.std.proofs.lemmas.List.{length-map}
use Rattle.clap.specs.Words.{Text}
use Rattle.cli_words.specs.PlainLine.{plain_words}
use Rattle.cli_words.proofs.Outcomes.{IsReadAs}
use Rattle.cli_words.proofs.PlainLines.{plain_known}
use Rattle.cli_words.proofs.line.command_of.Goals as goal

-- all but the first of the words
few : (words : List (Bor Text)) (count : ℕ) (name : Text) (more : List Text) → count ≡ length words → count < 2 ^ 64 → map (λ w. w.now) words ≡ name ∷ more → length more + 1 < 2 ^ 64
few words count name more is fits are = omega (arith, is, fits, ap length are, length-map words (λ (w : Bor Text). w.now))

pub returns-clause-plain : goal.returns-clause-plain
returns-clause-plain c = λ name line are.
    plain_known name line c.line_of_words.result (few c.args.words.now c.count_of-count.result name (plain_words line) c.count_of-count.ensures.count c.count_of-count.ensures.fits are)
    (subst (λ (words : List Text). IsReadAs words c.line_of_words.result) are (record { reads = c.line_of_words.ensures.reads; refuses = c.line_of_words.ensures.refuses }))
