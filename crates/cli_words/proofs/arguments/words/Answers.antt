use Rattle.std.proofs.Common.{◌∙◌, List, Some, Bor, map, ap}
use Rattle.clap.specs.Words.{Text, found_of}
use Rattle.clap.proofs.WalkLemmas.{raw_values-rows}
use Rattle.cli_words.proofs.arguments.words.Goals as goal

pub returns-in_ok-from_slice-in-Some : goal.returns-in_ok-from_slice-in-Some
returns-in_ok-from_slice-in-Some c =
    ap (λ (words : List (Bor Text)). Some (map (λ (s : Bor Text). s.now) words)) c.in_ok-from_slice-in-Some.ensures.items
    ∙ c.in-Some.ensures ∙ raw_values-rows (found_of c.args.matches.now) c.args.id.now

pub returns-in-None : goal.returns-in-None
returns-in-None c = c.in-None.ensures ∙ raw_values-rows (found_of c.args.matches.now) c.args.id.now
