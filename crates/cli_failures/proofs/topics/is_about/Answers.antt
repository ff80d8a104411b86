use Rattle.std.proofs.Common.{sym, ◌∙◌, rules, tests, List, ℕ, Bor}
use Rattle.std.proofs.lemmas.Iterator.{YieldsList-from_slice}
use Rattle.std.proofs.lemmas.Iterator.Search.{all_from_yields_List}
use Rattle.std.specs.List.{list_any}
use Rattle.std.specs.Str.{bytes_eq}
use Rattle.cli_failures.specs.Topics.{head_words}
use Rattle.cli_failures.proofs.Mapping.{list_all-map}
use Rattle.cli_failures.proofs.topics.is_about.Goals as goal

pub returns : goal.returns
returns c =
    all_from_yields_List (λ (w : Bor (List ℕ)). list_any (λ piece. bytes_eq piece w.now) (head_words c.args.head.now)) _ _ _ c.all.ensures.ran (YieldsList-from_slice c.args.words.now cc) (λ x b q k. search (rules, tests))
    ∙ sym (list_all-map (λ word. list_any (λ piece. bytes_eq piece word) (head_words c.args.head.now)) (λ (w : Bor (List ℕ)). w.now) c.args.words.now)
