use Rattle.std.proofs.Common.{rules}
use Rattle.std.proofs.lemmas.Iterator.Search.{any_from_yields_List}
use Rattle.std.proofs.lemmas.Iterator.Splits.{YieldsList-from_slice_split}
use Rattle.std.specs.Str.{bytes_eq}
use borrow.Author.Tests.{tests}
use Rattle.cli_failures.specs.Topics.{is_blank}
use Rattle.cli_failures.proofs.topics.has_word.Goals as goal

pub returns : goal.returns
returns c =
    any_from_yields_List (λ piece. bytes_eq piece c.args.word.now) _ _ _ c.any.ensures.ran
    (YieldsList-from_slice_split _ is_blank c.args.head.now c.split.ensures.rest c.split.ensures.done c.split.ensures.closure (λ x b q k. search (rules, tests)))
    (λ x b q k. search (rules, tests))
