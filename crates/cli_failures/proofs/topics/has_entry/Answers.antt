use Rattle.std.proofs.Common.{rules, map}
use Rattle.std.proofs.lemmas.Iterator.Search.{any_from_yields_List}
use Rattle.std.proofs.lemmas.Iterator.Splits.{YieldsList-from_slice_split}
use borrow.Author.Tests.{tests}
use Rattle.cli_failures.specs.Topics.{is_on_topic, is_feed}
use Rattle.cli_failures.proofs.topics.has_entry.Goals as goal

pub returns : goal.returns
returns c =
    any_from_yields_List (is_on_topic (map (λ w. w.now) c.args.words.now)) _ _ _ c.any.ensures.ran
    (YieldsList-from_slice_split _ is_feed c.args.entries.now c.split.ensures.rest c.split.ensures.done c.split.ensures.closure (λ x b q k. search (rules, tests)))
    (λ x b q k. search (rules, tests))
