use Rattle.std.proofs.Common.{map, rules}
use Rattle.cli_failures.proofs.Fronts.{of_entry, of_feed}
use Rattle.cli_failures.proofs.topics.write_if_about.Goals as goal

pub returns-in-Ok-clause-front : goal.returns-in-Ok-clause-front
returns-in-Ok-clause-front g c =
    of_feed (map (λ w. w.now) c.args.words.now) c.args.entry.now (search rules) c.write_front-in-Ok.result
    (g.W.Write.contents c.args.writer.now) (g.W.Write.contents c.write_front.new.writer) (g.W.Write.contents c.write_front-in-Ok.new.writer)
    c.in-Ok.ensures.written c.write_front-in-Ok.ensures.front

pub returns-in-Err-clause-front : goal.returns-in-Err-clause-front
returns-in-Err-clause-front g c =
    of_entry (map (λ w. w.now) c.args.words.now) c.args.entry.now (search rules)
    (g.W.Write.contents c.args.writer.now) (g.W.Write.contents c.write_front.new.writer) c.in-Err.ensures.front
