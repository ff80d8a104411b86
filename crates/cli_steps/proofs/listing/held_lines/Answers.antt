use Rattle.cli_steps.proofs.Answered.{in_lines}
use Rattle.cli_steps.proofs.listing.held_lines.Goals as goal

pub returns-in-Ok-clause-lists : goal.returns-in-Ok-clause-lists
returns-in-Ok-clause-lists g c clean =
    in_lines (g.K.Keeper.keeps c.args.keeper.now) (g.K.Keeper.keeps c.list.new.self) c.in-Ok.all c.args.at c.listing_lines.result
    (c.in-Ok.ensures.lists clean) c.listing_lines.ensures.lines c.listing_lines.ensures.fails
