use Rattle.std.proofs.Common.{option_map}
use Rattle.cli_steps.proofs.Answered.{listed, not_asked, not_listed}
use Rattle.cli_steps.proofs.listing.list.Goals as goal

pub returns-in-Ok-held_lines-clause-steps : goal.returns-in-Ok-held_lines-clause-steps
returns-in-Ok-held_lines-clause-steps g c clean =
    listed g.K.Keeper.keeps c.args.party.now.keeper c.held_lines.new.keeper c.args.party.now.believed (option_map (λ text. text.now) c.args.moment)
    c.in-Ok.at c.in-Ok-held_lines.text c.in-Ok.ensures.reads (c.in-Ok-held_lines.ensures.lists clean)

pub returns-in-Err-held_lines-clause-steps : goal.returns-in-Err-held_lines-clause-steps
returns-in-Err-held_lines-clause-steps g c clean =
    not_listed g.K.Keeper.keeps c.args.party.now.keeper c.held_lines.new.keeper c.args.party.now.believed (option_map (λ text. text.now) c.args.moment)
    c.in-Ok.at c.in-Err-held_lines.failure c.in-Ok.ensures.reads (c.in-Err-held_lines.ensures.lists clean)

pub returns-in-Err-clause-steps : goal.returns-in-Err-clause-steps
returns-in-Err-clause-steps g c clean =
    not_asked g.K.Keeper.keeps c.args.party.now.keeper c.args.party.now.keeper c.args.party.now.believed (option_map (λ text. text.now) c.args.moment)
    c.in-Err.failure c.in-Err.ensures.fails
