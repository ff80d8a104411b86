use Rattle.cli_steps.proofs.Answered.{believes_more, believes_same}
use Rattle.cli_steps.proofs.believing.believe.Goals as goal

pub returns-in-Ok-clause-steps : goal.returns-in-Ok-clause-steps
returns-in-Ok-clause-steps g c =
    believes_more c.args.party.now.believed c.believe.new.self (g.K.Keeper.keeps c.args.party.now.keeper) c.args.print c.in-Ok.ensures.listed c.in-Ok.ensures.more

pub returns-in-Err-clause-steps : goal.returns-in-Err-clause-steps
returns-in-Err-clause-steps g c =
    believes_same c.args.party.now.believed c.believe.new.self (g.K.Keeper.keeps c.args.party.now.keeper) c.args.print c.in-Err.ensures.listed c.in-Err.ensures.same
