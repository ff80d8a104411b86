use Rattle.cli_steps.proofs.Answered.{forgets}
use Rattle.cli_steps.proofs.believing.forget.Goals as goal

pub returns-clause-steps : goal.returns-clause-steps
returns-clause-steps g c =
    forgets c.args.party.now.believed c.forget.new.self (g.K.Keeper.keeps c.args.party.now.keeper) c.forget.ensures.listed c.forget.ensures.less
