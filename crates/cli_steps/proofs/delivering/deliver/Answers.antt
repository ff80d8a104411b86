use Rattle.std.proofs.Common.{Ok, Err}
use Rattle.cli_steps.proofs.Answered.{delivered, delivers_cleanly, not_delivered}
use Rattle.cli_steps.proofs.delivering.deliver.Goals as goal

pub returns-in-Ok-clause-clean : goal.returns-in-Ok-clause-clean
returns-in-Ok-clause-clean g c =
    delivers_cleanly g.K.Keeper.is_clean g.K.Keeper.keeps c.args.party.now.keeper c.deliver_to.new.receiver c.args.party.now.believed (g.S.Source.holds c.args.source.now)
    c.args.issuer.now c.args.file.now (Ok c.in-Ok.counts) c.in-Ok.ensures

pub returns-in-Err-clause-clean : goal.returns-in-Err-clause-clean
returns-in-Err-clause-clean g c =
    delivers_cleanly g.K.Keeper.is_clean g.K.Keeper.keeps c.args.party.now.keeper c.deliver_to.new.receiver c.args.party.now.believed (g.S.Source.holds c.args.source.now)
    c.args.issuer.now c.args.file.now (Err c.in-Err.failure) c.in-Err.ensures

pub returns-in-Ok-clause-steps : goal.returns-in-Ok-clause-steps
returns-in-Ok-clause-steps g c =
    delivered g.K.Keeper.is_clean g.K.Keeper.keeps c.args.party.now.keeper c.deliver_to.new.receiver c.args.party.now.believed (g.S.Source.holds c.args.source.now)
    c.args.issuer.now c.args.file.now c.in-Ok.counts c.in-Ok.ensures

pub returns-in-Err-clause-steps : goal.returns-in-Err-clause-steps
returns-in-Err-clause-steps g c =
    not_delivered g.K.Keeper.is_clean g.K.Keeper.keeps c.args.party.now.keeper c.deliver_to.new.receiver c.args.party.now.believed (g.S.Source.holds c.args.source.now)
    c.args.issuer.now c.args.file.now c.in-Err.failure c.in-Err.ensures
