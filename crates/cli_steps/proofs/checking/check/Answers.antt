use Rattle.std.proofs.Common.{Ok, Err}
use Rattle.cli_words.specs.QueryTexts.{seen_words}
use Rattle.cli_steps.proofs.Answered.{asks_cleanly, checked, not_checked}
use Rattle.cli_steps.proofs.checking.check.Goals as goal

pub returns-in-Ok-clause-clean : goal.returns-in-Ok-clause-clean
returns-in-Ok-clause-clean g c =
    asks_cleanly g.K.Keeper.is_clean g.K.Keeper.keeps c.args.party.now.keeper c.ask.new.receiver c.args.party.now.believed (g.S.Source.holds c.args.source.now)
    (seen_words c.args.words.now) (Ok c.in-Ok.verdict) c.in-Ok.ensures

pub returns-in-Err-clause-clean : goal.returns-in-Err-clause-clean
returns-in-Err-clause-clean g c =
    asks_cleanly g.K.Keeper.is_clean g.K.Keeper.keeps c.args.party.now.keeper c.ask.new.receiver c.args.party.now.believed (g.S.Source.holds c.args.source.now)
    (seen_words c.args.words.now) (Err c.in-Err.failure) c.in-Err.ensures

pub returns-in-Ok-clause-steps : goal.returns-in-Ok-clause-steps
returns-in-Ok-clause-steps g c =
    checked g.K.Keeper.is_clean g.K.Keeper.keeps c.args.party.now.keeper c.ask.new.receiver c.args.party.now.believed (g.S.Source.holds c.args.source.now)
    (seen_words c.args.words.now) c.in-Ok.verdict c.in-Ok.ensures

pub returns-in-Err-clause-steps : goal.returns-in-Err-clause-steps
returns-in-Err-clause-steps g c =
    not_checked g.K.Keeper.is_clean g.K.Keeper.keeps c.args.party.now.keeper c.ask.new.receiver c.args.party.now.believed (g.S.Source.holds c.args.source.now)
    (seen_words c.args.words.now) c.in-Err.failure c.in-Err.ensures
