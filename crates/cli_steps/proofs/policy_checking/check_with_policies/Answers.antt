use Rattle.std.proofs.Common.{Ok, Err}
use Rattle.cli_words.specs.PolicyTexts.{seen_policy_words}
use Rattle.cli_words.specs.QueryTexts.{seen_words}
use Rattle.cli_steps.proofs.Answered.{checked_policies, checks_cleanly, not_checked_policies}
use Rattle.cli_steps.proofs.policy_checking.check_with_policies.Goals as goal

pub returns-in-Ok-clause-clean : goal.returns-in-Ok-clause-clean
returns-in-Ok-clause-clean g c =
    checks_cleanly g.K.Keeper.is_clean g.K.Keeper.keeps c.args.party.now.keeper c.check_by_words.new.receiver c.args.party.now.believed (g.S.Source.holds c.args.source.now)
    (seen_words c.args.words.now) (seen_policy_words c.args.policies.now) (Ok c.in-Ok.told) c.in-Ok.ensures

pub returns-in-Err-clause-clean : goal.returns-in-Err-clause-clean
returns-in-Err-clause-clean g c =
    checks_cleanly g.K.Keeper.is_clean g.K.Keeper.keeps c.args.party.now.keeper c.check_by_words.new.receiver c.args.party.now.believed (g.S.Source.holds c.args.source.now)
    (seen_words c.args.words.now) (seen_policy_words c.args.policies.now) (Err c.in-Err.failure) c.in-Err.ensures

pub returns-in-Ok-clause-steps : goal.returns-in-Ok-clause-steps
returns-in-Ok-clause-steps g c =
    checked_policies g.K.Keeper.is_clean g.K.Keeper.keeps c.args.party.now.keeper c.check_by_words.new.receiver c.args.party.now.believed (g.S.Source.holds c.args.source.now)
    (seen_words c.args.words.now) (seen_policy_words c.args.policies.now) c.in-Ok.told c.in-Ok.ensures

pub returns-in-Err-clause-steps : goal.returns-in-Err-clause-steps
returns-in-Err-clause-steps g c =
    not_checked_policies g.K.Keeper.is_clean g.K.Keeper.keeps c.args.party.now.keeper c.check_by_words.new.receiver c.args.party.now.believed (g.S.Source.holds c.args.source.now)
    (seen_words c.args.words.now) (seen_policy_words c.args.policies.now) c.in-Err.failure c.in-Err.ensures
