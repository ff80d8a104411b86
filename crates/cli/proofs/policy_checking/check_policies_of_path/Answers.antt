use Rattle.cli_words.specs.PolicyTexts.{seen_policy_words}
use Rattle.cli_words.specs.QueryTexts.{seen_words}
use Rattle.cli.specs.Host.{host}
use Rattle.cli.proofs.Asked.{checked_policies, not_checked_policies}
use Rattle.cli.proofs.policy_checking.check_policies_of_path.Goals as goal

pub returns-clause-checked : goal.returns-clause-checked
returns-clause-checked g c =
    checked_policies g.S.Stores.places (host g.S.Source.holds g.S.Stores.places c.args.source.now) c.args.store.now c.args.verdicts.now (seen_words c.args.query.now) (seen_policy_words c.args.policies.now)
    _ c.check_believing.new.receiver (λ accepts query result found. found) c.check_believing.result c.check_believing.ensures

pub returns-clause-fails : goal.returns-clause-fails
returns-clause-fails g c =
    not_checked_policies g.S.Stores.places (host g.S.Source.holds g.S.Stores.places c.args.source.now) c.args.store.now c.args.verdicts.now (seen_words c.args.query.now) (seen_policy_words c.args.policies.now)
    _ c.check_believing.new.receiver (λ accepts query result found. found) c.check_believing.result c.check_believing.ensures
