use Rattle.std.proofs.Common.{codes}
use Rattle.cli_requests.proofs.Words.{stripped}
use Rattle.cli_requests.proofs.policies.policy_in.Goals as goal

pub returns : goal.returns
returns c = stripped (codes "policy=") c.args.word.now c.strip_prefix.result c.strip_prefix.ensures.cases
