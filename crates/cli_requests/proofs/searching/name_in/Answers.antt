use Rattle.std.proofs.Common.{codes}
use Rattle.cli_requests.proofs.Words.{stripped}
use Rattle.cli_requests.proofs.searching.name_in.Goals as goal

pub returns : goal.returns
returns c = stripped (codes "name=") c.args.word.now c.strip_prefix.result c.strip_prefix.ensures.cases
