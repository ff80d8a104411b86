use Rattle.relying_search.proofs.Every.{among_all}
use Rattle.relying_search.proofs.among_agreement.among_all_law.Goals as goal

pub returns : goal.returns
returns c = among_all
