use Rattle.std.proofs.Common.{refl}
use Rattle.relying_search.proofs.Standing.{stands_first}
use Rattle.relying_search.proofs.asked.Asked.none.Goals as goal

pub returns-clause-stands : goal.returns-clause-stands
returns-clause-stands c = stands_first _ refl
