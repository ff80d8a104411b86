-- Comparisons that do not differ.
use Rattle.std.proofs.Common.{Result, Ok, Err}
use Rattle.sqlite.specs.State.{State}
use Rattle.relying_agreement.specs.declared.verdict.Comparison.{Comparison}
use Rattle.relying_agreement.specs.Comparison.{IsComparison, NeverDiffers}
use Rattle.path.specs.Query.{Query, Accepts}
use Rattle.relying_verdicts.specs.declared.fault.Fault.{Fault}
use Rattle.store.specs.Adopts.{StaysIfOpen}
use Rattle.relying.specs.Asking.{HasLookedAtBoth}
use Rattle.relying.specs.Never.{NeverDiffer}

pub never_differ : NeverDiffers → (accepts : Accepts) (query : Query) (old new other other_new : State) (result : Result Comparison Fault)
    → HasLookedAtBoth StaysIfOpen old new other other_new (IsComparison accepts query) result → NeverDiffer accepts query old other result
never_differ law accepts query old new other other_new (Ok answer) looks held others store stores consistent same =
    let it = looks.2 held others store stores in
    (it.v, it.is_v, law accepts query held others answer it.v consistent same it it.is_v)
never_differ law accepts query old new other other_new (Err fault) looks held others store stores consistent same = tt
