use Rattle.std.proofs.Common.{◌∙◌, ap}
use Rattle.std.proofs.lemmas.Result.{IfOk-weaker}
use Rattle.names.specs.GeneralCoverage.{is_of_form}
use Rattle.path_conditions.specs.Narrowing.{bases_of}
use Rattle.path_conditions.proofs.NarrowedLists.{bases_of-selected}
use Rattle.path_conditions.proofs.narrowing.begin.Goals as goal

pub returns : goal.returns
returns c =
    IfOk-weaker c.of.result _ _
    (λ list is. is ∙ (ap bases_of c.in_ok-selected.ensures ∙ bases_of-selected (λ base. is_of_form base c.args.form) c.args.carried.now))
    c.of.ensures
