use Rattle.std.proofs.Common.{sym, ◌∙◌}
use Rattle.std.proofs.lemmas.Result.{IfOk-weaker}
use Rattle.path_conditions.specs.Narrowing.{bases_of}
use Rattle.path_conditions.proofs.NarrowedLists.{list_begun, list_narrowed}
use Rattle.path_conditions.proofs.narrowing.narrowed_list.Goals as goal

pub returns-in_ok-begin-in-None-clause-value : goal.returns-in_ok-begin-in-None-clause-value
returns-in_ok-begin-in-None-clause-value c =
    let loud = sym c.one_is_about.ensures ∙ c.if-not-one_is_about.false in
    rw c.in-None.is (list_begun c.args.form c.in_ok-begin-in-None.field-0 (bases_of c.args.carried.now) loud c.in_ok-begin-in-None.ensures)

pub returns-in-Some-clause-value : goal.returns-in-Some-clause-value
returns-in-Some-clause-value c =
    let loud = sym c.one_is_about.ensures ∙ c.if-not-one_is_about.false in
    let carried = bases_of c.args.carried.now in
    rw c.in-Some.is (IfOk-weaker c.narrow.result _ _ (λ change made. list_narrowed c.args.form c.in-Some.held carried change loud made) c.narrow.ensures)
