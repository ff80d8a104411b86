use Rattle.cli_operands.proofs.Arcs.{no_purpose, none_as}
use Rattle.cli_operands.proofs.purpose.purpose_of.Goals as goal

pub returns-clause-none : goal.returns-clause-none
returns-clause-none c =
    let arcs = rw c.in-Some.is at c.in_ok-arcs.ensures.arcs in
    none_as c.purpose_in.result (λ none. no_purpose c.args.text.now c.in-Some.arcs.items arcs.0 arcs.1 (rw c.as_slice.ensures.value at none)) c.purpose_in.ensures.none
