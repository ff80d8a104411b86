use Rattle.std.proofs.Common.{◌∙◌, ◌==◌, length, sym, arith}
use Rattle.std.specs.List.{slice_split}
use Rattle.std.proofs.lemmas.Iterator.Consumers.{YieldsList-turn, YieldsList-end}
use Rattle.std.proofs.lemmas.Iterator.Splits.{YieldsList-from_str_split}
use Rattle.cli_operands.proofs.Arcs.{no_arcs}
use Rattle.cli_operands.proofs.purpose.arcs_of.Goals as goal

pub returns-in_default-clause-none : goal.returns-in_default-clause-none
returns-in_default-clause-none c =
    let turn = YieldsList-turn (YieldsList-from_str_split 46 c.args.text.now (omega arith) (cc) (cc) (cc)) c.loop-part.yielded _ c.loop-part.yielded_by _ _ c.in-Some.part c.in-Some.is c.next.ensures.steps in
    no_arcs (slice_split (λ octet. octet == 46) c.args.text.now) (length c.loop-part.yielded) c.in-Some.part.now turn c.in_default.ensures.none

pub returns-clause-arcs : goal.returns-clause-arcs
returns-clause-arcs c =
    let end = YieldsList-end (YieldsList-from_str_split 46 c.args.text.now (omega arith) (cc) (cc) (cc)) c.loop-part.yielded _ c.loop-part.yielded_by _ _ c.in-None.is c.next.ensures.steps in
    (c.loop-part.invariant.2, sym end.0 ∙ c.loop-part.invariant.3)
