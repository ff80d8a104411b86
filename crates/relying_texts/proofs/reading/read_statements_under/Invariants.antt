use Rattle.relying_texts.proofs.StatementsRead.{AreReadUpTo}
use Rattle.relying_texts.proofs.reading.read_statements_under.Given as goal

abbrev pub invariant-loop-index : goal.invariant-loop-index
invariant-loop-index l = AreReadUpTo l.fn.profile l.texts l.index l.statements.items
