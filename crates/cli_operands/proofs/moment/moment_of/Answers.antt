use Rattle.cli_operands.proofs.moment.moment_of.Goals as goal

pub returns-clause-none : goal.returns-clause-none
returns-clause-none c = rw c.as_bytes.ensures.value at c.seconds_of_time.ensures.none
