use Rattle.test_program.proofs.shelf.add.Goals as goal

pub returns-in-Ok-clause-added : goal.returns-in-Ok-clause-added
returns-in-Ok-clause-added c = λ held stands. ((c.in-Ok.ensures.puts c.memory_is_clean.ensures).taken held stands).hold

pub returns-in-Err-clause-fails : goal.returns-in-Err-clause-fails
returns-in-Err-clause-fails c = λ held stands same. (c.in-Err.ensures.puts c.memory_is_clean.ensures).formed same held stands
