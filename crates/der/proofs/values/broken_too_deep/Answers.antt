use Rattle.der.proofs.values.broken_too_deep.Goals as goal

pub returns-in-Err : goal.returns-in-Err
returns-in-Err c = (c.in-Err.ensures.err 33).1
