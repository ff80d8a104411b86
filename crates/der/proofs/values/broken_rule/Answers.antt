use Rattle.der.proofs.values.broken_rule.Goals as goal

pub returns-in-Ok : goal.returns-in-Ok
returns-in-Ok c = c.requires c.in-Ok.ensures.ok.sound

pub returns-in-Err : goal.returns-in-Err
returns-in-Err c = λ depth deep. (c.in-Err.ensures.err depth).1
