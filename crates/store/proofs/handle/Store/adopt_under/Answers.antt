use Rattle.std.proofs.Common.{sym, ◌∙◌}
use Rattle.store.proofs.handle.Store.adopt_under.Goals as goal

pub returns-in-Ok-clause-unchanged : goal.returns-in-Ok-clause-unchanged
returns-in-Ok-clause-unchanged g c clean = (c.in-Ok.ensures.takes clean).unchanged

pub returns-in-Ok-clause-migrated : goal.returns-in-Ok-clause-migrated
returns-in-Ok-clause-migrated g c clean = (c.in-Ok.ensures.takes clean).migrated

pub returns-in-Ok-clause-store : goal.returns-in-Ok-clause-store
returns-in-Ok-clause-store g c clean = (c.in-Ok.ensures.takes clean).store

pub returns-in-Ok-clause-crash : goal.returns-in-Ok-clause-crash
returns-in-Ok-clause-crash g c = c.in-Ok.ensures.left

pub returns-in-Ok-clause-is_open : goal.returns-in-Ok-clause-is_open
returns-in-Ok-clause-is_open g c clean = (c.in-Ok.ensures.takes clean).is_open

pub returns-in-Ok-clause-settled : goal.returns-in-Ok-clause-settled
returns-in-Ok-clause-settled g c = c.take_over.ensures.settled.1

pub returns-in-Err-clause-refused : goal.returns-in-Err-clause-refused
returns-in-Err-clause-refused g c clean =
    let h = c.in-Err.ensures.takes clean in
    let settled = c.take_over.ensures.settled in
    (record { was_open = h.0.was_open; now_is = λ up. settled.1 up ∙ h.0.committed up ∙ sym (settled.0 (h.0.was_open up)) }, h.1)

pub returns-in-Ok-clause-was : goal.returns-in-Ok-clause-was
returns-in-Ok-clause-was g c clean = (c.in-Ok.ensures.takes clean).was

pub returns-in-Ok-clause-ours : goal.returns-in-Ok-clause-ours
returns-in-Ok-clause-ours g c other = absurd (let no = c.in-Ok.ensures.tables other in cc)

pub returns-in-Err-clause-tables : goal.returns-in-Err-clause-tables
returns-in-Err-clause-tables g c other = let is = c.in-Err.ensures.tables other in cc
