use Rattle.std.proofs.Common.{w64}
use Rattle.std.proofs.Math.Facts.{to_z-of_z}
use Rattle.path.proofs.validation.validate.Goals as goal

pub returns-clause-ok : goal.returns-clause-ok
returns-clause-ok g c = rw (c.stated-options.ensures, to_z-of_z {w = w64} c.ranges.moment) at c.validate_with.ensures.ok

pub returns-clause-err : goal.returns-clause-err
returns-clause-err g c = rw (c.stated-options.ensures, to_z-of_z {w = w64} c.ranges.moment) at c.validate_with.ensures.err

pub returns-clause-calm : goal.returns-clause-calm
returns-clause-calm g c = rw (c.stated-options.ensures, to_z-of_z {w = w64} c.ranges.moment) at c.validate_with.ensures.calm
