use Rattle.std.proofs.Common.{rules}
use Rattle.names.specs.declared.ip.IpFault.TheVariants as F
use Rattle.names.proofs.Masks.{no_range}
use Rattle.names.proofs.BaseLaws.{range_read, range_refused}
use Rattle.names.proofs.ip.IpRange.of_base.Goals as goal

pub returns-then-not-matches-clause-range : goal.returns-then-not-matches-clause-range
returns-then-not-matches-clause-range c = range_refused c.args.base.now F.Length (search rules)

pub returns-in-Some-clause-range : goal.returns-in-Some-clause-range
returns-in-Some-clause-range c = range_read c.args.base.now (record { address = c.split_at.result.0; prefix = c.in-Some.prefix }) (search rules)

pub returns-in-None-clause-range : goal.returns-in-None-clause-range
returns-in-None-clause-range c = range_refused c.args.base.now F.Mask (search rules)

pub returns-in-None-clause-accepts : goal.returns-in-None-clause-accepts
returns-in-None-clause-accepts c = λ range r. absurd (no_range c.args.base.now c.split_at.result.1.now range c.split_at.ensures.back c.in-None.ensures r)
