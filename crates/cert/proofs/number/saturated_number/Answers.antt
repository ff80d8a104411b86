use Rattle.cert.proofs.Saturation.{saturated_none, saturated_more, saturated_all}
use Rattle.cert.proofs.number.saturated_number.Goals as goal

pub loop-octet-init : goal.loop-octet-init
loop-octet-init c = saturated_none

pub loop-octet-preserved : goal.loop-octet-preserved
loop-octet-preserved c = saturated_more c.args.octets.now c.loop-octet.octet-index c.loop-octet.number c.saturating_add-number.result c.loop-octet-test.true c.loop-octet.invariant (rw (← c.from.ensures, ← c.saturating_mul.ensures) c.saturating_add-number.ensures)

pub returns : goal.returns
returns c = saturated_all c.args.octets.now c.loop-octet.octet-index c.loop-octet.number c.loop-octet-test.false c.loop-octet.invariant
