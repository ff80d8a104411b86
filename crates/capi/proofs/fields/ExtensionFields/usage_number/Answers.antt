use Rattle.std.proofs.Common.{arith}
use Rattle.cert.specs.KeyUsage.{seen_key_usage}
use Rattle.capi.proofs.Usage.{fits_nine}
use Rattle.capi.proofs.fields.ExtensionFields.usage_number.Goals as goal

pub overflow_add-number : goal.overflow_add-number
overflow_add-number c =
    let v = c.loop-bit.invariant in
    omega (arith, fits_nine c.loop-bit.bit c.loop-bit.number c.loop-bit.weight (seen_key_usage c.args.usage) c.loop-bit-test.true v.weight v.number)
