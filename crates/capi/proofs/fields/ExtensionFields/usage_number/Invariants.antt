use Rattle.std.proofs.Common.{◌≡◌, ◌^◌, ◌≤◌}
use Rattle.cert.specs.KeyUsage.{seen_key_usage}
use Rattle.capi.specs.Fields.{bits_below}
use Rattle.capi.proofs.fields.ExtensionFields.usage_number.Given as goal

abbrev pub invariant-loop-bit : goal.invariant-loop-bit
invariant-loop-bit l = record {
  few : l.bit ≤ 9;
  weight : l.weight ≡ 2 ^ l.bit;
  number : l.number ≡ bits_below l.bit (seen_key_usage l.usage);
}
