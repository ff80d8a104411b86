use Rattle.std.proofs.Common.{◌≡◌, ◌<◌, ◌^◌, drop}
use Rattle.cli_printing.specs.OidText.{number_from}
use Rattle.cli_printing.proofs.oid_text.number_of.Given as goal

abbrev pub invariant-loop-octet : goal.invariant-loop-octet
invariant-loop-octet l = record {
  so_far : number_from 0 l.octets ≡ number_from l.number (drop l.octet-index l.octets);
  bound : l.number < 128 ^ l.octet-index;
}
