use Rattle.std.proofs.Common.{◌≡◌, ◌+◌, drop}
use Rattle.cli_printing.specs.OidText.{number_size}
use Rattle.cli_printing.proofs.oid_text.number_len.Given as goal

abbrev pub invariant-loop-octet : goal.invariant-loop-octet
invariant-loop-octet l = record {
  counted : l.len ≡ l.octet-index;
  so_far : number_size l.contents ≡ l.octet-index + number_size (drop l.octet-index l.contents);
}
