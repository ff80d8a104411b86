use Rattle.std.proofs.Common.{take}
use Rattle.std.specs.Io.KnownBytes.{Appends}
use Rattle.std.specs.List.{flat_map}
use Rattle.names.specs.GeneralView.{general_name}
use Rattle.cli_printing.specs.CertificateText.{alternative_line}
use Rattle.cli_printing.proofs.certificate.write_alternatives.Given as goal

abbrev pub invariant-names : goal.invariant-names
invariant-names g l =
    Appends (g.W.Write.contents l.initial.writer) (g.W.Write.contents l.writer) (flat_map (λ x. alternative_line (general_name x)) (take l.name-index l.names))
