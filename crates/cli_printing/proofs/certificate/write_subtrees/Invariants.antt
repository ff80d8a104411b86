use Rattle.std.proofs.Common.{take}
use Rattle.std.specs.Io.KnownBytes.{Appends}
use Rattle.std.specs.List.{flat_map}
use Rattle.names.specs.GeneralView.{subtree_base}
use Rattle.cli_printing.specs.CertificateText.{base_line}
use Rattle.cli_printing.proofs.certificate.write_subtrees.Given as goal

abbrev pub invariant-bases : goal.invariant-bases
invariant-bases g l =
    Appends (g.W.Write.contents l.initial.writer) (g.W.Write.contents l.writer) (flat_map (λ x. base_line l.word (subtree_base x)) (take l.base-index l.bases))
