use Rattle.std.proofs.Common.{take}
use Rattle.std.specs.Io.KnownBytes.{Appends}
use Rattle.std.specs.List.{flat_map}
use Rattle.asn.specs.Oid.{oid_contents}
use Rattle.cli_printing.specs.CertificateText.{oid_line}
use Rattle.cli_printing.proofs.certificate.write_identifiers.Given as goal

abbrev pub invariant-oids : goal.invariant-oids
invariant-oids g l =
    Appends (g.W.Write.contents l.initial.writer) (g.W.Write.contents l.writer) (flat_map (λ x. oid_line l.word (oid_contents x)) (take l.oid-index l.oids))
