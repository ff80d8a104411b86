use Rattle.std.proofs.Common.{List, ℕ, subst, sym}
use Rattle.std.specs.Io.KnownBytes.{Appends}
use Rattle.asn.specs.Oid.{oid_contents}
use Rattle.cli_printing.specs.CertificateText.{oid_line}
use Rattle.cli_printing.proofs.Joining.{joined_said}
use Rattle.cli_printing.proofs.certificate.write_identifiers.Goals as goal

pub returns : goal.returns
returns g c =
    subst (λ (text : List ℕ). Appends (g.W.Write.contents c.args.writer.now) (g.W.Write.contents c.oids.writer) text)
    (sym (joined_said (oid_line c.args.word.now) oid_contents c.args.oids.now c.oids.oid-index c.oids-test.false)) c.oids.invariant
