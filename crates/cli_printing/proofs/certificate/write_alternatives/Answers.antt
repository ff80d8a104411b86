use Rattle.std.proofs.Common.{List, ℕ, subst, sym}
use Rattle.std.specs.Io.KnownBytes.{Appends}
use Rattle.names.specs.GeneralView.{general_name}
use Rattle.cli_printing.specs.CertificateText.{alternative_line}
use Rattle.cli_printing.proofs.Joining.{joined_said}
use Rattle.cli_printing.proofs.certificate.write_alternatives.Goals as goal

pub returns : goal.returns
returns g c =
    subst (λ (text : List ℕ). Appends (g.W.Write.contents c.args.writer.now) (g.W.Write.contents c.names.writer) text)
    (sym (joined_said alternative_line general_name c.args.names.now c.names.name-index c.names-test.false)) c.names.invariant
