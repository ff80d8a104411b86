use Rattle.std.proofs.Common.{List, ℕ, subst, sym}
use Rattle.std.specs.Io.KnownBytes.{Appends}
use Rattle.names.specs.GeneralView.{subtree_base}
use Rattle.cli_printing.specs.CertificateText.{base_line}
use Rattle.cli_printing.proofs.Joining.{joined_said}
use Rattle.cli_printing.proofs.certificate.write_subtrees.Goals as goal

pub returns : goal.returns
returns g c =
    subst (λ (text : List ℕ). Appends (g.W.Write.contents c.args.writer.now) (g.W.Write.contents c.bases.writer) text)
    (sym (joined_said (base_line c.args.word.now) subtree_base c.args.bases.now c.bases.base-index c.bases-test.false)) c.bases.invariant
