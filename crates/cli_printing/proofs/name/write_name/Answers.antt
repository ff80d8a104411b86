use Rattle.std.proofs.Common.{ℕ, List, subst}
use Rattle.cli_printing.specs.NameText.{name_text}
use Rattle.cli_printing.specs.Written.{Writes}
use Rattle.cli_printing.proofs.SameText.{rdns_same}
use Rattle.cli_printing.proofs.name.write_name.Goals as goal

pub returns : goal.returns
unfolding name_text
returns g c =
    subst (λ (text : List ℕ). Writes g.W.Write.contents c.args.writer.now c.write_sequence.new.writer c.write_sequence.result text)
    (rdns_same _ _ c.rdns.ensures) c.write_sequence.ensures
