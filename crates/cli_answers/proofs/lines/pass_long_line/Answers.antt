use Rattle.std.proofs.Common.{◌∷◌, [], arith, rules}
use Rattle.std.specs.Io.KnownBytes.{Consumes}
use Rattle.cli_answers.specs.Lines.{PassesLine}
use Rattle.cli_answers.proofs.Reading.{line_before}
use Rattle.cli_answers.proofs.lines.pass_long_line.Goals as goal

pub returns : goal.returns
returns g c =
    let next : Consumes (g.R.Read.remaining c.args.source.now) (g.R.Read.remaining c.read_octet.new.source) (c.in-Some.octet ∷ []) = search rules in
    let passed : PassesLine (g.R.Read.remaining c.read_octet.new.source) (g.R.Read.remaining c.pass_line.new.source) = search rules in
    (c.in-Some.octet ∷ passed.0, omega arith, line_before _ _ _ (c.in-Some.octet ∷ []) passed.0 (c.if-octet-eq10.false, tt) next passed.1)
