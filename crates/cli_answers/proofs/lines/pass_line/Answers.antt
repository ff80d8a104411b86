use Rattle.std.proofs.Common.{◌∷◌, ◌++◌, [], rules}
use Rattle.std.specs.Io.KnownBytes.{Consumes}
use Rattle.cli_answers.proofs.Reading.{one_more}
use Rattle.cli_answers.proofs.lines.pass_line.Goals as goal

pub loop-preserved : goal.loop-preserved
loop-preserved g c =
    let (octets, none, held) = c.loop.invariant in
    let next : Consumes (g.R.Read.remaining c.loop.source) (g.R.Read.remaining c.read_octet.new.source) (c.in-Some.octet ∷ []) = search rules in
    let both = one_more _ _ _ octets c.in-Some.octet none held c.if-octet-eq10.false next in
    (octets ++ c.in-Some.octet ∷ [], both.0, both.1)
