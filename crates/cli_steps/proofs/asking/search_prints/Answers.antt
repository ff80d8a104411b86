use Rattle.std.proofs.Common.{map}
use Rattle.cli_steps.proofs.Searched.{prints_fail, prints_of_files}
use Rattle.cli_steps.proofs.asking.search_prints.Goals as goal

pub returns-clause-prints : goal.returns-clause-prints
returns-clause-prints g c =
    prints_of_files (g.S.Source.holds c.args.source.now) (map (λ file. file.now) c.args.anchors.now) (map (λ other. other.now) c.args.among.now) c.args.file.now c.in_ok-operands.operands c.args.with_parts
    c.prints_of.result (rw c.in-Ok.ensures at c.in_ok-operands.ensures.reads) c.prints_of.ensures.prints

pub returns-clause-fails : goal.returns-clause-fails
returns-clause-fails g c =
    prints_fail (g.S.Source.holds c.args.source.now) (map (λ file. file.now) c.args.anchors.now) (map (λ other. other.now) c.args.among.now) c.args.file.now c.in_ok-operands.operands
    c.prints_of.result (rw c.in-Ok.ensures at c.in_ok-operands.ensures.reads) c.prints_of.ensures.fails
