use Rattle.std.proofs.Common.{◌∙◌, arith}
use Rattle.std.proofs.lemmas.Bool.{both_ways}
use Rattle.std.proofs.lemmas.Slice.Eq.{bytes_eq-Decides}
use Rattle.names_distinguished.specs.Repetition.{kinds_of, pointed}
use Rattle.names_distinguished.proofs.Runs.{limit_here, limit_stays, limit_at_end}
use Rattle.names_distinguished.proofs.Pointers.{pointed_next, pointed_none}
use Rattle.names_distinguished.proofs.repetition.Pointer.limit_before.Goals as goal

pub returns-in_default : goal.returns-in_default
returns-in_default c = limit_at_end c.args.kind.now c.args.limit (pointed c.args.self) (pointed_none c.args.self c.in_default.is)

pub returns-then-next-limit : goal.returns-then-next-limit
returns-then-next-limit c =
    limit_stays c.args.kind.now c.args.limit (pointed c.args.self) (kinds_of c.args.self.others) (c.in-Some.next.at, c.in-Some.next.kind.now) (pointed_next c.args.self c.in-Some.next c.in-Some.is)
    (λ below same. absurd (omega arith))

pub returns-then-eq : goal.returns-then-eq
returns-then-eq c =
    limit_here c.args.kind.now c.args.limit (pointed c.args.self) (kinds_of c.args.self.others) (c.in-Some.next.at, c.in-Some.next.kind.now) (pointed_next c.args.self c.in-Some.next c.in-Some.is)
    c.if-next-limit.false

pub returns-else-eq : goal.returns-else-eq
returns-else-eq c =
    limit_stays c.args.kind.now c.args.limit (pointed c.args.self) (kinds_of c.args.self.others) (c.in-Some.next.at, c.in-Some.next.kind.now) (pointed_next c.args.self c.in-Some.next c.in-Some.is)
    (λ below same. both_ways c.eq.result c.if-eq.false (c.eq.ensures ∙ (bytes_eq-Decides c.in-Some.next.kind.now c.args.kind.now).1 same))
