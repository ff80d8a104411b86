use Rattle.std.proofs.Common.{sym, ap, ◌∙◌, subst}
use Rattle.std.proofs.lemmas.Bool.{both_ways}
use Rattle.std.proofs.lemmas.Slice.Eq.{bytes_eq-Decides}
use Rattle.names_distinguished.specs.DistinguishedName.{value_at}
use Rattle.names_distinguished.specs.NameView.{entry_of}
use Rattle.names_distinguished.specs.Agreement.{entries_in, rising, StopsAt}
use Rattle.names_distinguished.proofs.Matching.{value_none}
use Rattle.names_distinguished.proofs.Agreement.{found_first, found_nowhere}
use Rattle.names_distinguished.proofs.RunParts.{run_left_next, run_left_none}
use Rattle.names_distinguished.proofs.run.Run.of_kind.Goals as goal

pub returns-in_default : goal.returns-in_default
returns-in_default c = sym (ap (value_at c.args.kind.now) (run_left_none c.args.self.now c.in_default.is) ∙ value_none c.args.kind.now)

pub returns-then-eq : goal.returns-then-eq
returns-then-eq c =
    let e = run_left_next c.args.self.now c.in-Some.next c.in-Some.is in
    found_first c.args.kind.now (entry_of c.in-Some.next) (rising c.in-Some.next.kind.now (entries_in c.args.self.now.others))
    ((bytes_eq-Decides c.in-Some.next.kind.now c.args.kind.now).0 (sym c.eq.ensures ∙ c.if-eq.true)) ∙ ap (value_at c.args.kind.now) (sym e)

pub returns-else-eq : goal.returns-else-eq
returns-else-eq c =
    let e = run_left_next c.args.self.now c.in-Some.next c.in-Some.is in
    found_nowhere c.args.kind.now (entry_of c.in-Some.next) (entries_in c.args.self.now.others) (subst (StopsAt c.args.kind.now) e c.requires)
    (λ same. both_ways c.eq.result c.if-eq.false (c.eq.ensures ∙ (bytes_eq-Decides c.in-Some.next.kind.now c.args.kind.now).1 same))
    ∙ ap (value_at c.args.kind.now) (sym e)
