use Rattle.std.proofs.Common.{map, Bor, List, ℕ}
use Rattle.std.specs.List.{flat_map}
use Rattle.std.specs.Io.KnownBytes.{Appends}
use Rattle.cli_failures.specs.Topics.{line_if_about}
use Rattle.cli_failures.proofs.topics.explain_to.Given as goal

abbrev pub invariant-loop-entry : goal.invariant-loop-entry
invariant-loop-entry g l =
    (goal.iterator-loop-entry g).can_next l.entry-iterator
    × (goal.iterator-loop-entry g).is_finite l.entry-iterator
    × Appends (g.W.Write.contents l.fn.writer) (g.W.Write.contents l.writer) (flat_map (line_if_about (map (λ (w : Bor (List ℕ)). w.now) l.words)) (map (λ (e : Bor (List ℕ)). e.now) l.yielded))
