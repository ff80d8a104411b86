use Rattle.std.proofs.Common.{◌≡◌, ◌≤◌, ℕ, length, map}
use Rattle.cli_operands.specs.VerdictLines.{IsBad, NamePrints, line_at}
use Rattle.cli_operands.proofs.verdict_lines.fingerprints_of.Given as goal

abbrev pub invariant-loop-line : goal.invariant-loop-line
invariant-loop-line l =
    (goal.iterator-loop-line).can_next l.line-iterator
    × (goal.iterator-loop-line).is_finite l.line-iterator
    × (l.number ≡ length l.yielded)
    × NamePrints (map (λ line. line.now) l.yielded) l.prints.items
    × ((earlier : ℕ) → 1 ≤ earlier → earlier ≤ l.number → IsBad (line_at l.octets earlier) → ⊥)
