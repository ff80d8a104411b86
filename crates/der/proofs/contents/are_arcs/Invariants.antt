use Rattle.std.proofs.Common.{◌≡◌, ℕ, ◌-◌, ◌<◌, ◌≤◌, get_or}
use Rattle.der.proofs.contents.are_arcs.Given as goal

abbrev pub invariant-loop-octet : goal.invariant-loop-octet
invariant-loop-octet l = record {
  arcs : (k : ℕ) → k < l.octet-index → get_or l.contents k 0 ≡ 128 → (0 < k) × (128 ≤ get_or l.contents (k - 1) 0);
  front : l.octet-index ≡ 0 → l.before ≡ 0;
  last : 0 < l.octet-index → l.before ≡ get_or l.contents (l.octet-index - 1) 0;
}
