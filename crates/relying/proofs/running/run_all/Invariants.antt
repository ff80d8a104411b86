use Rattle.std.proofs.Common.{◌≡◌, ◌≤◌, length, map, take, vec_len, vec_capacity}
use Rattle.sqlite.specs.Files.{file_state}
use Rattle.sqlite.specs.State.{HasCleanDisk}
use Rattle.relying.specs.Leaving.{LeavesSoFar}
use Rattle.relying.specs.Run.{AreAnswersTo, RanSoFar, seen_event}
use Rattle.relying.proofs.running.run_all.Given as goal

abbrev pub invariant-loop-index : goal.invariant-loop-index
invariant-loop-index g l =
    let first = file_state l.fn.node.store.conn in
    let now = file_state l.node.store.conn in
    (l.node.verifier ≡ l.fn.node.verifier) × (l.node.store.profile ≡ l.fn.node.store.profile) × (vec_len l.answers ≤ l.index) × (length l.events ≤ vec_capacity l.answers)
    × (HasCleanDisk now → HasCleanDisk first)
    × (HasCleanDisk now → RanSoFar l.fn.node.store.profile (g.V.Verifier.accepts l.fn.node.verifier) (map seen_event (take l.index l.events)) l.answers.items first now)
    × (HasCleanDisk now → LeavesSoFar l.fn.node.store.profile (g.V.Verifier.accepts l.fn.node.verifier) (map seen_event (take l.index l.events)) l.answers.items first now)
    × AreAnswersTo l.fn.node.store.profile (g.V.Verifier.accepts l.fn.node.verifier) (map seen_event (take l.index l.events)) l.answers.items
