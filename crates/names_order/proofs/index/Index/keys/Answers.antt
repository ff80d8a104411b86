use Rattle.std.proofs.Common.{◌<◌, arith, length}
use Rattle.std.proofs.lemmas.Result.{IfOk-weaker}
use Rattle.names_order.proofs.Directories.{keys_decide, copies_decide, rest_decides, decide_same}
use Rattle.names_order.proofs.index.Index.keys.Goals as goal

pub returns-then-len-le-SHORT : goal.returns-then-len-le-SHORT
returns-then-len-le-SHORT c =
    IfOk-weaker c.keys_of.result _ _
    (λ keys are. decide_same keys.items _ _ c.self.view_is (keys_decide c.self.inside.all.items keys.items (rw c.deref.ensures.value at are)))
    c.keys_of.ensures

pub returns-then-len-le-SHORT-2 : goal.returns-then-len-le-SHORT-2
returns-then-len-le-SHORT-2 c =
    let many : 12 < length c.self.inside.all.items = omega arith in
    IfOk-weaker c.keys_of-then-len-le-SHORT-2.result _ _
    (λ keys are.
    decide_same keys.items _ _ c.self.view_is
    (rest_decides c.self.inside.all.items c.self.inside.rest.items keys.items (c.self.invariant many).in_rest
    (keys_decide c.self.inside.rest.items keys.items (rw c.deref-then-len-le-SHORT-2.ensures.value at are))))
    c.keys_of-then-len-le-SHORT-2.ensures

pub returns-else-len-le-SHORT-2 : goal.returns-else-len-le-SHORT-2
returns-else-len-le-SHORT-2 c =
    let many : 12 < length c.self.inside.all.items = omega arith in
    let kept = (c.self.invariant many).in_keys (omega arith) in
    IfOk-weaker c.copies_of.result _ _
    (λ copies same.
    decide_same copies.items _ _ c.self.view_is
    (rest_decides c.self.inside.all.items c.self.inside.rest.items copies.items (c.self.invariant many).in_rest
    (copies_decide c.self.inside.rest.items c.self.inside.keys.items copies.items kept (rw c.deref-else-len-le-SHORT-2.ensures.value at same))))
    c.copies_of.ensures
