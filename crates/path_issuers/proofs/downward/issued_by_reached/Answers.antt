use Rattle.std.proofs.Common.{◌∙◌, ◌+◌, ℕ, List, Option, IfSome, ap, sym, subst, length}
use Rattle.std.specs.Global.{Vec}
use Rattle.path_issuers.specs.View.{seen_search}
use Rattle.path_issuers.specs.Asking.{AreIssuedBy, IsDescending, IsWithin, SeesEach}
use Rattle.path_issuers.specs.Frontier.{left_of}
use Rattle.path_issuers.specs.Lists.{lists_of}
use Rattle.path_issuers.proofs.Descending.{descending_next, descending_done, place_paid}
use Rattle.path_issuers.proofs.downward.issued_by_reached.Goals as goal

pub loop-place-preserved : goal.loop-place-preserved
loop-place-preserved g c =
    let accepts = g.V.Verifier.accepts c.args.verifier.now in
    let search = c.args.search.now in
    let s = seen_search search in
    let naming = c.args.naming.now in
    let start = c.args.reached in
    let place = c.in-Some.place in
    let list = c.in-Some-2.list in
    let old = c.loop-place.frontier in
    let mid = c.next.new.self in
    let new = c.see_each.new.frontier in
    let takes = c.in-Some.ensures in
    let grows = c.in_ok-see_each.ensures.grows in
    let issued = lists_of c.loop-place.issued.items in
    let by_it =
    subst (λ (found : Option (Vec ℕ)). IfSome found
    (λ issued. AreIssuedBy accepts s naming place issued.items)) c.in-Some-2.is c.in_ok-list.ensures.issued in
    let spent =
    subst (λ (found : Option (Vec ℕ)). IsWithin (length search.bag.now + 1) c.loop-place.left c.issued_by.new.left found) c.in-Some-2.is c.in_ok-list.ensures.spent in
    let sees = subst (λ (places : List ℕ). SeesEach places mid new) c.deref.ensures.value c.in_ok-see_each.ensures.seen in (
      subst (λ (lists : List (List ℕ)). IsDescending accepts s naming start new lists) (sym c.put.ensures)
          (descending_next accepts s naming start old mid new place issued list.items c.loop-place.invariant.0 takes by_it grows sees),
      place_paid (length search.bag.now) (left_of old) (left_of new) c.args.left.now c.loop-place.left c.issued_by.new.left
          (ap (λ (n : ℕ). n + 1) grows.left ∙ takes.left) c.loop-place.invariant.1 spent,
    )

pub returns-clause-issued : goal.returns-clause-issued
returns-clause-issued g c =
    descending_done (g.V.Verifier.accepts c.args.verifier.now)
    (seen_search c.args.search.now) c.args.naming.now c.args.reached c.loop-place.frontier c.next.new.self
    (lists_of c.loop-place.issued.items) c.in_default.ensures c.loop-place.invariant.0
