use Rattle.std.proofs.Common.{inl, inr, ◌∙◌, ◌+◌, [], ℕ, List, arith, sym, subst, length, refl}
use Rattle.std.specs.List.{Contains}
use Rattle.std.proofs.lemmas.Bool.{cases_lt}
use Rattle.std.proofs.lemmas.List.{length-map}
use Rattle.std.proofs.Math.ListN.{get_or-eq_default}
use Rattle.std.specs.Global.{Vec}
use Rattle.path_issuers.specs.Asking.{IsStarting}
use Rattle.path_issuers.specs.Lists.{lists_of}
use Rattle.path_issuers.specs.declared.frontier.Frontier.{Frontier}
use Rattle.path_issuers.proofs.Descending.{starting_none, starting_more, starting_same}
use Rattle.path_issuers.proofs.Listing.{empty_if, list_there}
use Rattle.path_issuers.proofs.downward.see_anchored.Goals.{then-not-is_empty+in_ok-see, else-not-is_empty}
use Rattle.path_issuers.proofs.downward.see_anchored.Goals as goal

pub loop-place-init : goal.loop-place-init
loop-place-init c =
    let start = c.in_ok-frontier.ensures in
    starting_none c.args.count 0 (lists_of c.args.anchors.now) c.in_ok-frontier.frontier start.count start.left start.none refl

pub loop-place-preserved : goal.loop-place-preserved
loop-place-preserved c =
    let count = c.args.count in
    let place = c.loop-place.place in
    let anchors = lists_of c.args.anchors.now in
    elim c.if-not-is_empty.branch [
      | then-not-is_empty+in_ok-see w ↦
          subst (λ (frontier : Frontier). IsStarting count (place + 1) anchors frontier) (sym w.frontier-is)
          (starting_more count place anchors c.loop-place.frontier w.see.new.self c.loop-place.invariant w.in_ok-see.ensures.grows w.in_ok-see.ensures.seen)
      | else-not-is_empty w ↦
          subst (λ (frontier : Frontier). IsStarting count (place + 1) anchors frontier) (sym w.frontier-is)
          (starting_same count place anchors c.loop-place.frontier c.loop-place.invariant
          (list_there c.args.anchors.now place c.index-anchors-place.result c.loop-place-test.true c.index-anchors-place.is
          ∙ empty_if c.index-anchors-place.result (sym c.is_empty.ensures ∙ w.if-not-is_empty.false)))
    ]

pub returns-clause-seen : goal.returns-clause-seen
returns-clause-seen c = λ place anchor there among.
    elim (cases_lt place (length c.args.anchors.now)) [
      | inl within ↦ c.loop-place.invariant.seen place anchor (omega (arith, within, c.loop-place-test.false)) there among
      | inr behind ↦
          let size = length-map c.args.anchors.now (λ (list : Vec ℕ). list.items) in
          let none = subst (λ (xs : List ℕ). Contains xs anchor) (get_or-eq_default (lists_of c.args.anchors.now) [] (omega (arith, behind, size))) among in
          absurd (omega (arith, none.1))
    ]
