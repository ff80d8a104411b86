use Rattle.std.proofs.Common.{◌<◌, ◌∙◌, List, ℕ, subst, sym, arith, vec_len}
use Rattle.std.specs.Global.{Vec}
use Rattle.std.specs.List.{All}
use Rattle.std.specs.List.Sorted.{IsStrictlyIncreasing}
use Rattle.std.proofs.lemmas.List.{length-map}
use Rattle.path_issuers.specs.Lists.{AreTurnedBefore, Adds, lists_of, list_at}
use Rattle.path_issuers.proofs.Listing.{turned_more, list_there}
use Rattle.path_issuers.proofs.lists.turned.Goals as goal

pub add_to_each-requires-clause-within : goal.add_to_each-requires-clause-within
add_to_each-requires-clause-within c =
    let is =
    c.deref.ensures.value ∙ sym (list_there c.args.lists.now c.loop-place.place c.index-lists-place.result c.loop-place-test.true c.index-lists-place.is) in
    subst (λ (xs : List ℕ). All (λ at. at < vec_len c.loop-place.turned) xs) (sym is)
    (subst (λ (n : ℕ). All (λ at. at < n) (list_at (lists_of c.args.lists.now) c.loop-place.place)) (sym c.loop-place.invariant.0)
    (c.requires.within c.loop-place.place))

pub add_to_each-requires-clause-ascending : goal.add_to_each-requires-clause-ascending
add_to_each-requires-clause-ascending c =
    let is =
    c.deref.ensures.value ∙ sym (list_there c.args.lists.now c.loop-place.place c.index-lists-place.result c.loop-place-test.true c.index-lists-place.is) in
    subst (λ (xs : List ℕ). IsStrictlyIncreasing xs) (sym is) (c.requires.ascending c.loop-place.place)

pub loop-place-preserved : goal.loop-place-preserved
loop-place-preserved c =
    let place = c.loop-place.place in
    let lists = lists_of c.args.lists.now in
    let turned = lists_of c.loop-place.turned.items in
    let next = lists_of c.add_to_each.new.lists.items in
    let is = c.deref.ensures.value ∙ sym (list_there c.args.lists.now place c.index-lists-place.result c.loop-place-test.true c.index-lists-place.is) in (
      c.in_ok-add_to_each.ensures.count ∙ c.loop-place.invariant.0,
      turned_more place lists turned next c.loop-place.invariant.1
          (subst (λ (ats : List ℕ). Adds place ats turned next) is c.in_ok-add_to_each.ensures.adds),
    )

pub returns : goal.returns
returns c =
    subst (λ (bound : ℕ). AreTurnedBefore bound (lists_of c.args.lists.now) (lists_of c.loop-place.turned.items))
    (omega (arith, length-map c.args.lists.now (λ (list : Vec ℕ). list.items))) c.loop-place.invariant.1
