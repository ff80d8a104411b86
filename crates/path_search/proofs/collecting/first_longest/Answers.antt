use Rattle.std.proofs.Common.{ℕ, arith, subst}
use Rattle.std.specs.Global.{Vec}
use Rattle.std.proofs.lemmas.List.{length-map}
use Rattle.path_search.specs.Collecting.{IsFirstLongestBefore}
use Rattle.path_issuers.specs.Lists.{lists_of}
use Rattle.path_search.proofs.Collected.{longest_more, longest_none}
use Rattle.path_search.proofs.collecting.first_longest.Goals as goal

pub loop-place-init : goal.loop-place-init
loop-place-init c = longest_none (lists_of c.args.lists.now)

pub loop-place-preserved : goal.loop-place-preserved
loop-place-preserved c =
    longest_more (lists_of c.args.lists.now) c.loop-place.place c.loop-place.longest c.longer-longest.result c.loop-place.invariant c.longer-longest.ensures

pub returns : goal.returns
returns c =
    subst (λ (n : ℕ). IsFirstLongestBefore n (lists_of c.args.lists.now) c.loop-place.longest)
    (omega (arith, length-map c.args.lists.now (λ (list : Vec ℕ). list.items))) c.loop-place.invariant
