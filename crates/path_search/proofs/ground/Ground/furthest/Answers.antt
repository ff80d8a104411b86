use Rattle.std.proofs.Common.{ℕ, List, Option, ap, refl, subst, ◌∙◌}
use Rattle.std.specs.Global.{Vec}
use Rattle.path_issuers.specs.View.{seen_search}
use Rattle.path_search.specs.Collecting.{AreTailsWithin, IsFirstLongest}
use Rattle.path_issuers.specs.Lists.{list_at, lists_of}
use Rattle.path_search.proofs.Collected.{furthest_of}
use Rattle.path_search.proofs.ground.Ground.furthest.Goals as goal

pub returns-in_default : goal.returns-in_default
returns-in_default c = λ accepts are right.
    subst (λ (found : Option (Vec (Vec ℕ))). AreTailsWithin accepts (seen_search c.args.self.now.search.now) c.args.steps found) c.in_default.is
    (c.in_ok-tails.ensures accepts are)

pub returns : goal.returns
returns c = λ accepts are right.
    let s = seen_search c.args.self.now.search.now in
    let tails = c.in-Some.tails in
    let at = c.first_longest.result in
    furthest_of accepts s tails tails.items at c.in_ok-from_slice.field-0.items refl
    (subst (λ (found : Option (Vec (Vec ℕ))). AreTailsWithin accepts s c.args.steps found) c.in-Some.is (c.in_ok-tails.ensures accepts are))
    (subst (λ (lists : List (Vec ℕ)). IsFirstLongest (lists_of lists) at) c.deref-2.ensures.value c.first_longest.ensures)
    (c.in_ok-from_slice.ensures.items ∙ (c.list_at-longest.ensures ∙ ap (λ (lists : List (Vec ℕ)). list_at (lists_of lists) at) c.deref.ensures.value)) right
