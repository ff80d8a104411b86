use Rattle.std.proofs.Common.{◌∙◌, ◌+◌, ◌∷◌, [], ℕ, List, Option, IfSome, arith, ap, sym, subst, length}
use Rattle.std.specs.Global.{Vec}
use Rattle.std.proofs.lemmas.List.{length-map, map-append}
use Rattle.cert.specs.Certificate.{seen_certificate}
use Rattle.path_issuers.specs.View.{seen_search}
use Rattle.path_issuers.specs.Asking.{AreAnchors, ArePicked, IsSought, IsWithin}
use Rattle.path_issuers.specs.Lists.{lists_of}
use Rattle.path_issuers.specs.declared.asking.Sought.TheVariants.{AnchorsOf}
use Rattle.path_issuers.proofs.Descending.{anchors_few, anchors_more, row_paid, row_unpaid}
use Rattle.path_issuers.proofs.downward.anchors_of_all.Goals as goal

pub returns-in_default-clause-spent : goal.returns-in_default-clause-spent
returns-in_default-clause-spent g c =
    let search = c.args.search.now in
    let below = c.loop-below.below in
    let places = c.anchors_naming-places.result.now in
    let few = anchors_few (g.V.Verifier.accepts c.args.verifier.now) (seen_search search) c.args.naming.now c.requires below in
    let same = ap length c.anchors_naming-places.ensures in
    let size = length-map search.anchors.now seen_certificate in
    let spent =
    subst (λ (found : Option (Vec ℕ)). IsWithin (length places) c.loop-below.left c.pick.new.left found) c.in_default.is c.in_ok-found.ensures.spent in
    row_unpaid (length search.anchors.now) (length places) below (length search.bag.now) c.args.left.now c.loop-below.left
    (omega (arith, few, same, size)) (omega arith) c.loop-below.invariant.1 spent

pub loop-below-preserved : goal.loop-below-preserved
loop-below-preserved g c =
    let accepts = g.V.Verifier.accepts c.args.verifier.now in
    let search = c.args.search.now in
    let s = seen_search search in
    let naming = c.args.naming.now in
    let below = c.loop-below.below in
    let found = c.in-Some.found in
    let places = c.anchors_naming-places.result.now in
    let few = anchors_few accepts s naming c.requires below in
    let same = ap length c.anchors_naming-places.ensures in
    let size = length-map search.anchors.now seen_certificate in
    let bag = length-map search.bag.now seen_certificate in
    let spent =
    subst (λ (found : Option (Vec ℕ)). IsWithin (length places) c.loop-below.left c.pick.new.left found) c.in-Some.is c.in_ok-found.ensures.spent in
    let P = IsSought accepts s (AnchorsOf below) in
    let picked_here = subst (λ (found : Option (Vec ℕ)). IfSome found (λ picked. ArePicked P places picked.items)) c.in-Some.is c.in_ok-found.ensures.picked in
    let picked = subst (λ (xs : List ℕ). ArePicked P xs found.items) c.anchors_naming-places.ensures picked_here in
    let lists = c.loop-below.anchors.items in
    let items = λ (list : Vec ℕ). list.items in
    let pushed = ap lists_of c.in_ok-push.ensures.items ∙ map-append items lists (found ∷ []) in (
      subst (λ (anchors : List (List ℕ)). AreAnchors accepts s naming (below + 1) anchors) (sym pushed)
          (anchors_more accepts s naming c.requires below (omega (arith, bag)) (lists_of lists) found.items c.loop-below.invariant.0 picked),
      row_paid (length search.anchors.now) (length places) below c.args.left.now c.loop-below.left c.pick.new.left (omega (arith, few, same, size))
          c.loop-below.invariant.1 spent,
    )
