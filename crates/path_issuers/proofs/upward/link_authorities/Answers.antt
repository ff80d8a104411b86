use Rattle.std.proofs.Common.{◌∙◌, [], ◌∷◌, ℕ, List, arith, ap, subst, sym}
use Rattle.std.specs.Global.{Vec}
use Rattle.std.proofs.lemmas.List.{length-map, map-append}
use Rattle.path_issuers.specs.View.{seen_search}
use Rattle.path_issuers.specs.Asking.{ArePicked}
use Rattle.path_issuers.specs.Links.{seen_links}
use Rattle.path_issuers.specs.Lists.{list_at, lists_of}
use Rattle.path_issuers.specs.Upward.{IsAuthorityAt}
use Rattle.path_issuers.proofs.Listing.{list_there}
use Rattle.path_issuers.proofs.Signing.{are_authority_links, picked_lists, picked_lists_more}
use Rattle.path_issuers.proofs.upward.link_authorities.Goals as goal

pub loop-places-preserved : goal.loop-places-preserved
loop-places-preserved c =
    let P = IsAuthorityAt (seen_search c.args.search.now) in
    let signers = c.args.signers.now in
    let index = c.loop-places.places-index in
    let issuers = c.loop-places.issuers.items in
    let list = c.in_ok-pick_authorities.field-0 in
    let items : Vec ℕ → List ℕ = λ v. v.items in
    let is = c.deref.ensures.value ∙ sym (list_there signers index c.places-item.result c.loop-places-test.true c.places-item.is) in
    let pushed = ap lists_of c.in_ok-push.ensures.items ∙ map-append items issuers (list ∷ []) in
    let count = c.loop-places.invariant.0 in (
      omega (arith, count, c.in_ok-push.ensures.len),
      λ below h.
          subst (λ (lists : List (List ℕ)). ArePicked P (list_at (lists_of signers) below) (list_at lists below)) (sym pushed)
          (picked_lists_more P index (lists_of signers) (lists_of issuers) list.items
          (omega (arith, length-map issuers items, count, c.loop-places.issuers.ok.0))
          (subst (λ (xs : List ℕ). ArePicked P xs list.items) is c.in_ok-pick_authorities.ensures) c.loop-places.invariant.1 below h),
    )

pub returns : goal.returns
returns c = λ accepts are.
    let s = seen_search c.args.search.now in
    let signers = c.args.signers.now in
    let issuers = c.loop-places.issuers.items in
    let items : Vec ℕ → List ℕ = λ v. v.items in
    let count = c.loop-places.invariant.0 in
    are_authority_links accepts s (lists_of signers) (seen_links (record { issuers = c.loop-places.issuers; anchors = c.new.result }))
    (picked_lists (IsAuthorityAt s) (lists_of signers) (lists_of issuers)
    (omega (arith, length-map issuers items, length-map signers items, count, c.loop-places.issuers.ok.0, c.loop-places-test.false, c.loop-places.auto))
    (λ below h. c.loop-places.invariant.1 below (omega (arith, h, length-map signers items, c.loop-places-test.false)))) are
