use Rattle.std.proofs.Common.{◌+◌, ◌∙◌, [], ◌∷◌, ℕ, List, Option, IfSome, arith, ap, subst, sym, length}
use Rattle.std.specs.Global.{Vec}
use Rattle.std.proofs.lemmas.List.{length-map, map-append}
use Rattle.cert.specs.Certificate.{seen_certificate}
use Rattle.path_issuers.specs.View.{seen_search}
use Rattle.path_issuers.specs.Asking.{ArePicked, IsSought, IsWithin}
use Rattle.path_issuers.specs.Lists.{lists_of}
use Rattle.path_issuers.specs.Upward.{AreIssued}
use Rattle.path_issuers.specs.declared.asking.Sought.TheVariants.{IssuedBy}
use Rattle.path_issuers.proofs.Descending.{named_few}
use Rattle.path_issuers.proofs.Signing.{issued_more, issuer_paid, issuer_unpaid}
use Rattle.path_issuers.proofs.upward.issued_by_each.Goals as goal

pub returns-in_default-clause-spent : goal.returns-in_default-clause-spent
returns-in_default-clause-spent g c =
    let search = c.args.search.now in
    let place = c.loop-place.place in
    let places = c.named_by-places.result.now in
    let few = named_few (g.V.Verifier.accepts c.args.verifier.now) (seen_search search) c.args.naming.now c.requires place in
    let size = length-map search.bag.now seen_certificate in
    let spent =
    subst (λ (found : Option (Vec ℕ)). IsWithin (length places) c.loop-place.left c.pick.new.left found) c.in_default.is c.in_ok-issued.ensures.spent in
    issuer_unpaid (length search.bag.now) (length places) place c.args.left.now c.loop-place.left
    (omega (arith, few, ap length c.named_by-places.ensures, size)) (omega arith) c.loop-place.invariant.1 spent

pub loop-place-preserved : goal.loop-place-preserved
loop-place-preserved g c =
    let accepts = g.V.Verifier.accepts c.args.verifier.now in
    let search = c.args.search.now in
    let s = seen_search search in
    let naming = c.args.naming.now in
    let place = c.loop-place.place in
    let found = c.in-Some.issued in
    let places = c.named_by-places.result.now in
    let few = named_few accepts s naming c.requires place in
    let size = length-map search.bag.now seen_certificate in
    let spent =
    subst (λ (found : Option (Vec ℕ)). IsWithin (length places) c.loop-place.left c.pick.new.left found) c.in-Some.is c.in_ok-issued.ensures.spent in
    let P = IsSought accepts s (IssuedBy place) in
    let picked_here = subst (λ (found : Option (Vec ℕ)). IfSome found (λ picked. ArePicked P places picked.items)) c.in-Some.is c.in_ok-issued.ensures.picked in
    let picked = subst (λ (xs : List ℕ). ArePicked P xs found.items) c.named_by-places.ensures picked_here in
    let lists = c.loop-place.all.items in
    let pushed = ap lists_of c.in_ok-push.ensures.items ∙ map-append (λ (list : Vec ℕ). list.items) lists (found ∷ []) in (
      subst (λ (issued : List (List ℕ)). AreIssued accepts s naming (place + 1) issued) (sym pushed)
          (issued_more accepts s naming c.requires place (omega (arith, size)) (lists_of lists) found.items c.loop-place.invariant.0 picked),
      issuer_paid (length search.bag.now) (length places) place c.args.left.now c.loop-place.left c.pick.new.left
          (omega (arith, few, ap length c.named_by-places.ensures, size)) c.loop-place.invariant.1 spent,
    )
