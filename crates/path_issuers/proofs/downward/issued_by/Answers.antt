use Rattle.std.proofs.Common.{◌∙◌, ◌+◌, ℕ, List, arith, ap, sym, subst, length}
use Rattle.std.specs.Global.{Vec}
use Rattle.std.proofs.lemmas.List.{length-map}
use Rattle.std.proofs.lemmas.Bool.{false≢true}
use Rattle.std.proofs.Math.ListN.{get_or-map}
use Rattle.cert.specs.Certificate.{Certificate, seen_certificate}
use Rattle.path_issuers.specs.View.{seen_search}
use Rattle.path_issuers.specs.Asking.{AreIssuedBy, ArePicked, IsSought}
use Rattle.path_issuers.specs.Factors.{IsRightAsAuthority}
use Rattle.path_issuers.specs.declared.asking.Sought.TheVariants.{IssuedBy}
use Rattle.path_issuers.proofs.Descending.{if_found, within_more, none_issued, picked_issued, named_few}
use Rattle.path_issuers.proofs.downward.issued_by.Goals as goal

pub returns-then-not-is_authority-clause-issued : goal.returns-then-not-is_authority-clause-issued
returns-then-not-is_authority-clause-issued g c =
    let search = c.args.search.now in
    let place = c.args.place in
    let at = ap seen_certificate (c.in-Some.ensures.lookup.3.1 search.target.now) ∙ sym (get_or-map seen_certificate search.bag.now place search.target.now) in
    none_issued (g.V.Verifier.accepts c.args.verifier.now) (seen_search search) c.args.naming.now c.requires place _ c.new-then-not-is_authority.ensures.items
    (λ below issuer.
    false≢true (sym c.if-not-is_authority.true
    ∙ c.is_authority.ensures.1 (subst (λ (certificate : Certificate). IsRightAsAuthority search.options search.moment certificate) (sym at) issuer.authority)))

pub returns-clause-issued : goal.returns-clause-issued
returns-clause-issued g c =
    let accepts = g.V.Verifier.accepts c.args.verifier.now in
    let search = c.args.search.now in
    let s = seen_search search in
    let naming = c.args.naming.now in
    let place = c.args.place in
    let places = c.named_by-places.result.now in
    let lookup = c.in-Some.ensures.lookup in
    let at = ap seen_certificate (lookup.3.1 search.target.now) ∙ sym (get_or-map seen_certificate search.bag.now place search.target.now) in
    let there = lookup.3.0 in
    let right = subst (λ (certificate : Certificate). IsRightAsAuthority search.options search.moment certificate) at (c.is_authority.ensures.0 c.if-not-is_authority.false) in
    let P = IsSought accepts s (IssuedBy place) in
    if_found (λ (issued : Vec ℕ). ArePicked P places issued.items)
    (λ (issued : Vec ℕ). AreIssuedBy accepts s naming place issued.items)
    (λ issued picked.
    picked_issued accepts s naming c.requires place (omega (arith, there, length-map search.bag.now seen_certificate)) right issued.items
    (subst (λ (xs : List ℕ). ArePicked P xs issued.items) c.named_by-places.ensures picked))
    c.pick.result c.pick.ensures.picked

pub returns-clause-spent : goal.returns-clause-spent
returns-clause-spent g c =
    let search = c.args.search.now in
    let few = named_few (g.V.Verifier.accepts c.args.verifier.now) (seen_search search) c.args.naming.now c.requires c.args.place in
    within_more (length c.named_by-places.result.now) (length search.bag.now + 1) c.args.left.now c.pick.new.left
    (omega (arith, few, ap length c.named_by-places.ensures, length-map search.bag.now seen_certificate)) c.pick.result c.pick.ensures.spent
