use Rattle.std.proofs.Common.{◌<◌, ◌+◌, ℕ, List, Option, IfSome, sym, subst, length}
use Rattle.std.specs.Global.{Vec}
use Rattle.std.specs.List.{All}
use Rattle.std.proofs.lemmas.List.{length-map}
use Rattle.cert.specs.Certificate.{seen_certificate}
use Rattle.path_issuers.specs.View.{seen_search}
use Rattle.path_issuers.specs.Asking.{AreAnchors, AreReached, SeesAnchored}
use Rattle.path_issuers.specs.Links.{seen_links}
use Rattle.path_issuers.specs.Lists.{AreTurned, list_at, lists_of}
use Rattle.path_issuers.proofs.Whole.{are_links, issued_within}
use Rattle.path_issuers.proofs.linking.link_reached.Goals as goal

pub turned-requires-clause-within : goal.turned-requires-clause-within
turned-requires-clause-within g c = λ place.
    let accepts = g.V.Verifier.accepts c.args.verifier.now in
    let search = c.args.search.now in
    let s = seen_search search in
    let naming = c.args.naming.now in
    let start = c.in_ok-reached.reached in
    let reached =
    subst (λ (found : Option (Vec (Vec ℕ))). IfSome found
    (λ issued. AreReached accepts s naming start (lists_of issued.items))) c.in-Some.is c.in_ok-issued.ensures.issued in
    subst (λ (lists : List (Vec ℕ)). All (λ below. below < length search.bag.now + 1) (list_at (lists_of lists) place)) (sym c.deref-2.ensures.value)
    (subst (λ (n : ℕ). All (λ below. below < n + 1) (list_at (lists_of c.in-Some.issued.items) place)) (length-map search.bag.now seen_certificate)
    (issued_within accepts s naming start (lists_of c.in-Some.issued.items) reached place))

pub returns-clause-links : goal.returns-clause-links
returns-clause-links g c =
    let accepts = g.V.Verifier.accepts c.args.verifier.now in
    let search = c.args.search.now in
    let s = seen_search search in
    let naming = c.args.naming.now in
    let start = c.in_ok-reached.reached in
    let issued = lists_of c.in-Some.issued.items in
    let anchors = lists_of c.args.anchors.items in
    let bag = sym (length-map search.bag.now seen_certificate) in
    let reached =
    subst (λ (found : Option (Vec (Vec ℕ))). IfSome found
    (λ issued. AreReached accepts s naming start (lists_of issued.items))) c.in-Some.is c.in_ok-issued.ensures.issued in
    let sees =
    subst (λ (lists : List (Vec ℕ)). SeesAnchored (length s.bag) (lists_of lists) start) c.deref.ensures.value
    (subst (λ (n : ℕ). SeesAnchored n (lists_of c.deref.result.now) start) bag c.in_ok-reached.ensures.seen) in
    let turned =
    subst (λ (lists : List (Vec ℕ)). AreTurned (lists_of lists) (lists_of c.in_ok-turned.field-0.items)) c.deref-2.ensures.value c.in_ok-turned.ensures in
    are_links accepts s naming start issued reached c.requires.naming (seen_links (record { issuers = c.in_ok-turned.field-0; anchors = c.args.anchors }))
    (subst (λ (n : ℕ). AreAnchors accepts s naming (n + 1) anchors) bag c.requires.anchors) sees turned
