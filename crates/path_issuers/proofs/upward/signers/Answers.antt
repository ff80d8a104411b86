use Rattle.std.proofs.Common.{◌+◌, ◌<◌, ℕ, List, Option, IfSome, subst, sym, length}
use Rattle.std.specs.Global.{Vec}
use Rattle.std.specs.List.{All}
use Rattle.std.proofs.lemmas.List.{length-map}
use Rattle.cert.specs.Certificate.{seen_certificate}
use Rattle.path_issuers.specs.View.{seen_search}
use Rattle.path_issuers.specs.Lists.{AreTurned, list_at, lists_of}
use Rattle.path_issuers.specs.Upward.{AreIssued}
use Rattle.path_issuers.proofs.Signing.{are_signers, issued_within}
use Rattle.path_issuers.proofs.upward.signers.Goals as goal

pub turned-requires-clause-within : goal.turned-requires-clause-within
turned-requires-clause-within g c = λ place.
    let accepts = g.V.Verifier.accepts c.args.verifier.now in
    let search = c.args.search.now in
    let s = seen_search search in
    let naming = c.in_ok-naming.naming in
    let size = length-map search.bag.now seen_certificate in
    let issued =
    subst (λ (n : ℕ). AreIssued accepts s naming n (lists_of c.in-Some.issued.items)) (sym size)
    (subst (λ (found : Option (Vec (Vec ℕ))). IfSome found
    (λ issued. AreIssued accepts s naming (length search.bag.now) (lists_of issued.items))) c.in-Some.is c.in_ok-issued.ensures.issued) in
    subst (λ (lists : List (Vec ℕ)). All (λ below. below < length search.bag.now + 1) (list_at (lists_of lists) place)) (sym c.deref.ensures.value)
    (subst (λ (n : ℕ). All (λ below. below < n + 1) (list_at (lists_of c.in-Some.issued.items) place)) size
    (issued_within accepts s naming c.in_ok-naming.ensures (lists_of c.in-Some.issued.items) issued place))

pub returns-clause-signers : goal.returns-clause-signers
returns-clause-signers g c =
    let accepts = g.V.Verifier.accepts c.args.verifier.now in
    let search = c.args.search.now in
    let s = seen_search search in
    let naming = c.in_ok-naming.naming in
    let size = length-map search.bag.now seen_certificate in
    let issued =
    subst (λ (n : ℕ). AreIssued accepts s naming n (lists_of c.in-Some.issued.items)) (sym size)
    (subst (λ (found : Option (Vec (Vec ℕ))). IfSome found
    (λ issued. AreIssued accepts s naming (length search.bag.now) (lists_of issued.items))) c.in-Some.is c.in_ok-issued.ensures.issued) in
    let turned =
    subst (λ (lists : List (Vec ℕ)). AreTurned (lists_of lists) (lists_of c.in_ok-turned.field-0.items)) c.deref.ensures.value c.in_ok-turned.ensures in
    are_signers accepts s naming c.in_ok-naming.ensures (lists_of c.in-Some.issued.items) issued (lists_of c.in_ok-turned.field-0.items) turned
