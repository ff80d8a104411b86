use Rattle.std.proofs.Common.{◌≡◌, ℕ, List, Option, IfSome, length, ap, subst, ◌∙◌, sym}
use Rattle.std.specs.Global.{Vec}
use Rattle.std.proofs.lemmas.List.{length-map}
use Rattle.cert.specs.Certificate.{seen_certificate}
use Rattle.path_issuers.specs.View.{seen_search}
use Rattle.path_search.specs.Collecting.{IsFurthest}
use Rattle.path_issuers.specs.Links.{certificate_at}
use Rattle.path_search.specs.Walk.{top_of}
use Rattle.path_search.specs.WhyNot.{AreObstacles, AreThePlaces, IsAnchorInTheWay}
use Rattle.path_search.proofs.diagnosis.stuck_at.Goals as goal

pub returns-clause-stuck : goal.returns-clause-stuck
returns-clause-stuck g c =
    let accepts = g.V.Verifier.accepts c.args.verifier.now in
    let search = c.args.ground.now.search.now in
    let s = seen_search search in
    let above = c.args.above.items in
    let here = c.deref.result.now in
    let top : c.top-top.result ≡ top_of (length s.bag) above =
    c.top-top.ensures
    ∙ (ap (λ n. top_of n here) (sym (length-map search.bag.now seen_certificate)) ∙ ap (λ (l : List ℕ). top_of (length s.bag) l) c.deref.ensures.value) in
    record {
      furthest = c.requires.furthest;
      anchors =
          subst (λ (n : ℕ). AreThePlaces (IsAnchorInTheWay accepts s (certificate_at s n)) c.in-Some.anchors.items) top
          (subst (λ (found : Option (Vec ℕ)). IfSome found (λ anchors.
          AreThePlaces (IsAnchorInTheWay accepts s (certificate_at s c.top-top.result)) anchors.items)) c.in-Some.is c.in_ok-anchors.ensures.anchors);
      bag =
          subst (λ (l : List ℕ). AreObstacles accepts s l c.in_ok-bag.bag.items) c.deref-2.ensures.value
          (c.in_ok-bag.ensures accepts c.requires.signers (subst (λ (l : List ℕ). IsFurthest accepts s l) (sym c.deref-2.ensures.value) c.requires.furthest));
    }
