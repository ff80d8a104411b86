use Rattle.std.proofs.Common.{◌≡◌, ℕ, List, map, get_or, arith, ap, subst, sym, ◌∙◌}
use Rattle.std.proofs.lemmas.List.{get_or-map, length-map}
use Rattle.cert.specs.Certificate.{Certificate, seen_certificate}
use Rattle.path.specs.Conditions.{IsNamedByIssuer}
use Rattle.path_search.specs.WhyNot.{IsNamedAmong}
use Rattle.path_search.proofs.Explaining.{IsListed, are_the_places, listed_more, listed_none}
use Rattle.path_search.proofs.obstacles.places_named.Goals as goal

pub loop-place-init : goal.loop-place-init
loop-place-init c =
    let P = IsNamedAmong (map seen_certificate c.args.certificates.now) (seen_certificate c.args.issued.now) in
    subst (λ (xs : List ℕ). IsListed P 0 xs) (sym c.new-named.ensures.items) (listed_none P)

pub loop-place-preserved : goal.loop-place-preserved
loop-place-preserved c =
    let certificates = c.args.certificates.now in
    let seen = map seen_certificate certificates in
    let issued = seen_certificate c.args.issued.now in
    let place = c.loop-place.place in
    let there = c.loop-place-test.true in
    let item = c.index-certificates-place.result in
    let at : seen_certificate item ≡ get_or seen place issued =
    ap seen_certificate c.index-certificates-place.is ∙ sym (get_or-map seen_certificate certificates place item issued there) in
    listed_more (IsNamedAmong seen issued) place c.loop-place.named.items c.add_if.new.picked.items c.matches.result (
      λ t. record {
        there = omega (arith, there, length-map certificates seen_certificate);
        named = subst (λ (x : Certificate). IsNamedByIssuer issued x.subject) at (c.matches.ensures.decides.0 t);
      },
      λ is. c.matches.ensures.decides.1 (subst (λ (x : Certificate). IsNamedByIssuer issued x.subject) (sym at) is.named),
    )
    c.in_ok-add_if.ensures c.loop-place.invariant

pub returns : goal.returns
returns c =
    let certificates = c.args.certificates.now in
    are_the_places (IsNamedAmong (map seen_certificate certificates) (seen_certificate c.args.issued.now)) c.loop-place.place c.loop-place.named.items
    (λ place is. omega (arith, is.there, length-map certificates seen_certificate, c.loop-place-test.false)) c.loop-place.invariant
