use Rattle.std.proofs.Common.{Option, ℕ, List, IfSome, arith, ap, subst, length, map}
use Rattle.std.specs.Global.{Vec}
use Rattle.std.specs.List.{Contains}
use Rattle.std.proofs.lemmas.List.{length-map}
use Rattle.cert.specs.Certificate.{Certificate, seen_certificate}
use Rattle.path_issuers.specs.View.{seen_search}
use Rattle.path_issuers.specs.Asking.{ArePicked, IsSought, IsWithin}
use Rattle.path_issuers.specs.Links.{certificate_at}
use Rattle.path_issuers.specs.declared.asking.Sought.TheVariants.{AnchorsOf}
use Rattle.path_search.specs.WhyNot.{AreThePlaces, IsNamedAmong}
use Rattle.path_search.proofs.Explaining.{anchors_left, named_no_more}
use Rattle.path_search.proofs.obstacles.anchors_in_the_way.Goals as goal

pub returns-clause-anchors : goal.returns-clause-anchors
returns-clause-anchors g c =
    let accepts = g.V.Verifier.accepts c.args.verifier.now in
    let s = seen_search c.args.search.now in
    let top = c.args.top in
    let named = c.in_ok-named.named.items in
    let are = subst (λ (x : Certificate). AreThePlaces (IsNamedAmong s.anchors x) named) c.certificate_at.ensures c.in_ok-named.ensures in
    let P = IsSought accepts s (AnchorsOf top) in
    let picked_here =
    subst (λ (found : Option (Vec ℕ)). IfSome found (λ picked. ArePicked P c.deref.result.now picked.items)) c.in-Some.is c.in_ok-issued.ensures.picked in
    let picked = subst (λ (xs : List ℕ). ArePicked P xs c.in-Some.issued.items) c.deref.ensures.value picked_here in
    let left = c.in_ok-without.field-0.items in
    let others =
    subst (λ (xs : List ℕ). ArePicked (λ place. ¬ Contains xs place) named left) c.deref-3.ensures.value
    (subst (λ (xs : List ℕ). ArePicked (λ place. ¬ Contains c.deref-3.result.now place) xs left) c.deref-2.ensures.value c.in_ok-without.ensures) in
    anchors_left accepts s (certificate_at s top) named c.in-Some.issued.items left are picked others

pub returns-in_default-clause-spent : goal.returns-in_default-clause-spent
returns-in_default-clause-spent g c =
    let anchors = c.args.search.now.anchors.now in
    let few = named_no_more (map seen_certificate anchors) (seen_certificate c.certificate_at.result.now) c.in_ok-named.named.items c.in_ok-named.ensures in
    let spent =
    subst (λ (found : Option (Vec ℕ)). IsWithin (length c.deref.result.now) c.args.left.now c.pick.new.left found) c.in_default.is c.in_ok-issued.ensures.spent in
    omega (arith, few, spent, ap (λ l. length l) c.deref.ensures.value, length-map anchors seen_certificate)

pub returns-clause-spent : goal.returns-clause-spent
returns-clause-spent g c =
    let anchors = c.args.search.now.anchors.now in
    let few = named_no_more (map seen_certificate anchors) (seen_certificate c.certificate_at.result.now) c.in_ok-named.named.items c.in_ok-named.ensures in
    let spent =
    subst (λ (found : Option (Vec ℕ)). IsWithin (length c.deref.result.now) c.args.left.now c.pick.new.left found) c.in-Some.is c.in_ok-issued.ensures.spent in
    omega (arith, few, spent, ap (λ l. length l) c.deref.ensures.value, length-map anchors seen_certificate)
