use Rattle.std.proofs.Common.{◌+◌, ◌*◌, ℕ, Option, length, subst, sym}
use Rattle.std.specs.Global.{Vec}
use Rattle.std.proofs.lemmas.List.{length-map}
use Rattle.cert.specs.Certificate.{seen_certificate}
use Rattle.path_issuers.specs.View.{seen_search}
use Rattle.path_issuers.specs.Asking.{IsWithin}
use Rattle.path_issuers.proofs.Whole.{none_if_unpaid}
use Rattle.path_issuers.proofs.linking.link.Goals as goal

pub returns-clause-spent : goal.returns-clause-spent
returns-clause-spent g c =
    let search = c.args.search.now in
    let bag = length search.bag.now in
    let anchors = length search.anchors.now in
    let left = c.anchors_of_all.new.left in
    let paid =
    subst (λ (found : Option (Vec (Vec ℕ))). IsWithin ((bag + 1) * anchors) c.args.signatures left found) c.in-Some.is c.in_ok-anchors.ensures.spent in
    none_if_unpaid (seen_search search) c.args.signatures left c.link_reached.new.left bag anchors
    (sym (length-map search.bag.now seen_certificate))
    (sym (length-map search.anchors.now seen_certificate)) paid c.link_reached.result c.link_reached.ensures.spent
