use Rattle.std.proofs.Common.{◌∙◌, ◌∷◌, [], ◌++◌, List, map, take, ap, sym}
use Rattle.std.proofs.lemmas.List.{map_more}
use Rattle.cert.specs.Certificate.{Certificate, seen_certificate}
use Rattle.path_search.proofs.ground.authorities_of.Goals as goal

pub loop-certificate-preserved : goal.loop-certificate-preserved
loop-certificate-preserved c =
    let i = c.loop-certificate.certificate-index in
    let item = c.certificate-item.result in
    c.in_ok-push.ensures.items
    ∙ (ap (λ (list : List Certificate). list ++ c.in_ok-new.field-0 ∷ []) c.loop-certificate.invariant
    ∙ (ap (λ (one : Certificate). map seen_certificate (take i c.args.bag.now) ++ one ∷ []) (c.in_ok-new.ensures.ok ∙ ap seen_certificate c.certificate-item.is)
    ∙ sym (map_more seen_certificate c.args.bag.now i item c.loop-certificate-test.true)))
