use Rattle.std.proofs.Common.{◌∙◌, List, ℕ, ap, sym, [], ◌∷◌, ◌++◌, map, take}
use Rattle.std.proofs.lemmas.List.{map_more}
use Rattle.path_issuers.specs.Naming.{subject_number}
use Rattle.path_issuers.proofs.naming.subject_numbers.Goals as goal

pub loop-certificate-preserved : goal.loop-certificate-preserved
loop-certificate-preserved c =
    let f = subject_number c.args.keys.now.sorted.items in
    let i = c.loop-certificate.certificate-index in
    let certificates = c.args.certificates.now in
    let item = c.certificate-item.result in
    c.in_ok-push.ensures.items
    ∙ (ap (λ (xs : List ℕ). xs ++ c.in_ok-number_of.field-0 ∷ []) c.loop-certificate.invariant
    ∙ (ap (λ (n : ℕ). map f (take i certificates) ++ n ∷ []) (c.in_ok-number_of.ensures.number ∙ ap f c.certificate-item.is)
    ∙ sym (map_more f certificates i item c.loop-certificate-test.true)))
