-- What look-ups answer, as what bears on a certificate.
use Rattle.std.proofs.Common.{◌≡◌, ℕ, ◌+◌, Bool, true, List, [], ◌∷◌, ◌++◌, map, option_map, sym, ap, ap₂, ◌∙◌, if◌then◌else◌}
use Rattle.sha1.specs.Sha1.{sha1}
use Rattle.asn.specs.Place.{body}
use Rattle.cert.specs.Certificate.{Certificate}
use Rattle.statements_facts.specs.declared.answer.Answers as listed
use Rattle.statements_facts.specs.declared.scope.Scope.{Scope}
use Rattle.statements_facts.specs.declared.scope.Scope.TheVariants.{All}
use Rattle.statements_facts.specs.Answer.{seen_crl, seen_ocsp}
use Rattle.statements_facts.specs.Statement.{IssuerIdentity, Holdings}
use Rattle.statements.specs.Issuer.{identity_of}
use Rattle.relying_agreement.specs.Link.{Link, complete_slots, limited_slots, own_scope}
use Rattle.relying_agreement.specs.Status.{evidence_of, may_sign_crls, list_held, answers_held}
use Rattle.relying_agreement.proofs.Laws.{place_by_place, point_by_point}
use Rattle.relying_search.specs.declared.evidence.Evidence as known
use Rattle.relying_search.specs.View.{seen_evidence, seen_lists}
use Rattle.relying_verdicts.specs.declared.looking.ListsAtPoints.{ListsAtPoints}
use Rattle.relying_verdicts.specs.Found.{AreAnswersOn, AreListsAtPoints, IsAssembled, lists_in}

pub answers_are : (held : Holdings) (issuer : IssuerIdentity) (certificate : Certificate) (kind : Scope) (serial hash : List ℕ) (answers : listed.Answers)
    → kind ≡ own_scope certificate → serial ≡ body certificate.serial → hash ≡ sha1 certificate.issuer.octets
    → option_map seen_crl answers.all ≡ list_held held serial (record { issuer = issuer; scope = All })
    → option_map seen_crl answers.own ≡ list_held held serial (record { issuer = issuer; scope = kind })
    → option_map seen_ocsp answers.ocsp ≡ held.ocsp (record { issuer = issuer; name_hash = hash; serial = serial })
    → AreAnswersOn issuer certificate held answers
answers_are held issuer certificate kind serial hash answers kind_is serial_is hash_is all_is own_is ocsp_is = record {
  lists =
      ap₂ (λ all own. all ∷ own ∷ [])
      (all_is ∙ ap (λ s. list_held held s (record { issuer = issuer; scope = All })) serial_is)
      (own_is ∙ ap (λ k. list_held held serial (record { issuer = issuer; scope = k })) kind_is ∙ ap (λ s. list_held held s (record { issuer = issuer; scope = own_scope certificate })) serial_is);
  ocsp =
      ocsp_is
      ∙ ap (λ h. held.ocsp (record { issuer = issuer; name_hash = h; serial = serial })) hash_is
      ∙ ap (λ s. held.ocsp (record { issuer = issuer; name_hash = sha1 certificate.issuer.octets; serial = s })) serial_is;
}

pub evidence_is : (held : Holdings) (link : Link) (issuer : IssuerIdentity) (answers : listed.Answers) (at_points : ListsAtPoints) (it : known.Evidence)
    → issuer ≡ identity_of link.issuer → IsAssembled link answers at_points it
    → AreAnswersOn issuer link.certificate held answers → AreListsAtPoints issuer link.certificate held at_points
    → seen_evidence it ≡ evidence_of held link
evidence_is held link issuer answers at_points it issuer_is assembled are at_them =
    let lists : lists_in answers ++ seen_lists at_points.complete.items ≡ map (list_held held (body link.certificate.serial)) (complete_slots (identity_of link.issuer) link.certificate) =
    ap₂ (λ here there. here ++ there) are.lists at_them.complete
    ∙ sym (place_by_place (list_held held (body link.certificate.serial)) issuer link.certificate)
    ∙ ap (λ i. map (list_held held (body link.certificate.serial)) (complete_slots i link.certificate)) issuer_is in
    let limited : seen_lists at_points.limited.items ≡ map (list_held held (body link.certificate.serial)) (limited_slots (identity_of link.issuer) link.certificate) =
    at_them.limited
    ∙ sym (point_by_point (list_held held (body link.certificate.serial)) link.certificate.points.limited issuer link.certificate)
    ∙ ap (λ i. map (list_held held (body link.certificate.serial)) (limited_slots i link.certificate)) issuer_is in
    let ocsp : option_map seen_ocsp answers.ocsp ≡ (answers_held held (identity_of link.issuer) link.certificate).ocsp =
    are.ocsp ∙ ap (λ i. (answers_held held i link.certificate).ocsp) issuer_is in
    assembled ∙ (λ i. record { number = link.number; may_sign_crls = may_sign_crls link; answers = record { lists = lists i; limited = limited i; ocsp = ocsp i } })

-- what a list is after a push that succeeded
pub pushed : {A : Type 0} (ok : Bool) (more same now : List A) → ok ≡ true → now ≡ (if ok then more else same) → now ≡ more
pushed ok more same now is e = e ∙ ap (λ b. if b then more else same) is

-- and how many it has
pub counted : (ok : Bool) (before now i : ℕ) → ok ≡ true → now ≡ (if ok then before + 1 else before) → before ≡ i → now ≡ i + 1
counted ok before now i is e same = e ∙ ap (λ b. if b then before + 1 else before) is ∙ ap (λ n. n + 1) same
