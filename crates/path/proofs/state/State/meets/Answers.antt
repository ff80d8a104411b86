use Rattle.std.proofs.Common.{◌↔◌, sym, subst, ◌∙◌, IsTrue}
use Rattle.std.proofs.lemmas.Bool.{false≢true}
use Rattle.path_conditions.specs.CertificateConditions.{IsCa, MaySignCertificates}
use Rattle.path.proofs.Deciding.{asked, not_last}
use Rattle.path.proofs.state.State.meets.Goals as goal

pub returns-in-NotPermitted : goal.returns-in-NotPermitted
returns-in-NotPermitted g c = rw c.in-NotPermitted.is c.are_names_permitted.ensures

pub returns-in-Excluded : goal.returns-in-Excluded
returns-in-Excluded g c = rw c.in-Excluded.is c.are_names_not_excluded.ensures

pub returns-in-ConstraintForm : goal.returns-in-ConstraintForm
returns-in-ConstraintForm g c = rw c.in-ConstraintForm.is c.are_constraints_processed.ensures

pub returns-in-PathLength : goal.returns-in-PathLength
returns-in-PathLength g c = rw c.in-PathLength.is c.is_within_path_length.ensures

pub returns-else-is_last : goal.returns-else-is_last
returns-else-is_last g c =
    rw c.in-NotCa.is
    (asked c.is_ca.result (not_last _ _ c.requires (λ e. false≢true (sym c.if-is_last.false ∙ c.is_last.ensures.1 e)))
    (subst (λ d. IsTrue c.is_ca.result ↔ IsCa d) c.certificate-certificate.ensures c.is_ca.ensures))

pub returns-else-is_last-2 : goal.returns-else-is_last-2
returns-else-is_last-2 g c =
    rw c.in-KeyCertSign.is
    (asked c.may_sign_certificates.result (not_last _ _ c.requires (λ e. false≢true (sym c.if-is_last-2.false ∙ c.is_last-in-KeyCertSign.ensures.1 e)))
    (subst (λ d. IsTrue c.may_sign_certificates.result ↔ MaySignCertificates d) c.certificate-certificate.ensures c.may_sign_certificates.ensures))
