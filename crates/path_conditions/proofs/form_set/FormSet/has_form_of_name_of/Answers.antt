use Rattle.std.proofs.Common.{sym, ◌∙◌}
use Rattle.std.proofs.lemmas.Bool.{false≢true}
use Rattle.cert.specs.Certificate.{seen_certificate}
use Rattle.path_conditions.proofs.Tests.{bears_email, bears_says}
use Rattle.path_conditions.proofs.form_set.FormSet.has_form_of_name_of.Goals as goal

pub returns-then-has_form_of_subject : goal.returns-then-has_form_of_subject
returns-then-has_form_of_subject c =
    let email = c.has_form_of_subject.ensures.0 c.if-has_form_of_subject.true in
    (λ _. bears_email c.args.self.now (seen_certificate c.args.certificate.now) email.0 email.1, λ _. c.if-has_form_of_subject.true)

pub returns-else-has_form_of_subject : goal.returns-else-has_form_of_subject
returns-else-has_form_of_subject c =
    bears_says c.has_form_of_one.result c.args.self.now (seen_certificate c.args.certificate.now) (rw c.deref.ensures.value at c.has_form_of_one.ensures)
    (λ email. false≢true (sym c.if-has_form_of_subject.false ∙ c.has_form_of_subject.ensures.1 email))
