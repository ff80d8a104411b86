use Rattle.std.proofs.Common.{sym, ◌∙◌}
use Rattle.std.proofs.lemmas.Bool.{false≢true, not_from_true}
use Rattle.cert.specs.Certificate.{seen_certificate}
use Rattle.path_search.proofs.Answering.{constrains_exactly}
use Rattle.path_search.proofs.authority.Authority.constrains_no_other_form_of.Goals as goal

pub returns-then-not-has_form_of_name_of : goal.returns-then-not-has_form_of_name_of
returns-then-not-has_form_of_name_of c =
    let says = constrains_exactly c.self.view_is _ _ c.self.invariant (seen_certificate c.args.certificate.now) in (
      λ t. says.0 (λ bears. false≢true (sym c.if-not-has_form_of_name_of.true ∙ c.has_form_of_name_of.ensures.1 bears), c.finds_hosts_of.ensures.0 t),
      λ ok. c.finds_hosts_of.ensures.1 (says.1 ok).1,
    )

pub returns-else-not-has_form_of_name_of : goal.returns-else-not-has_form_of_name_of
returns-else-not-has_form_of_name_of c =
    let says = constrains_exactly c.self.view_is _ _ c.self.invariant (seen_certificate c.args.certificate.now) in (
      λ t. absurd (false≢true (sym (not_from_true _ c.if-not-has_form_of_name_of.false) ∙ t)),
      λ ok. absurd ((says.1 ok).0 (c.has_form_of_name_of.ensures.0 c.if-not-has_form_of_name_of.false)),
    )
