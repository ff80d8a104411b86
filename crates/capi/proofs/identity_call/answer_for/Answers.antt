use Rattle.std.proofs.Common.{List, inl, inr, subst, sym, ◌∙◌}
use Rattle.std.proofs.lemmas.Bool.{false≢true}
use Rattle.names.specs.declared.general.General.{General}
use Rattle.names_identity.specs.Identity.{SpeaksFor, reference_identity, seen_name_list}
use Rattle.cert.specs.Certificate.{seen_certificate}
use Rattle.capi.proofs.identity_call.answer_for.Goals as goal

pub returns-then-speaks_for-clause-tells : goal.returns-then-speaks_for-clause-tells
returns-then-speaks_for-clause-tells c = λ kind text is.
    let reference = reference_identity c.args.identity.now in
    let speaks = c.speaks_for.ensures.0 c.if-speaks_for.true in
    inl (
      c.answered.ensures,
      (
        record { certificate = seen_certificate c.in-Ok.certificate; read = c.in-Ok.ensures; reference = reference; is = is },
        subst (λ (names : List General). SpeaksFor (seen_name_list names) reference) c.deref.ensures.value speaks,
      ),
    )

pub returns-clause-tells : goal.returns-clause-tells
returns-clause-tells c = λ kind text is.
    let reference = reference_identity c.args.identity.now in
    inr (inl (
      c.answered-else-speaks_for.ensures,
      (
        record { certificate = seen_certificate c.in-Ok.certificate; read = c.in-Ok.ensures; reference = reference; is = is },
        λ speaks. false≢true (sym c.if-speaks_for.false
            ∙ c.speaks_for.ensures.1 (subst (λ (names : List General). SpeaksFor (seen_name_list names) reference) (sym c.deref.ensures.value) speaks)),
      ),
    ))
