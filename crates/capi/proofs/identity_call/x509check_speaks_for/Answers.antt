use Rattle.capi.proofs.identity_call.x509check_speaks_for.Goals as goal

pub returns-in-Ok-clause-tells : goal.returns-in-Ok-clause-tells
returns-in-Ok-clause-tells c = c.answer_for.ensures.tells c.args.kind c.args.identity.now c.in-Ok.ensures.reads
