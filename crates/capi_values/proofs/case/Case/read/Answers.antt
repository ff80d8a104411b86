use Rattle.std.proofs.Common.{◌∷◌, inr, subst}
use Rattle.path.specs.Reading.{seen_query}
use Rattle.capi_values.specs.Refusal.{TellsStatement}
use Rattle.capi_values.proofs.Readings.{query_read}
use Rattle.capi_values.proofs.case.Case.read.Goals as goal

pub returns-clause-refuses : goal.returns-clause-refuses
returns-clause-refuses c =
    let query = seen_query c.in_ok-query.query in
    inr (
      query.anchor ∷ query.certificates,
      query_read c.args.query.now query c.in_ok-query.ensures.reads,
      subst (λ profile. TellsStatement profile c.args.statements.now c.in-Err.refusal) c.profile_of-profile.ensures c.in-Err.ensures.refuses,
    )
