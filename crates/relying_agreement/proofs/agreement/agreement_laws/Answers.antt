use Rattle.relying_agreement.proofs.AgreementLaws.{all_is_enough, held_was_seen, one_of_a_number, parties_agree, pointwise_is_enough, runs_agree, runs_agree_where_all, same_of_newest}
use Rattle.relying_agreement.proofs.agreement.agreement_laws.Goals as goal

pub returns-clause-agree : goal.returns-clause-agree
returns-clause-agree c = parties_agree c.outcome_laws.ensures

pub returns-clause-runs_agree : goal.returns-clause-runs_agree
returns-clause-runs_agree c = runs_agree c.outcome_laws.ensures

pub returns-clause-all_agree : goal.returns-clause-all_agree
returns-clause-all_agree c = runs_agree_where_all c.outcome_laws.ensures

pub returns-clause-seen : goal.returns-clause-seen
returns-clause-seen c = held_was_seen

pub returns-clause-same : goal.returns-clause-same
returns-clause-same c = same_of_newest

pub returns-clause-all : goal.returns-clause-all
returns-clause-all c = all_is_enough

pub returns-clause-issued : goal.returns-clause-issued
returns-clause-issued c = one_of_a_number

pub returns-clause-pointwise : goal.returns-clause-pointwise
returns-clause-pointwise c = pointwise_is_enough
