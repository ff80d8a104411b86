use Rattle.relying_agreement.proofs.KnownVerdictLaws.{known_verdicts, names_difference_at_limited_point, names_first_difference}
use Rattle.relying_agreement.proofs.ExampleLaws.{all_premises_hold, needs_consistency, needs_same_newest, needs_holds_newest, needs_one_verifier, strangers_do_not_matter}
use Rattle.relying_agreement.proofs.agreement.agreement_examples.Goals as goal

pub returns-clause-all_hold : goal.returns-clause-all_hold
returns-clause-all_hold c = all_premises_hold

pub returns-clause-consistency : goal.returns-clause-consistency
returns-clause-consistency c = needs_consistency

pub returns-clause-same_newest : goal.returns-clause-same_newest
returns-clause-same_newest c = needs_same_newest

pub returns-clause-holds_newest : goal.returns-clause-holds_newest
returns-clause-holds_newest c = needs_holds_newest

pub returns-clause-one_verifier : goal.returns-clause-one_verifier
returns-clause-one_verifier c = needs_one_verifier

pub returns-clause-known : goal.returns-clause-known
returns-clause-known c = known_verdicts

pub returns-clause-first_difference : goal.returns-clause-first_difference
returns-clause-first_difference c = names_first_difference

pub returns-clause-limited_difference : goal.returns-clause-limited_difference
returns-clause-limited_difference c = names_difference_at_limited_point

pub returns-clause-strangers : goal.returns-clause-strangers
returns-clause-strangers c = strangers_do_not_matter
