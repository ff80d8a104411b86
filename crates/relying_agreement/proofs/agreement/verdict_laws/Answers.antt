use Rattle.relying_agreement.proofs.HiddenLaws.{held_revocation_counts}
use Rattle.relying_agreement.proofs.ValidLaws.{invalid_exactly_where, valid_exactly_where}
use Rattle.relying_agreement.proofs.VerdictLaws.{verdict_is_one}
use Rattle.relying_agreement.proofs.WordLaws.{revoked_exactly_where, unknown_exactly_where}
use Rattle.relying_agreement.proofs.agreement.verdict_laws.Goals as goal

pub returns-clause-one : goal.returns-clause-one
returns-clause-one c = verdict_is_one c.outcome_laws.ensures

pub returns-clause-invalid : goal.returns-clause-invalid
returns-clause-invalid c = invalid_exactly_where

pub returns-clause-valid : goal.returns-clause-valid
returns-clause-valid c = valid_exactly_where

pub returns-clause-revoked : goal.returns-clause-revoked
returns-clause-revoked c = revoked_exactly_where

pub returns-clause-unknown : goal.returns-clause-unknown
returns-clause-unknown c = unknown_exactly_where

pub returns-clause-not_hidden : goal.returns-clause-not_hidden
returns-clause-not_hidden c = held_revocation_counts
