use Rattle.std.proofs.Common.{rules, None}
use Rattle.asn.proofs.TimeLemmas.{IfNone-weaker}
use Rattle.asn.proofs.TimeReading.{reading_is}
use Rattle.asn.proofs.time.seconds_of_time.Goals as goal

pub returns-in-23-clause-none : goal.returns-in-23-clause-none
returns-in-23-clause-none c =
    IfNone-weaker c.seconds_of_utc_time.result _ _ (λ none s is. none s (rw c.in-23.is at is)) c.seconds_of_utc_time.ensures.none

pub returns-in-24-clause-none : goal.returns-in-24-clause-none
returns-in-24-clause-none c =
    IfNone-weaker c.seconds_of_generalized_time.result _ _ (λ none s is. none s (rw c.in-24.is at is)) c.seconds_of_generalized_time.ensures.none

pub returns-in-23-clause-value : goal.returns-in-23-clause-value
returns-in-23-clause-value c = reading_is c.args.tag c.args.octets.now c.seconds_of_utc_time.result (rw c.in-23.is c.seconds_of_utc_time.ensures.some) (rw c.in-23.is c.seconds_of_utc_time.ensures.none)

pub returns-in-24-clause-value : goal.returns-in-24-clause-value
returns-in-24-clause-value c = reading_is c.args.tag c.args.octets.now c.seconds_of_generalized_time.result (rw c.in-24.is c.seconds_of_generalized_time.ensures.some) (rw c.in-24.is c.seconds_of_generalized_time.ensures.none)

pub returns-in_default-clause-value : goal.returns-in_default-clause-value
returns-in_default-clause-value c = reading_is c.args.tag c.args.octets.now None tt (search rules)
