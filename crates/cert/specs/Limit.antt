-- How much of a list is served: a choice of the profile, since the standard sets no limit.
use Rattle.std.specs.Prelude.{ℕ, nat_lt, Result}
use Rattle.asn.specs.Walk.{check_that}
use Rattle.cert.specs.declared.fault.CertRule.{CertRule}
use Rattle.cert.specs.declared.fault.CertRule.TheVariants.{Limit}

-- where there are so many, one more has room
unfoldable pub has_room : ℕ → ℕ → ℕ → Result (Unit {0}) (CertRule × ℕ)
has_room most count at = check_that (nat_lt count most) Limit at
