-- Times of responses (RFC 6960, 4.2.2.1): GeneralizedTime alone, in seconds from 1970-01-01T00:00:00Z
use Rattle.std.specs.Prelude.{ℕ, ℤ, Result}
use Rattle.asn.specs.Members.{Members}
use Rattle.asn.specs.Walk.{seconds}
use Rattle.statements_parts.specs.Parts.{statement_component}
use Rattle.statements_parts.specs.declared.fault.StatementRule.{StatementRule}
use Rattle.statements_parts.specs.declared.fault.StatementRule.TheVariants.{Layout}

unfoldable pub generalized_time : Members → Result (ℤ × Members) (StatementRule × ℕ)
generalized_time left = statement_component 0x18 (seconds Layout) left
