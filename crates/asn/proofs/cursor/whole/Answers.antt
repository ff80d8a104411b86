use Rattle.std.proofs.Common.{refl}
use Rattle.asn.proofs.cursor.whole.Goals as goal

pub whole_at-requires-clause-encoded : goal.whole_at-requires-clause-encoded
whole_at-requires-clause-encoded c = ∣ c.in_ok-check.ensures.accepts.0 refl ∣₁
