-- The exit status that says a verdict.
use Rattle.std.specs.Prelude.{ℕ}
use Rattle.relying_agreement.specs.declared.verdict.Comparison.{Comparison}
use Rattle.relying_agreement.specs.declared.verdict.Comparison.TheVariants.{Same, Differ}
use Rattle.relying_agreement.specs.declared.verdict.Verdict.{Verdict}
use Rattle.relying_agreement.specs.declared.verdict.Verdict.TheVariants.{Invalid, Revoked, Unknown, Valid}

abbrev pub verdict_status : Verdict → ℕ
verdict_status Valid = 0
verdict_status (Invalid certificate reason) = 1
verdict_status (Revoked certificate reason) = 2
verdict_status (Unknown certificate) = 3

-- that of the one verdict, or 7 for two
abbrev pub comparison_status : Comparison → ℕ
comparison_status (Same verdict) = verdict_status verdict
comparison_status (Differ one other certificate) = 7
