-- The lines of answers.
use Rattle.std.specs.Prelude.{ℕ, List, ◌++◌, codes}
use Rattle.std.specs.Fmt.{decimal}
use Rattle.relying_agreement.specs.declared.verdict.Comparison.{Comparison}
use Rattle.relying_agreement.specs.declared.verdict.Comparison.TheVariants.{Same, Differ}
use Rattle.relying_agreement.specs.declared.verdict.Verdict.{Verdict}
use Rattle.relying_agreement.specs.declared.verdict.Verdict.TheVariants.{Invalid, Revoked, Unknown, Valid}
use Rattle.statements_facts.specs.declared.counts.Counts.{Counts}
use Rattle.path.specs.Reason.{reason_name, reason_rank}
use Rattle.path.specs.declared.reason.Reason.{Reason}

-- how many facts of a delivery were stored, kept out, and kept out since they contradict what is held
abbrev pub counts_line : Counts → List ℕ
counts_line counts =
    codes "stored " ++ decimal counts.stored ++ codes " kept " ++ decimal counts.kept
    ++ codes " contradicted " ++ decimal counts.contradicted ++ codes "\n"

-- the first certificate that is refused, the rank of its reason and the reason's name
abbrev pub invalid_text : ℕ → Reason → List ℕ
invalid_text certificate reason =
    codes "invalid " ++ decimal certificate ++ codes " " ++ decimal (reason_rank reason)
    ++ codes " " ++ reason_name reason

-- a verdict; the reason of a revocation is its number (RFC 5280, 5.3.1)
abbrev pub verdict_text : Verdict → List ℕ
verdict_text Valid = codes "valid"
verdict_text (Invalid certificate reason) = invalid_text certificate reason
verdict_text (Revoked certificate reason) =
    codes "revoked " ++ decimal certificate ++ codes " " ++ decimal reason
verdict_text (Unknown certificate) = codes "unknown " ++ decimal certificate

abbrev pub verdict_line : Verdict → List ℕ
verdict_line verdict = verdict_text verdict ++ codes "\n"

-- one verdict, or the least certificate of which the two stores hold something different, and both verdicts
abbrev pub comparison_line : Comparison → List ℕ
comparison_line (Same verdict) = codes "same " ++ verdict_line verdict
comparison_line (Differ one other certificate) =
    codes "differ " ++ decimal certificate ++ codes ": " ++ verdict_text one ++ codes "; "
    ++ verdict_line other
