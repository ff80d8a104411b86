-- Two parties that agree.
use Rattle.std.specs.Prelude.{◌≡◌, Result, IfOk}
use Rattle.sqlite.specs.State.{State, HasCleanDisk}
use Rattle.statements_facts.specs.Statement.{Holdings}
use Rattle.store_maps.specs.Held.{IsStoreOf}
use Rattle.path.specs.Query.{Query, Accepts}
use Rattle.relying_agreement.specs.declared.verdict.Comparison.{Comparison}
use Rattle.relying_agreement.specs.declared.verdict.Comparison.TheVariants.{Same}
use Rattle.relying_agreement.specs.declared.verdict.Verdict.{Verdict}
use Rattle.relying_agreement.specs.Agreement.{HeldAreConsistent, HoldSameNewest}
use Rattle.relying_agreement.specs.Verdict.{IsVerdict}
use Rattle.relying_verdicts.specs.declared.fault.Fault.{Fault}

-- Where both hold the same newest for every certificate of the path, and what they hold of it is consistent, the answer is that the
-- verdicts are the same, or a fault.
abbrev pub NeverDiffer : Accepts → Query → State → State → Result Comparison Fault → Type 0
NeverDiffer accepts query one other result =
    (held others : Holdings) → IsStoreOf one.now held → IsStoreOf other.now others → HeldAreConsistent query held others →
    HoldSameNewest query held others → IfOk result (λ answer. (v : Verdict) × IsVerdict accepts query held v × (answer ≡ Same v))

-- the same, where both disks returned what was written
abbrev pub NeverDifferIfClean : Accepts → Query → State → State → State → State → Result Comparison Fault → Type 0
NeverDifferIfClean accepts query one one_new other other_new result =
    HasCleanDisk one_new → HasCleanDisk other_new → NeverDiffer accepts query one other result
