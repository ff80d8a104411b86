-- A verdict that is not Invalid was asked of an open connection.
use Rattle.std.proofs.Common.{◌≡◌, ◌≢◌, ◌≤◌, ℕ, ℤ, Bool, List, [], ◌∷◌, Option, Some, None, length, map, IsTrue, IfErr, IfOk, Result, Ok, Err, arith, refl, sym}
use Rattle.path.specs.declared.reason.Reason.{Reason}
use Rattle.path.specs.Query.{Query, Accepts}
use Rattle.path.specs.Validity.{IsValidPath}
use Rattle.relying_agreement.specs.Status.{Evidence}
use Rattle.relying_agreement.specs.Verdict.{first_revoked, first_uncovered, verdict_by, verdict_from}
use Rattle.relying_agreement.specs.declared.verdict.Verdict.{Verdict}
use Rattle.relying_agreement.specs.declared.verdict.Verdict.TheVariants.{Invalid, Revoked, Unknown, Valid}
use Rattle.relying_agreement.specs.declared.verdict.Comparison.{Comparison}
use Rattle.relying_agreement.specs.declared.verdict.Comparison.TheVariants.{Same, Differ}
use Rattle.relying_verdicts.specs.Asking.{AreAskedOpen, AreInvalidOrOpen, IsFaultOfValidPath, IsInvalidOrOpen, IsNotInvalid}
use Rattle.relying_verdicts.specs.declared.fault.Fault.{Fault}
use Rattle.relying_verdicts.specs.declared.fault.Fault.TheVariants.{Memory, Store}
use Rattle.relying_verdicts.specs.Difference.{ComparesEvidence}

-- there is evidence on a path with certificates
pub some_certificate : {B C : Type 0} (path : List B) (f : B → C) → 1 ≤ length (map f path) → path ≢ []
some_certificate [] f some = λ e. omega (arith, some)
some_certificate (p ∷ path) f some = λ e. cc

pub some_found : {A B : Type 0} (found : List A) (path : List B) → length found ≡ length path → path ≢ [] → found ≢ []
some_found (x ∷ found) path same some = λ e. cc
some_found [] [] same some = λ e. some refl
some_found [] (p ∷ path) same some = λ e. omega (arith, same)

never : (revoked : Option (ℕ × ℕ)) (uncovered : Option ℕ) (j : ℕ) (reason : Reason) → verdict_from revoked uncovered ≡ Invalid j reason → ⊥
never (Some revoked) uncovered j reason e = cc
never None (Some i) j reason e = cc
never None None j reason e = cc

-- evidence makes no verdict Invalid
not_invalid : (moment : ℤ) (evidence : List Evidence) (verdict : Verdict) → verdict_by moment evidence ≡ verdict → IsNotInvalid verdict
not_invalid moment evidence (Invalid j reason) is = never (first_revoked moment evidence) (first_uncovered moment evidence) j reason is
not_invalid moment evidence (Revoked j reason) is = tt
not_invalid moment evidence (Unknown j) is = tt
not_invalid moment evidence Valid is = tt

by_verdict : (accepts : Accepts) (query : Query) (live : Bool) (verdict : Verdict) → IsNotInvalid verdict → IsTrue live → IsInvalidOrOpen accepts query live verdict
by_verdict accepts query live (Invalid j reason) not is = absurd not
by_verdict accepts query live (Revoked j reason) not is = is
by_verdict accepts query live (Unknown j) not is = is
by_verdict accepts query live Valid not is = is

pub is_open : (accepts : Accepts) (query : Query) (live : Bool) (moment : ℤ) (evidence : List Evidence) (verdict : Verdict) → verdict ≡ verdict_by moment evidence → IsTrue live
    → IsInvalidOrOpen accepts query live verdict
is_open accepts query live moment evidence verdict is opened = by_verdict accepts query live verdict (not_invalid moment evidence verdict (sym is)) opened

pub are_asked : (live other_live : Bool) (moment : ℤ) (one other : List Evidence) (comparison : Comparison) → ComparesEvidence moment one other comparison → IsTrue live → IsTrue other_live
    → AreAskedOpen live other_live comparison
are_asked live other_live moment one other (Same verdict) is opened other_opened = (opened, other_opened, not_invalid moment one verdict is.0)
are_asked live other_live moment one other (Differ verdict others j) is opened other_opened = (opened, other_opened)

pub are_open : {E : Type 0} (accepts : Accepts) (query : Query) (live other_live : Bool) (result : Result Comparison E) → IfOk result (AreAskedOpen live other_live)
    → IfOk result (AreInvalidOrOpen accepts query live other_live)
are_open accepts query live other_live (Ok (Same verdict)) asked = (by_verdict accepts query live verdict asked.2 asked.0, by_verdict accepts query other_live verdict asked.2 asked.1)
are_open accepts query live other_live (Ok (Differ verdict others j)) asked = asked
are_open accepts query live other_live (Err fault) asked = tt

-- a valid path may get any fault
pub may_fail : {A : Type 0} (accepts : Accepts) (query : Query) (result : Result A Fault) → IsValidPath accepts query → IfErr result (IsFaultOfValidPath accepts query)
may_fail accepts query (Ok found) valid = tt
may_fail accepts query (Err (Store fault)) valid = valid
may_fail accepts query (Err Memory) valid = tt
