-- Lines, and details behind them.
use Rattle.std.proofs.Common.{◌≡◌, ◌++◌, ◌∙◌, ℕ, Bool, true, false, List, [], Result, Ok, Err, IfOk, ap, refl, append-nil}
use Rattle.std.specs.Global.{Vec}
use Rattle.cli_failures.specs.declared.failure.Failure.{Failure}
use Rattle.cli_showing.specs.Shown.{IsWithDetails}

is_with_details : (asked : Bool) (lines details : List ℕ) → (asked ≡ false → details ≡ []) → IsWithDetails asked lines (lines ++ details)
is_with_details false lines details none = ap (λ l. lines ++ l) (none refl) ∙ append-nil lines
is_with_details true lines details none = (details, refl)

-- the lines of what was read, and then the details, which are none if they are not asked for
pub detailed : {X : Type 0} (Is : X → Type 0) (lines : X → List ℕ) (read : X) (asked : Bool) (text details : List ℕ) (result : Result (Vec ℕ) Failure)
    → Is read → (asked ≡ false → details ≡ []) → text ≡ lines read → IfOk result (λ whole. whole.items ≡ text ++ details)
    → IfOk result (λ whole. (x : X) × Is x × IsWithDetails asked (lines x) whole.items)
detailed Is lines read asked text details (Ok whole) is none written joined =
    (read, is, rw (joined, written) (is_with_details asked (lines read) details none))
detailed Is lines read asked text details (Err failure) is none written joined = tt
