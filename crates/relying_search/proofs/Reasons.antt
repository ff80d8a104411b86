-- The reasons of lists that stand one after the other.
use Rattle.std.proofs.Common.{◌≡◌, ℕ, ℤ, Bool, List, [], ◌∷◌, ◌++◌, Option, Some, None, refl, sym, ap, ◌∙◌}
use Rattle.std.specs.Option.{option_or}
use Rattle.statements_facts.specs.Statement.{CrlAnswer}
use Rattle.relying_agreement.specs.Status.{crl_reason, listed_reason}

together : (a b c : Option ℕ) → option_or a (option_or b c) ≡ option_or (option_or a b) c
together None b c = refl
together (Some reason) b c = refl

-- that of the first ones, else of those behind them
pub joined : (moment : ℤ) (may_sign : Bool) (xs ys : List (Option CrlAnswer))
    → option_or (listed_reason moment may_sign xs) (listed_reason moment may_sign ys) ≡ listed_reason moment may_sign (xs ++ ys)
joined moment may_sign [] ys = refl
joined moment may_sign (x ∷ xs) ys =
    sym (together (crl_reason moment may_sign x) (listed_reason moment may_sign xs) (listed_reason moment may_sign ys))
    ∙ ap (option_or (crl_reason moment may_sign x)) (joined moment may_sign xs ys)
