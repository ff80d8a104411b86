use Rattle.std.proofs.Common.{◌≡◌, ◌-◌, ℕ, length, take, drop, arith}
use Rattle.std.proofs.lemmas.Grind.{common_steps}
use Rattle.asn.proofs.TimeLemmas.{generalized_time_in_year, IfNone-weaker}
use Rattle.asn.proofs.time.seconds_of_generalized_time.Goals as goal

pub returns-clause-none : goal.returns-clause-none
returns-clause-none c =
    let century : ℕ = c.in_ok-century.field-0 in
    let number : ℕ = c.in_ok-year_of_century.field-0 in
    let rest : take (length c.args.text.now - 4) (drop 4 c.args.text.now) ≡ drop 4 c.args.text.now = grind (arith, common_steps) in
    IfNone-weaker c.seconds_in_year.result _ _ (λ none s is. none s (rw rest (generalized_time_in_year c.args.text.now century number s c.in_ok-century.ensures.some c.in_ok-year_of_century.ensures.some is))) c.seconds_in_year.ensures.none
