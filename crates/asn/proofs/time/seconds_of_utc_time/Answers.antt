use Rattle.std.proofs.Common.{◌≡◌, ◌-◌, ℕ, length, take, drop, arith, inl, inr}
use Rattle.std.proofs.lemmas.Grind.{common_steps}
use Rattle.asn.proofs.TimeLemmas.{utc_time_in_year, IfNone-weaker, IsCenturyOf}
use Rattle.asn.proofs.time.seconds_of_utc_time.Goals as goal
use Rattle.asn.proofs.time.seconds_of_utc_time.Goals.{then-year_of_century-ge50, else-year_of_century-ge50}

pub returns-clause-none : goal.returns-clause-none
returns-clause-none c =
    let number : ℕ = c.in_ok-year_of_century.field-0 in
    let century : ℕ = c.if-year_of_century-ge50.century in
    let is_century : IsCenturyOf number century = elim c.if-year_of_century-ge50.branch [
      | then-year_of_century-ge50 w ↦ inl (omega arith, omega arith)
      | else-year_of_century-ge50 w ↦ inr (omega arith, omega arith)
    ] in
    let rest : take (length c.args.text.now - 2) (drop 2 c.args.text.now) ≡ drop 2 c.args.text.now = grind (arith, common_steps) in
    IfNone-weaker c.seconds_in_year.result _ _ (λ none s is. none s (rw rest (utc_time_in_year c.args.text.now number century s c.in_ok-year_of_century.ensures.some is_century is))) c.seconds_in_year.ensures.none
