use Rattle.std.proofs.Common.{rules, refl, true, sym, ◌≡◌, subst}
use denote.Enum.Bare.{same_true, sameb}
use Rattle.der.specs.contracts.fault.Rule.{the_type}
use Rattle.der.specs.declared.fault.Rule.{Rule}
use Rattle.der.specs.declared.fault.Rule.TheVariants.{Truncated}
use Rattle.der.specs.Header.{KeepsLength}
use Rattle.der.proofs.Prefixes.{goes_on, not_truncated, length-ahead}
use Rattle.der.proofs.header.Header.begun.Goals as goal

pub returns-in-Err-clause-goes_on : goal.returns-in-Err-clause-goes_on
returns-in-Err-clause-goes_on c =
    let is : c.in-Err.rule ≡ Truncated = same_true the_type (search rules) _ _ (sym c.if-eq.ensures) in
    let keeps : KeepsLength c.args.front.now c.in-Err.rule = (c.in-Err.ensures.err 1).3 in
    goes_on c.args.front.now c.if-front-lt2.false (search rules) (c.in-Err.ensures.short is) (subst (λ (r : Rule). KeepsLength c.args.front.now r) is keeps)

pub returns-in-Err-2-clause-err : goal.returns-in-Err-2-clause-err
returns-in-Err-2-clause-err c =
    let broken = c.in-Err.ensures.err 1 in
    let low = not_truncated c.in-Err.rule broken.2 (λ is. let same : sameb the_type c.in-Err.rule Truncated ≡ true = rw is refl in absurd cc) in
    (low, λ behind. length-ahead c.args.front.now behind c.in-Err.rule c.if-front-lt2.false (search rules) broken.0 broken.1 low broken.3)
