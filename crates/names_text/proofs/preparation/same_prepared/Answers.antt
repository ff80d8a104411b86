use Rattle.std.proofs.Common.{rules}
use Rattle.std.proofs.lemmas.Bool.{both_ways}
use Rattle.names_text.proofs.Words.{ends_differ, ends_apart, apart_ends}
use Rattle.names_text.proofs.preparation.same_prepared.Goals as goal

pub returns-then-not-eq_ignore_ascii_case : goal.returns-then-not-eq_ignore_ascii_case
returns-then-not-eq_ignore_ascii_case c = (
  λ h. absurd (search rules),
  λ same. absurd (ends_differ _ _ _ _ _ _ _ _ c.loop-left_word.invariant c.in-Some-Some.ensures c.in-Some-Some.ensures'
      (λ e. both_ways c.eq_ignore_ascii_case.result (search rules) (c.eq_ignore_ascii_case.ensures.test.1 (search rules))) same),
)

pub returns-in_default : goal.returns-in_default
returns-in_default c = (
  λ h. absurd (search rules),
  λ same. absurd (ends_apart _ _ _ _ _ _ c.loop-left_word.invariant c.in_default.ensures c.in_default.ensures' same),
)

pub returns-in_default-2 : goal.returns-in_default-2
returns-in_default-2 c = (
  λ h. absurd (search rules),
  λ same. absurd (apart_ends _ _ _ _ _ _ c.loop-left_word.invariant c.in_default.ensures c.in_default.ensures' same),
)
