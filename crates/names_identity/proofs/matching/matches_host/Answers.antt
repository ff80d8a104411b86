use Rattle.std.proofs.Common.{rules, inl, inr}
use Rattle.std.proofs.lemmas.Bool.{both_ways}
use Rattle.names_identity.proofs.Wildcards.{same_labels}
use Rattle.names_identity.proofs.matching.matches_host.Goals as goal

pub returns-else-eq_ignore_ascii_case : goal.returns-else-eq_ignore_ascii_case
returns-else-eq_ignore_ascii_case c = (
  λ t. inr (c.matches_by_wildcard.ensures.0 t),
  λ m. elim m [
    | inl same ↦ absurd (both_ways c.eq_ignore_ascii_case.result (search rules) (c.eq_ignore_ascii_case.ensures.test.1 (same_labels c.args.name.now c.args.host.now same)))
    | inr wild ↦ c.matches_by_wildcard.ensures.1 wild
  ],
)
