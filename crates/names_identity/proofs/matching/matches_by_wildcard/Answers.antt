use Rattle.std.proofs.Common.{◌≡◌, [], ◌∷◌, rules}
use Rattle.std.proofs.lemmas.Bool.{both_ways}
use Rattle.names_identity.proofs.Wildcards.{wildcard_matches, wildcard_matched}
use Rattle.names_identity.proofs.matching.matches_by_wildcard.Goals as goal

pub returns-then-eq : goal.returns-then-eq
returns-then-eq c =
    let s = c.in-Some-Some in (
      λ t. wildcard_matches c.args.name.now c.args.host.now s.first.now s.rest.now s.field-0-0-1.now s.behind.now s.ensures s.ensures'
          (search rules) (c.eq_ignore_ascii_case.ensures.test.0 t),
      λ m. c.eq_ignore_ascii_case.ensures.test.1
          (wildcard_matched c.args.name.now c.args.host.now s.first.now s.rest.now s.field-0-0-1.now s.behind.now s.ensures s.ensures' m).1,
    )

pub returns-else-eq : goal.returns-else-eq
returns-else-eq c =
    let s = c.in-Some-Some in (
      λ t. absurd (both_ways c.eq.result (search rules) t),
      λ m. let star : s.first.now ≡ 42 ∷ [] = (wildcard_matched c.args.name.now c.args.host.now s.first.now s.rest.now s.field-0-0-1.now s.behind.now s.ensures s.ensures' m).0 in
          absurd (both_ways c.eq.result (search rules) (search rules)),
    )
