-- What a step of a search for a verdict does, by what its calls say.
use Rattle.std.proofs.Common.{ℕ, ◌+◌, Option, Some, None, inl}
use Rattle.path.specs.Query.{Accepts}
use Rattle.path_issuers.specs.Search.{Search, Candidate, IsValidCandidate}
use Rattle.path_search.specs.Answer.{IsNextValid, seen_candidate}
use Rattle.path_search.specs.Paths.{AnswersNext, ArePaths}
use Rattle.path_search.specs.declared.paths.Paths.{Paths}
use Rattle.path_search.specs.declared.answer.Candidate as path
use Rattle.path_search.specs.declared.answer.Answer.TheVariants as A
use Rattle.relying_agreement.specs.declared.verdict.Verdict.{Verdict}
use Rattle.relying_search.specs.Asked.{Ends, GoesOnOrEnds, Notes, Steps, StepsTo}
use Rattle.relying_search.specs.Finding.{HasVerdict, HeldFor}
use Rattle.relying_search.specs.declared.asked.Asked.{Asked}
use Rattle.relying_search.specs.declared.finding.Finding.{Finding}
use Rattle.relying_search.specs.declared.finding.Finding.TheVariants.{GaveUp}
use Rattle.relying_search.specs.declared.finding.FindingBudget.{FindingBudget}

module _ (accepts : Accepts) (held : HeldFor) (s : Search) where
  noted : (budget : FindingBudget) (last : Option Candidate) (c : Candidate) (count : ℕ) (next : Paths) (new : Asked) (answer : Option Finding)
      → IsNextValid accepts s last c → ArePaths accepts s budget.search (Some c) next → GoesOnOrEnds accepts held s c count new answer
      → StepsTo accepts held s budget last count next new answer
  noted budget last c count next new None is paths goes = (c, is, paths, goes)
  noted budget last c count next new (Some finding) is paths ends = ends budget

  -- a further path was found, and its verdict noted
  pub steps_found : (paths next : Paths) (asked new : Asked) (c : path.Candidate) (verdict : Verdict) (answer : Option Finding)
      → AnswersNext paths next (A.Found c) → (IsValidCandidate accepts s (seen_candidate c) → HasVerdict accepts held s (seen_candidate c) verdict)
      → Notes asked new (seen_candidate c) verdict answer → Steps accepts held s paths asked next new answer
  steps_found paths next asked new c verdict answer answers has notes budget last count are stands =
      let it = answers accepts s budget.search last are in
      noted budget last (seen_candidate c) (count + 1) next new answer it.0 it.1 (notes accepts held s last count stands it.0 (has it.0.valid))

  -- no further path is valid
  pub steps_ended : (paths next : Paths) (asked new : Asked) (finding : Finding) → AnswersNext paths next A.NotFound → Ends asked finding
      → Steps accepts held s paths asked next new (Some finding)
  steps_ended paths next asked new finding answers ends budget last count are stands =
      ends accepts held s last count budget stands (answers accepts s budget.search last are).0

  -- the search for valid paths gave up
  pub steps_gave_up : (paths next : Paths) (asked new : Asked) → AnswersNext paths next A.GaveUp → Steps accepts held s paths asked next new (Some GaveUp)
  steps_gave_up paths next asked new answers budget last count are stands = inl (answers accepts s budget.search last are).0
