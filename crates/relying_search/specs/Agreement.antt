-- What two relying parties find.
use Rattle.std.specs.Prelude.{◌≡◌, ◌≢◌}
use Rattle.path.specs.Query.{Query, Accepts}
use Rattle.path_issuers.specs.Search.{Search, Candidate, IsValidCandidate, query_about}
use Rattle.relying_agreement.specs.Agreement.{HoldSameNewest, IssuersAreConsistent}
use Rattle.relying_agreement.specs.Run.{Party, PartyHoldsNewest}
use Rattle.relying_search.specs.Finding.{Finding, IsFinding}
use Rattle.relying_search.specs.declared.finding.FindingBudget.{FindingBudget}

-- whom a party is when a path is asked about: of a store always the same; by statements at hand the one that was told them under the
-- path's issuers
abbrev pub PartyFor : Type 0
PartyFor = Query → Party

-- both judge by this relation, each holds the newest of what it held at the start and took, the path's issuers are consistent, and both
-- hold the same newest for it
pub record HoldTheSameFor (accepts : Accepts) (query : Query) (one other : Party) : Type 0 where
  pub judges : one.accepts ≡ accepts
  pub other_judges : other.accepts ≡ accepts
  pub one_newest : PartyHoldsNewest one
  pub other_newest : PartyHoldsNewest other
  pub consistent : IssuersAreConsistent query one other
  pub same : HoldSameNewest query one.held other.held

-- Two parties find the same path with the same verdict, or that none is valid, if for each valid path among
-- the certificates both hold the same newest, and neither gave up.
abbrev pub PartiesFindTheSame : Type 0
PartiesFindTheSame =
    (accepts : Accepts) (one other : PartyFor) (s : Search) (budget others : FindingBudget) (found other_found : Finding) →
    ((c : Candidate) → IsValidCandidate accepts s c → HoldTheSameFor accepts (query_about s c) (one (query_about s c)) (other (query_about s c))) →
    IsFinding accepts (λ query. (one query).held) s budget found →
    IsFinding accepts (λ query. (other query).held) s others other_found →
    found ≢ Finding.GaveUp → other_found ≢ Finding.GaveUp →
    found ≡ other_found
