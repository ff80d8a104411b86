-- What two nodes find, by the clauses of their public calls.
use Rattle.std.specs.Prelude.{◌≡◌, ◌≢◌, List, Result, Ok}
use Rattle.sqlite_disk.specs.declared.Disk.{Ghosts}
use Rattle.statements_facts.specs.declared.profile.Profile.{Profile}
use Rattle.statements_facts.specs.Statement.{Holdings}
use Rattle.statements_facts.specs.declared.counts.Counts.{Counts}
use Rattle.store.specs.Adopts.{StaysIfOpen}
use Rattle.store_maps.specs.Held.{IsStoreOf}
use Rattle.path.specs.Query.{Query, Accepts}
use Rattle.path_issuers.specs.Search.{Search, Candidate, IsValidCandidate, query_about}
use Rattle.relying_agreement.specs.Agreement.{HoldSameNewest, IssuersAreConsistent}
use Rattle.relying_agreement.specs.Run.{Event}
use Rattle.relying_search.specs.Finding.{Finding, FindsHolding, seen_finding}
use Rattle.relying_search.specs.declared.finding.Finding as code
use Rattle.relying_search.specs.declared.finding.FindingBudget.{FindingBudget}
use Rattle.relying_verdicts.specs.Looking.{IsFoundOnlyIfOpen}
use Rattle.relying.specs.Agreed.{CameThrough, party_of}
use Rattle.relying.specs.Asking.{HasLooked}
use Rattle.relying.specs.View.{stored}
use Rattle.relying.specs.declared.fault.DeliverFault.{DeliverFault}
use Rattle.relying.specs.declared.node.Node.{Node}

-- A node whose store held this came through the events, with these answers, and was then asked to find a path, with this finding.
pub record GaveFinding {V D : Type 0} {g : Ghosts D} (profile : Profile) (accepts : Accepts) (s : Search) (budget : FindingBudget) (events : List Event)
    (answers : List (Result Counts DeliverFault)) (start : Holdings) (begun ran asked : Node V D g) (finding : code.Finding) : Type 0 where
  pub begins : IsStoreOf (stored begun).now start
  pub came : CameThrough profile accepts events answers (stored begun) (stored ran)
  pub looks : HasLooked StaysIfOpen (stored ran) (stored asked) (FindsHolding accepts s budget) (Ok finding)
  pub opens : IsFoundOnlyIfOpen accepts s budget (stored ran).is_open (seen_finding finding)
  pub ended : seen_finding finding ≢ Finding.GaveUp

-- Whatever two nodes took, whatever verifiers and disks they have, and under whatever profiles they read: if both judge by one relation,
-- and for each valid path among the certificates its issuers are consistent and both stores hold the same newest, both find the same path
-- with the same verdict, or that none is valid.
abbrev pub NodesFindTheSame : (V D : Type 0) → Ghosts D → (W E : Type 0) → Ghosts E → Type 0
NodesFindTheSame V D g W E h =
    (profile other_profile : Profile) (accepts : Accepts) (s : Search) (budget others_budget : FindingBudget) (events others : List Event)
    (answers others_answers : List (Result Counts DeliverFault)) (start others_start : Holdings) (begun ran asked : Node V D g)
    (other_begun other_ran other_asked : Node W E h) (found other_found : code.Finding) →
    GaveFinding profile accepts s budget events answers start begun ran asked found →
    GaveFinding other_profile accepts s others_budget others others_answers others_start other_begun other_ran other_asked other_found →
    ((held others_held : Holdings) → IsStoreOf (stored ran).now held → IsStoreOf (stored other_ran).now others_held →
    (c : Candidate) → IsValidCandidate accepts s c →
    IssuersAreConsistent (query_about s c) (party_of profile accepts events answers start held)
    (party_of other_profile accepts others others_answers others_start others_held)
    × HoldSameNewest (query_about s c) held others_held) →
    seen_finding found ≡ seen_finding other_found
