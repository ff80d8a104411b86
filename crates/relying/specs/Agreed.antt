-- What two parties answer, by the clauses of their public calls: the headline.
use Rattle.std.specs.Prelude.{◌≡◌, ◌↔◌, List, Result, Ok, IsTrue, map}
use Rattle.std.specs.List.{AllByRecursion}
use Rattle.sqlite_disk.specs.declared.Disk.{Ghosts}
use Rattle.sqlite.specs.State.{State}
use Rattle.statements_facts.specs.declared.profile.Profile.{Profile}
use Rattle.statements_facts.specs.Fact.{Fact}
use Rattle.statements_facts.specs.Statement.{Holdings}
use Rattle.statements_facts.specs.declared.counts.Counts.{Counts}
use Rattle.store.specs.Adopts.{StaysIfOpen}
use Rattle.store_maps.specs.Held.{IsStoreOf}
use Rattle.path.specs.Query.{Query, Accepts}
use Rattle.path.specs.Validity.{IsValidPath}
use Rattle.relying_agreement.specs.Agreement.{HoldSameNewest, IssuersAreConsistent}
use Rattle.relying_agreement.specs.Link.{links_of}
use Rattle.relying_agreement.specs.Run.{Event, Party, after_taking, facts_taken, genuine_facts}
use Rattle.relying_agreement.specs.Verdict.{IsClear, IsVerdict}
use Rattle.relying_agreement.specs.declared.verdict.Verdict.{Verdict}
use Rattle.relying_agreement.specs.declared.verdict.Verdict.TheVariants.{Valid}
use Rattle.relying_verdicts.specs.Asking.{IsInvalidOrOpen}
use Rattle.relying.specs.Asking.{HasLooked}
use Rattle.relying.specs.Run.{IsEndOfRun, as_answered}
use Rattle.relying.specs.View.{stored}
use Rattle.relying.specs.declared.fault.DeliverFault.{DeliverFault}
use Rattle.relying.specs.declared.node.Node.{Node}

-- who reads under this profile, judges signatures so, held this at the start, took the facts of the deliveries that were answered with
-- counts, and holds that
abbrev pub party_of : Profile → Accepts → List Event → List (Result Counts DeliverFault) → Holdings → Holdings → Party
party_of profile accepts events answers start held = record {
  accepts = accepts;
  start = start;
  taken = facts_taken (genuine_facts profile) accepts events (map as_answered answers);
  held = held;
}

-- What reached a node between two moments: these events, with these answers. If the connection is open in the end, the store holds of each
-- slot the newest of what it held and of what was taken. `relying::call_laws` says so of each call, and of one call after another.
pub record CameThrough (profile : Profile) (accepts : Accepts) (events : List Event) (answers : List (Result Counts DeliverFault))
    (old new : State) : Type 0 where
  pub was_open : IsTrue new.is_open → IsTrue old.is_open
  pub ended : IsTrue new.is_open → (start : Holdings) → IsStoreOf old.now start → IsEndOfRun profile accepts events answers start new

-- A node whose store held this came through the events, with these answers, and was then asked, with this verdict. The store may be one
-- that a crash left, or that earlier calls left.
pub record GaveVerdict {V D : Type 0} {g : Ghosts D} (profile : Profile) (accepts : Accepts) (query : Query) (events : List Event)
    (answers : List (Result Counts DeliverFault)) (start : Holdings) (begun ran asked : Node V D g) (verdict : Verdict) : Type 0 where
  pub begins : IsStoreOf (stored begun).now start
  pub came : CameThrough profile accepts events answers (stored begun) (stored ran)
  pub looks : HasLooked StaysIfOpen (stored ran) (stored asked) (IsVerdict accepts query) (Ok verdict)
  pub opens : IsInvalidOrOpen accepts query (stored ran).is_open verdict

-- Whatever two nodes took, whatever verifiers and disks they have, and under whatever profiles they read: if both judge by one relation,
-- the issuers of the path are consistent, and both stores hold the same newest for the path, their verdicts are equal.
abbrev pub NodesAgree : (V D : Type 0) → Ghosts D → (W E : Type 0) → Ghosts E → Type 0
NodesAgree V D g W E h =
    (profile other_profile : Profile) (accepts : Accepts) (query : Query) (events others : List Event)
    (answers others_answers : List (Result Counts DeliverFault)) (start others_start : Holdings) (begun ran asked : Node V D g) (other_begun other_ran other_asked : Node W E h) (v w : Verdict) →
    GaveVerdict profile accepts query events answers start begun ran asked v →
    GaveVerdict other_profile accepts query others others_answers others_start other_begun other_ran other_asked w →
    ((held others_held : Holdings) → IsStoreOf (stored ran).now held → IsStoreOf (stored other_ran).now others_held →
    IssuersAreConsistent query (party_of profile accepts events answers start held)
    (party_of other_profile accepts others others_answers others_start others_held)
    × HoldSameNewest query held others_held) →
    v ≡ w

-- The same of a node and a party without a store, which began with something and took these facts: by statements at hand it began with
-- nothing, and took what they tell (`relying_texts::verdict`: `party_told`).
abbrev pub NodeAgreesWithParty : (V D : Type 0) → Ghosts D → Type 0
NodeAgreesWithParty V D g =
    (profile : Profile) (accepts : Accepts) (query : Query) (events : List Event) (answers : List (Result Counts DeliverFault))
    (start began : Holdings) (taken : List Fact) (begun ran asked : Node V D g) (v w : Verdict) →
    GaveVerdict profile accepts query events answers start begun ran asked v →
    IsVerdict accepts query (after_taking accepts began taken).held w →
    ((held : Holdings) → IsStoreOf (stored ran).now held →
    IssuersAreConsistent query (party_of profile accepts events answers start held) (after_taking accepts began taken)
    × HoldSameNewest query held (after_taking accepts began taken).held) →
    v ≡ w

-- The verdict is valid exactly where the conditions of 6.1 hold, and for each certificate a current statement speaks and none revokes it.
abbrev pub NodeIsExact : (V D : Type 0) → Ghosts D → Type 0
NodeIsExact V D g =
    (profile : Profile) (accepts : Accepts) (query : Query) (events : List Event) (answers : List (Result Counts DeliverFault))
    (start held : Holdings) (begun ran asked : Node V D g) (v : Verdict) →
    GaveVerdict profile accepts query events answers start begun ran asked v →
    IsStoreOf (stored ran).now held →
    (v ≡ Valid) ↔ (IsValidPath accepts query × AllByRecursion (IsClear held query.moment) (links_of query))
