-- Agreement of relying parties: what the same newest statements make of two of them.
use Rattle.std.specs.Prelude.{◌≡◌, ℕ, List, ◌++◌, Option, Some, option_map, Contains}
use Rattle.std.specs.List.{AllByRecursion}
use Rattle.statements_facts.specs.Statement.{Holdings, Times, CrlSlot, CrlFact, OcspSlot, OcspFact}
use Rattle.path.specs.Query.{Query, Accepts}
use Rattle.relying_agreement.specs.declared.verdict.Verdict.{Verdict}
use Rattle.relying_agreement.specs.Link.{Link, links_of, crl_slots_of, ocsp_slot_for}
use Rattle.relying_agreement.specs.Status.{answers_of}
use Rattle.relying_agreement.specs.Verdict.{IsVerdict}
use Rattle.relying_agreement.specs.Run.{Event, DeliveryAnswer, FactsOf, Party, crls_seen, responses_seen, PartyHoldsNewest, HasRun}

-- ---- the same newest

abbrev pub number_held : Holdings → CrlSlot → Option ℕ
number_held held slot = option_map (λ fact. fact.number) (held.crl slot)

abbrev pub HoldSameNumber : Holdings → Holdings → CrlSlot → Type 0
HoldSameNumber one other slot = number_held one slot ≡ number_held other slot

abbrev pub times_held : Holdings → OcspSlot → Option Times
times_held held slot = option_map (λ fact. fact.times) (held.ocsp slot)

-- in each slot that speaks of the certificate, at each of its points too, both hold nothing, or lists of one number, or responses of the same
-- times
pub record HoldSameNewestOf (one other : Holdings) (link : Link) : Type 0 where
  pub lists : AllByRecursion (HoldSameNumber one other) (crl_slots_of link)
  pub ocsp : times_held one (ocsp_slot_for link) ≡ times_held other (ocsp_slot_for link)

abbrev pub HoldSameNewest : Query → Holdings → Holdings → Type 0
HoldSameNewest query one other = AllByRecursion (HoldSameNewestOf one other) (links_of query)

-- ---- honest issuers

-- lists of one slot with one number say the same (RFC 5280, 5.2.3)
abbrev pub CrlsAreConsistent : List CrlFact → Type 0
CrlsAreConsistent facts =
    (one other : CrlFact) → Contains facts one → Contains facts other → one.number ≡ other.number → one ≡ other

-- responses of one slot with the same times say the same
abbrev pub ResponsesAreConsistent : List OcspFact → Type 0
ResponsesAreConsistent facts =
    (one other : OcspFact) → Contains facts one → Contains facts other → one.times ≡ other.times → one ≡ other

-- all that either party held at the start or took in a slot
abbrev pub CrlsSeenAreConsistent : Party → Party → CrlSlot → Type 0
CrlsSeenAreConsistent one other slot = CrlsAreConsistent (crls_seen one slot ++ crls_seen other slot)

abbrev pub ResponsesSeenAreConsistent : Party → Party → OcspSlot → Type 0
ResponsesSeenAreConsistent one other slot = ResponsesAreConsistent (responses_seen one slot ++ responses_seen other slot)

-- in the slots that speak of the certificate
pub record IssuerIsConsistent (one other : Party) (link : Link) : Type 0 where
  pub lists : AllByRecursion (CrlsSeenAreConsistent one other) (crl_slots_of link)
  pub ocsp : ResponsesSeenAreConsistent one other (ocsp_slot_for link)

-- The issuers of a path are consistent; of others nothing is asked.
abbrev pub IssuersAreConsistent : Query → Party → Party → Type 0
IssuersAreConsistent query one other = AllByRecursion (IssuerIsConsistent one other) (links_of query)

-- all issuers are, those of no path too
pub record AllAreConsistent (one other : Party) : Type 0 where
  pub crls : (slot : CrlSlot) → CrlsSeenAreConsistent one other slot
  pub responses : (slot : OcspSlot) → ResponsesSeenAreConsistent one other slot

abbrev pub AllIsEnough : Type 0
AllIsEnough = (query : Query) (one other : Party) → AllAreConsistent one other → IssuersAreConsistent query one other

-- the two facts that two maps hold in a slot
abbrev pub CrlsHeldAreConsistent : Holdings → Holdings → CrlSlot → Type 0
CrlsHeldAreConsistent one other slot =
    (f g : CrlFact) → one.crl slot ≡ Some f → other.crl slot ≡ Some g → f.number ≡ g.number → f ≡ g

abbrev pub ResponsesHeldAreConsistent : Holdings → Holdings → OcspSlot → Type 0
ResponsesHeldAreConsistent one other slot =
    (f g : OcspFact) → one.ocsp slot ≡ Some f → other.ocsp slot ≡ Some g → f.times ≡ g.times → f ≡ g

pub record HeldIsConsistent (one other : Holdings) (link : Link) : Type 0 where
  pub lists : AllByRecursion (CrlsHeldAreConsistent one other) (crl_slots_of link)
  pub ocsp : ResponsesHeldAreConsistent one other (ocsp_slot_for link)

-- what two maps hold of a path is consistent
abbrev pub HeldAreConsistent : Query → Holdings → Holdings → Type 0
HeldAreConsistent query one other = AllByRecursion (HeldIsConsistent one other) (links_of query)

-- ---- the first half

-- Two parties that judge by one relation, each of which holds the newest of what it held at the start and took: where both
-- hold the same newest for every certificate of a path, and its issuers are consistent, their verdicts are equal.
abbrev pub PartiesAgree : Type 0
PartiesAgree =
    (query : Query) (one other : Party) (v w : Verdict) →
    one.accepts ≡ other.accepts →
    PartyHoldsNewest one →
    PartyHoldsNewest other →
    IssuersAreConsistent query one other →
    HoldSameNewest query one.held other.held →
    IsVerdict one.accepts query one.held v →
    IsVerdict other.accepts query other.held w →
    v ≡ w

-- The same, whatever events reach them.
abbrev pub RunsAgree : Type 0
RunsAgree =
    (facts_of : FactsOf) (query : Query) (one other : Party) (v w : Verdict)
    (events_of_one events_of_other : List Event) (answers_of_one answers_of_other : List DeliveryAnswer) →
    one.accepts ≡ other.accepts →
    HasRun facts_of events_of_one answers_of_one one →
    HasRun facts_of events_of_other answers_of_other other →
    IssuersAreConsistent query one other →
    HoldSameNewest query one.held other.held →
    IsVerdict one.accepts query one.held v →
    IsVerdict other.accepts query other.held w →
    v ≡ w

-- The same under the wider premise, that no issuer at all says two things under one number or time.
abbrev pub RunsAgreeWhereAllAreConsistent : Type 0
RunsAgreeWhereAllAreConsistent =
    (facts_of : FactsOf) (query : Query) (one other : Party) (v w : Verdict)
    (events_of_one events_of_other : List Event) (answers_of_one answers_of_other : List DeliveryAnswer) →
    one.accepts ≡ other.accepts →
    HasRun facts_of events_of_one answers_of_one one →
    HasRun facts_of events_of_other answers_of_other other →
    AllAreConsistent one other →
    HoldSameNewest query one.held other.held →
    IsVerdict one.accepts query one.held v →
    IsVerdict other.accepts query other.held w →
    v ≡ w

-- what each holds was held at the start or taken, so what both hold is consistent
abbrev pub HeldWasSeen : Type 0
HeldWasSeen =
    (query : Query) (one other : Party) → PartyHoldsNewest one → PartyHoldsNewest other → IssuersAreConsistent query one other →
    HeldAreConsistent query one.held other.held

-- Of a certificate for which both hold the same newest they hold the same, so its status is the same at every moment.
abbrev pub SameNewestIsTheSame : Type 0
SameNewestIsTheSame =
    (one other : Holdings) (link : Link) → HeldIsConsistent one other link → HoldSameNewestOf one other link →
    answers_of one link ≡ answers_of other link

-- Issuers that issue one list of a number and one response of a time are consistent, whatever of it reaches whom.
pub record IsIssued (crl : CrlSlot → ℕ → CrlFact) (response : OcspSlot → Times → OcspFact) (party : Party) : Type 0 where
  pub crls : (slot : CrlSlot) (fact : CrlFact) → Contains (crls_seen party slot) fact → fact ≡ crl slot fact.number
  pub responses : (slot : OcspSlot) (fact : OcspFact) → Contains (responses_seen party slot) fact → fact ≡ response slot fact.times

abbrev pub OneOfANumberIsConsistent : Type 0
OneOfANumberIsConsistent =
    (crl : CrlSlot → ℕ → CrlFact) (response : OcspSlot → Times → OcspFact) (one other : Party) →
    IsIssued crl response one → IsIssued crl response other → AllAreConsistent one other

-- ---- equal where they answer the same

-- two relations that answer the same of every four texts are one
pub record PointwiseIsEnough : Type 0 where
  pub verifiers :
      (one other : Accepts) →
      ((algorithm key message signature : List ℕ) → one algorithm key message signature ≡ other algorithm key message signature) →
      one ≡ other
  -- two lists of one number and window that have the same entry for every serial number are one fact
  pub crls :
      (one other : CrlFact) → one.number ≡ other.number → one.window ≡ other.window →
      ((serial : List ℕ) → one.reasons serial ≡ other.reasons serial) → one ≡ other
