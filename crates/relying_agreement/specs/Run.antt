-- What reaches a relying party, and what it holds after (RFC 5280, 5.2.3 and 6.3.3 (a); RFC 6960, 2.4).
use Rattle.std.specs.Prelude.{◌≡◌, ℕ, List, [], ◌∷◌, ◌++◌, Result, Ok, Err}
use Rattle.std.specs.Option.{option_to_list}
use Rattle.std.specs.List.{filter_map}
use Rattle.cert.specs.declared.fault.CertRule.{CertRule}
use Rattle.cert.specs.Certificate.{Certificate, certificate}
use Rattle.statements_facts.specs.declared.profile.Profile.{Profile}
use Rattle.statements_facts.specs.Fact.{Fact}
use Rattle.statements_facts.specs.Statement.{Holdings, CrlSlot, CrlFact, OcspSlot, OcspFact}
use Rattle.path.specs.Query.{Accepts}
use Rattle.statements_parts.specs.declared.fault.StatementFault.{StatementFault}
use Rattle.statements.specs.Statement.{genuine_statement_under}
use Rattle.statements_facts.specs.Coming.{crl_for, ocsp_for, HoldsNewest}
use Rattle.statements_facts.specs.Newest.{newest_in, newer_crl, newer_ocsp}

-- a statement is delivered, with the issuer's certificate; or the store's files are closed and opened again
pub data Event : Type 0 where
  Deliver : List ℕ → List ℕ → Event
  Restart : Event

-- how a delivery was answered: its facts were taken, or it was refused
pub data DeliveryAnswer : Type 0 where
  Taken : DeliveryAnswer
  Refused : DeliveryAnswer

-- ---- the facts of statements

-- what a statement says: the verifier's relation, the issuer's certificate and the octets determine it
abbrev pub FactsOf : Type 0
FactsOf = Accepts → List ℕ → List ℕ → List Fact

abbrev pub facts_or_none : Result (List Fact) StatementFault → List Fact
facts_or_none (Ok facts) = facts
facts_or_none (Err fault) = []

abbrev pub facts_under : Profile → Accepts → List ℕ → Result Certificate (CertRule × ℕ) → List Fact
facts_under profile accepts statement (Ok issuer) = facts_or_none (genuine_statement_under profile accepts issuer statement)
facts_under profile accepts statement (Err fault) = []

-- what a statement says that is genuine in the profile; another says nothing
abbrev pub genuine_facts : Profile → FactsOf
genuine_facts profile accepts issuer statement = facts_under profile accepts statement (certificate issuer)

-- the facts of the deliveries that were taken, in order
abbrev pub facts_taken : FactsOf → Accepts → List Event → List DeliveryAnswer → List Fact
facts_taken facts_of accepts [] answers = []
facts_taken facts_of accepts (Event.Restart ∷ events) answers = facts_taken facts_of accepts events answers
facts_taken facts_of accepts (Event.Deliver issuer statement ∷ events) [] = []
facts_taken facts_of accepts (Event.Deliver issuer statement ∷ events) (DeliveryAnswer.Refused ∷ answers) = facts_taken facts_of accepts events answers
facts_taken facts_of accepts (Event.Deliver issuer statement ∷ events) (DeliveryAnswer.Taken ∷ answers) =
    facts_of accepts issuer statement ++ facts_taken facts_of accepts events answers

-- ---- what is held

-- a relying party: by what it judges, what it held at the start, the facts that it took since, and what it holds now
pub record Party : Type 0 where
  pub accepts : Accepts
  pub start : Holdings
  pub taken : List Fact
  pub held : Holdings

-- the facts of a slot that it held at the start or took since, in order
abbrev pub crls_seen : Party → CrlSlot → List CrlFact
crls_seen party slot = option_to_list (party.start.crl slot) ++ filter_map (crl_for slot) party.taken

abbrev pub responses_seen : Party → OcspSlot → List OcspFact
responses_seen party slot = option_to_list (party.start.ocsp slot) ++ filter_map (ocsp_for slot) party.taken

-- the party that has taken these facts since it held that: what it holds is determined
abbrev pub after_taking : Accepts → Holdings → List Fact → Party
after_taking accepts start taken = record {
  accepts = accepts;
  start = start;
  taken = taken;
  held = record {
    profile = start.profile;
    crl = λ slot. newest_in newer_crl (option_to_list (start.crl slot) ++ filter_map (crl_for slot) taken);
    ocsp = λ slot. newest_in newer_ocsp (option_to_list (start.ocsp slot) ++ filter_map (ocsp_for slot) taken);
  };
}

-- Each slot holds the newest of its facts, the first among equals; and nothing where there is none.
abbrev pub PartyHoldsNewest : Party → Type 0
PartyHoldsNewest party = HoldsNewest party.start party.taken party.held

-- What a run promises: the facts taken are those of the deliveries that were answered so, and the newest is held.
pub record HasRun (facts_of : FactsOf) (events : List Event) (answers : List DeliveryAnswer) (party : Party) : Type 0 where
  pub taken : party.taken ≡ facts_taken facts_of party.accepts events answers
  pub newest : PartyHoldsNewest party

-- ---- laws

-- One run after another is a run: what is held is the newest of what was held at the first start and taken in both.
abbrev pub RunsCompose : Type 0
RunsCompose =
    (first second : Party) → PartyHoldsNewest first → PartyHoldsNewest second → second.start ≡ first.held →
    PartyHoldsNewest (record { accepts = second.accepts; start = first.start; taken = first.taken ++ second.taken; held = second.held })

-- Whatever a party held at the start and took, something is the newest.
abbrev pub EachHoldsNewest : Type 0
EachHoldsNewest = (accepts : Accepts) (start : Holdings) (taken : List Fact) → PartyHoldsNewest (after_taking accepts start taken)

-- One event after another: a restart and a refused delivery leave what is held, and a delivery that is taken leaves the newest
-- of what was held and of its facts.
abbrev pub Proceeds : FactsOf → Accepts → Holdings → List Event → List DeliveryAnswer → Holdings → Type 0
Proceeds facts_of accepts start [] [] held = held ≡ start
Proceeds facts_of accepts start [] (answer ∷ answers) held = ⊥
Proceeds facts_of accepts start (Event.Restart ∷ events) answers held = Proceeds facts_of accepts start events answers held
Proceeds facts_of accepts start (Event.Deliver issuer statement ∷ events) [] held = ⊥
Proceeds facts_of accepts start (Event.Deliver issuer statement ∷ events) (DeliveryAnswer.Refused ∷ answers) held =
    Proceeds facts_of accepts start events answers held
Proceeds facts_of accepts start (Event.Deliver issuer statement ∷ events) (DeliveryAnswer.Taken ∷ answers) held =
    (next : Holdings)
    × PartyHoldsNewest (record { accepts = accepts; start = start; taken = facts_of accepts issuer statement; held = next })
    × Proceeds facts_of accepts next events answers held

-- so calls that each do their part make a run
abbrev pub StepsMakeARun : Type 0
StepsMakeARun =
    (facts_of : FactsOf) (accepts : Accepts) (events : List Event) (answers : List DeliveryAnswer) (start held : Holdings) →
    Proceeds facts_of accepts start events answers held →
    HasRun facts_of events answers (record { accepts = accepts; start = start; taken = facts_taken facts_of accepts events answers; held = held })
