-- What becomes of facts that come to a store, one after the other (RFC 5280, 5.2.3; RFC 6960, 2.4).
use Rattle.std.specs.Prelude.{⊤, ◌≡◌, ◌≢◌, ℕ, ◌+◌, Bool, true, false, List, [], ◌∷◌, ◌++◌, Option, Some, None, IsTrue, if◌then◌else◌}
use Rattle.std.specs.List.{filter_map}
use Rattle.std.specs.Option.{option_to_list}
use Rattle.statements_facts.specs.Statement.{Holdings, CrlSlot, CrlFact, OcspSlot, OcspFact, same_crl_slot, same_ocsp_slot}
use Rattle.statements_facts.specs.Fact.{Fact}
use Rattle.statements_facts.specs.declared.counts.TakenAs.{TakenAs}
use Rattle.statements_facts.specs.declared.counts.TakenAs.TheVariants.{Stored, Kept, Contradicted}
use Rattle.statements_facts.specs.declared.counts.Counts.{Counts}
use Rattle.statements_facts.specs.Newest.{newer_crl, newer_ocsp, newest_in}

-- ---- one fact

-- a fact is stored where its slot is empty, or it is newer than what is held there
abbrev pub is_stored : {Said : Type 0} → (Said → Said → Bool) → Option Said → Said → Bool
is_stored newer None fact = true
is_stored newer (Some held) fact = newer fact held

-- a list contradicts one of the same number that says something else: another window, or other serial numbers or reasons
abbrev pub ContradictsCrl : Option CrlFact → CrlFact → Type 0
ContradictsCrl None fact = ⊥
ContradictsCrl (Some held) fact = (fact.number ≡ held.number) × (fact ≢ held)

-- and a response contradicts one of the same times that says something else: another window, or another status or reason
abbrev pub ContradictsOcsp : Option OcspFact → OcspFact → Type 0
ContradictsOcsp None fact = ⊥
ContradictsOcsp (Some held) fact = (fact.times ≡ held.times) × (fact ≢ held)

-- what becomes of a fact beside what is held in its slot: one that is neither stored nor contradicts is kept out, and no more
abbrev pub IsTakenBeside : {Said : Type 0} → (Said → Said → Bool) → (Option Said → Said → Type 0) → Option Said → Said → TakenAs → Type 0
IsTakenBeside newer Contradicts held fact Stored = IsTrue (is_stored newer held fact)
IsTakenBeside newer Contradicts held fact Kept = (¬ IsTrue (is_stored newer held fact)) × (¬ Contradicts held fact)
IsTakenBeside newer Contradicts held fact Contradicted = Contradicts held fact

abbrev pub CrlIsTakenAs : Option CrlFact → CrlFact → TakenAs → Type 0
CrlIsTakenAs = IsTakenBeside newer_crl ContradictsCrl

abbrev pub OcspIsTakenAs : Option OcspFact → OcspFact → TakenAs → Type 0
OcspIsTakenAs = IsTakenBeside newer_ocsp ContradictsOcsp

abbrev pub IsTakenAs : Holdings → Fact → TakenAs → Type 0
IsTakenAs held (Fact.OfCrl slot fact) outcome = CrlIsTakenAs (held.crl slot) fact outcome
IsTakenAs held (Fact.OfResponse slot fact) outcome = OcspIsTakenAs (held.ocsp slot) fact outcome

-- one more list, in the place of what its slot held
abbrev pub with_crl_fact : Holdings → CrlSlot → CrlFact → Holdings
with_crl_fact held slot fact = record held { crl = λ other. if same_crl_slot slot other then Some fact else held.crl other }

-- what is said of one more certificate, in the place of what its slot held
abbrev pub with_ocsp_fact : Holdings → OcspSlot → OcspFact → Holdings
with_ocsp_fact held slot fact = record held { ocsp = λ other. if same_ocsp_slot slot other then Some fact else held.ocsp other }

-- a fact that is stored takes its slot; else all that was held stays
abbrev pub after_one : Holdings → Fact → Holdings
after_one held (Fact.OfCrl slot fact) = if is_stored newer_crl (held.crl slot) fact then with_crl_fact held slot fact else held
after_one held (Fact.OfResponse slot fact) = if is_stored newer_ocsp (held.ocsp slot) fact then with_ocsp_fact held slot fact else held

-- ---- facts in turn

abbrev pub after_all : Holdings → List Fact → Holdings
after_all held [] = held
after_all held (fact ∷ facts) = after_all (after_one held fact) facts

abbrev pub ComeTo : Holdings → List Fact → List TakenAs → Type 0
ComeTo held [] [] = ⊤
ComeTo held (fact ∷ facts) (outcome ∷ outcomes) = IsTakenAs held fact outcome × ComeTo (after_one held fact) facts outcomes
ComeTo held [] (outcome ∷ outcomes) = ⊥
ComeTo held (fact ∷ facts) [] = ⊥

abbrev pub same_outcome : TakenAs → TakenAs → Bool
same_outcome Stored Stored = true
same_outcome Kept Kept = true
same_outcome Contradicted Contradicted = true
same_outcome _ _ = false

abbrev pub how_often : TakenAs → List TakenAs → ℕ
how_often outcome [] = 0
how_often outcome (other ∷ others) = how_often outcome others + (if same_outcome outcome other then 1 else 0)

abbrev pub count_taken_as : TakenAs → Counts → ℕ
count_taken_as Stored counts = counts.stored
count_taken_as Kept counts = counts.kept
count_taken_as Contradicted counts = counts.contradicted

-- the counts after one more of these outcomes, whose number is one greater, while the others stay
abbrev pub HaveOneMore : TakenAs → Counts → Counts → Type 0
HaveOneMore outcome before after = (each : TakenAs) → count_taken_as each after ≡ count_taken_as each before + (if same_outcome each outcome then 1 else 0)

abbrev pub total_of : Counts → ℕ
total_of counts = counts.stored + counts.kept + counts.contradicted

-- of these facts so many are stored, kept out, and contradict what is held when they come
pub record AreCounts (held : Holdings) (facts : List Fact) (counts : Counts) : Type 0 where
  pub outcomes : List TakenAs
  pub come : ComeTo held facts outcomes
  pub counted : (outcome : TakenAs) → count_taken_as outcome counts ≡ how_often outcome outcomes

-- ---- what is held then

-- the fact of a list, where it is for the slot
abbrev pub crl_for : CrlSlot → Fact → Option CrlFact
crl_for slot (Fact.OfCrl for fact) = if same_crl_slot for slot then Some fact else None
crl_for slot (Fact.OfResponse for fact) = None

abbrev pub ocsp_for : OcspSlot → Fact → Option OcspFact
ocsp_for slot (Fact.OfCrl for fact) = None
ocsp_for slot (Fact.OfResponse for fact) = if same_ocsp_slot for slot then Some fact else None

-- Each slot holds the newest of what it held at the start and of what came since, the first among equals; and nothing where
-- there is none. The profile stays.
pub record HoldsNewest (start : Holdings) (came : List Fact) (held : Holdings) : Type 0 where
  pub profile : held.profile ≡ start.profile
  pub crl : (slot : CrlSlot) → held.crl slot ≡ newest_in newer_crl (option_to_list (start.crl slot) ++ filter_map (crl_for slot) came)
  pub ocsp : (slot : OcspSlot) → held.ocsp slot ≡ newest_in newer_ocsp (option_to_list (start.ocsp slot) ++ filter_map (ocsp_for slot) came)

-- ---- laws

-- a fact comes to one thing
abbrev pub ComesAsOne : Type 0
ComesAsOne = (held : Holdings) (fact : Fact) (one other : TakenAs) → IsTakenAs held fact one → IsTakenAs held fact other → one ≡ other

abbrev pub TakingHoldsNewest : Type 0
TakingHoldsNewest = (start : Holdings) (came : List Fact) → HoldsNewest start came (after_all start came)

-- one delivery and then another is both together
abbrev pub TakesBoth : Type 0
TakesBoth = (start : Holdings) (one other : List Fact) → after_all (after_all start one) other ≡ after_all start (one ++ other)

-- where none of them is stored, all that was held stays
abbrev pub KeptLeaveAll : Type 0
KeptLeaveAll = (held : Holdings) (facts : List Fact) (counts : Counts) → AreCounts held facts counts → counts.stored ≡ 0 → after_all held facts ≡ held
