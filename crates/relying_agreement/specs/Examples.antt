-- Examples: two parties that statements reach differently, and what goes wrong without each premise.
use Rattle.std.specs.Prelude.{◌≡◌, ℕ, pos, true, false, List, [], ◌∷◌, Some, None, if◌then◌else◌}
use Rattle.std.specs.Str.{bytes_eq}
use Rattle.sha1.specs.Sha1.{sha1}
use Rattle.cert.specs.declared.version.Version.TheVariants.{V3}
use Rattle.cert.specs.Extensions.{Extensions, no_extensions}
use Rattle.cert.specs.Place.{Place}
use Rattle.cert.specs.AlgorithmIdentifier.{AlgorithmIdentifier}
use Rattle.cert.specs.Certificate.{Certificate}
use Rattle.cert.specs.CertificatePoints.{no_points}
use Rattle.cert.specs.CertificateHosts.{no_hosts}
use Rattle.statements_facts.specs.declared.scope.Scope.TheVariants as Scope
use Rattle.statements_facts.specs.declared.single.Status.TheVariants as said
use Rattle.statements_facts.specs.Fact.{Fact}
use Rattle.statements_facts.specs.Statement.{Window, Times, CrlSlot, CrlFact, OcspSlot, OcspFact, empty_holdings}
use Rattle.path.specs.Options.{stated_options}
use Rattle.path.specs.Query.{Query, Accepts}
use Rattle.statements.specs.Issuer.{identity_of}
use Rattle.relying_agreement.specs.declared.verdict.Verdict.{Verdict}
use Rattle.relying_agreement.specs.declared.verdict.Verdict.TheVariants.{Valid}
use Rattle.relying_agreement.specs.Verdict.{IsVerdict}
use Rattle.relying_agreement.specs.Run.{Event, DeliveryAnswer, FactsOf, Party, facts_taken, after_taking, PartyHoldsNewest, HasRun}
use Rattle.relying_agreement.specs.Agreement.{AllAreConsistent, HoldSameNewest, IssuersAreConsistent}

-- ---- a path of one certificate below its anchor, with serial 05

-- what an example's certificate does not tell
abbrev pub nowhere : Place
nowhere = record { octets = []; at = 0 }

abbrev pub no_algorithm : AlgorithmIdentifier
no_algorithm = record { value = nowhere; oid = [] }

-- a certificate that is valid for long, whose key and issuer field are of one octet; all names are empty, and match
abbrev pub plain : ℕ → ℕ → ℕ → Extensions → Certificate
plain key issuer serial extensions = record {
  octets = [];
  tbs = nowhere;
  version = V3;
  serial = record { octets = 0x02 ∷ 1 ∷ serial ∷ []; at = 0 };
  algorithm = no_algorithm;
  issuer = record { octets = issuer ∷ []; at = 0; rdns = [] };
  validity = record { not_before = pos 0; not_after = pos 4000000000 };
  subject = record { octets = key ∷ []; at = 0; rdns = [] };
  key_info = record { value = record { octets = key ∷ []; at = 0 }; algorithm = no_algorithm; key = record { value = nowhere; octets = key ∷ [] } };
  extensions = extensions;
  signature = record { value = nowhere; octets = [] };
  points = no_points;
  hosts = no_hosts;
}

-- the anchor R, 82, and below it T, 84
abbrev pub anchor : Certificate
anchor = plain 82 82 1 no_extensions

abbrev pub target : Certificate
target = plain 84 82 5 no_extensions

abbrev pub query : Query
query = record { anchor = anchor; certificates = target ∷ []; moment = pos 100; purpose = None; options = stated_options }

abbrev pub list_slot : CrlSlot
list_slot = record { issuer = identity_of anchor; scope = Scope.All }

abbrev pub response_slot : OcspSlot
response_slot = record { issuer = identity_of anchor; name_hash = sha1 (82 ∷ []); serial = 5 ∷ [] }

abbrev pub window : Window
window = record { from = pos 50; until = pos 150 }

-- a list that has no entry, and one that lists serial 05 with reason 1
abbrev pub crl_numbered : ℕ → CrlFact
crl_numbered number = record { number = number; window = window; reasons = λ serial. None }

abbrev pub crl_with_entry : ℕ → CrlFact
crl_with_entry number = record { number = number; window = window; reasons = λ serial. if bytes_eq serial (5 ∷ []) then Some 1 else None }

abbrev pub good_at : Times → OcspFact
good_at times = record { times = times; window = window; status = said.Good }

abbrev pub given_crl : CrlFact → Fact
given_crl fact = Fact.OfCrl list_slot fact

-- ---- statements: one octet is a list of that number, two are a response of these times

abbrev pub facts_of_example : FactsOf
facts_of_example accepts certificate [] = []
facts_of_example accepts certificate (number ∷ []) = Fact.OfCrl list_slot (crl_numbered number) ∷ []
facts_of_example accepts certificate (this ∷ produced ∷ more) =
    Fact.OfResponse response_slot (good_at (record { this_update = pos this; produced_at = pos produced })) ∷ []

abbrev pub delivered : List ℕ → Event
delivered statement = Event.Deliver (82 ∷ []) statement

-- lists 1, 2, 3 and two responses, in order
abbrev pub events_of_one : List Event
events_of_one = delivered (1 ∷ []) ∷ delivered (2 ∷ []) ∷ delivered (60 ∷ 60 ∷ []) ∷ delivered (3 ∷ []) ∷ delivered (70 ∷ 71 ∷ []) ∷ []

abbrev pub answers_of_one : List DeliveryAnswer
answers_of_one = DeliveryAnswer.Taken ∷ DeliveryAnswer.Taken ∷ DeliveryAnswer.Taken ∷ DeliveryAnswer.Taken ∷ DeliveryAnswer.Taken ∷ []

-- the second response, list 3, a restart, list 1 twice, and list 9, which is refused; list 2 and the first response are lost
abbrev pub events_of_other : List Event
events_of_other =
    delivered (70 ∷ 71 ∷ []) ∷ delivered (3 ∷ []) ∷ Event.Restart ∷ delivered (1 ∷ []) ∷ delivered (1 ∷ []) ∷ delivered (9 ∷ []) ∷ []

abbrev pub answers_of_other : List DeliveryAnswer
answers_of_other = DeliveryAnswer.Taken ∷ DeliveryAnswer.Taken ∷ DeliveryAnswer.Taken ∷ DeliveryAnswer.Taken ∷ DeliveryAnswer.Refused ∷ []

abbrev pub accepts_all : Accepts
accepts_all algorithm key message signature = true

abbrev pub accepts_none : Accepts
accepts_none algorithm key message signature = false

abbrev pub starting : Accepts → List Fact → Party
starting accepts taken = after_taking accepts empty_holdings taken

abbrev pub one : Party
one = starting accepts_all (facts_taken facts_of_example accepts_all events_of_one answers_of_one)

abbrev pub other : Party
other = starting accepts_all (facts_taken facts_of_example accepts_all events_of_other answers_of_other)

-- All premises hold of two parties that the statements reach in different ways, and both verdicts are `Valid`.
pub record AllPremisesHold : Type 0 where
  pub one_verifier : one.accepts ≡ other.accepts
  pub one_ran : HasRun facts_of_example events_of_one answers_of_one one
  pub other_ran : HasRun facts_of_example events_of_other answers_of_other other
  pub consistent : IssuersAreConsistent query one other
  pub same_newest : HoldSameNewest query one.held other.held
  pub one_is_valid : IsVerdict one.accepts query one.held Valid
  pub other_is_valid : IsVerdict other.accepts query other.held Valid

-- A stranger, with a key of its own, gives two lists of one number that differ: not all issuers are consistent, but those of the
-- path are.
abbrev pub stranger_slot : CrlSlot
stranger_slot = record { issuer = record { name = []; key_info = 88 ∷ [] }; scope = Scope.All }

abbrev pub stranger_gives : CrlFact → Fact
stranger_gives fact = Fact.OfCrl stranger_slot fact

abbrev pub stranger_first : Party
stranger_first = starting accepts_all (stranger_gives (crl_numbered 1) ∷ given_crl (crl_numbered 3) ∷ [])

abbrev pub stranger_last : Party
stranger_last = starting accepts_all (given_crl (crl_numbered 3) ∷ stranger_gives (crl_with_entry 1) ∷ [])

pub record StrangersDoNotMatter : Type 0 where
  pub not_all : ¬ (AllAreConsistent stranger_first stranger_last)
  pub consistent : IssuersAreConsistent query stranger_first stranger_last

-- ---- without a premise

-- the verdicts of the two differ
pub record Disagree (a b : Party) : Type 0 where
  pub v : Verdict
  pub w : Verdict
  pub is_v : IsVerdict a.accepts query a.held v
  pub is_w : IsVerdict b.accepts query b.held w
  pub differ : ¬ (v ≡ w)

-- two lists of number 5: the number is the same, one lists the serial number
pub record NeedsConsistency : Type 0 where
  pub a : Party
  pub b : Party
  pub one_verifier : a.accepts ≡ b.accepts
  pub a_newest : PartyHoldsNewest a
  pub b_newest : PartyHoldsNewest b
  pub same_newest : HoldSameNewest query a.held b.held
  pub disagree : Disagree a b

-- a list is lost
pub record NeedsSameNewest : Type 0 where
  pub a : Party
  pub b : Party
  pub one_verifier : a.accepts ≡ b.accepts
  pub a_newest : PartyHoldsNewest a
  pub b_newest : PartyHoldsNewest b
  pub consistent : IssuersAreConsistent query a b
  pub disagree : Disagree a b

-- one holds what it never took
pub record NeedsHoldsNewest : Type 0 where
  pub a : Party
  pub b : Party
  pub one_verifier : a.accepts ≡ b.accepts
  pub a_newest : PartyHoldsNewest a
  pub consistent : IssuersAreConsistent query a b
  pub same_newest : HoldSameNewest query a.held b.held
  pub disagree : Disagree a b

-- one verifier denies what the other accepts
pub record NeedsOneVerifier : Type 0 where
  pub a : Party
  pub b : Party
  pub a_newest : PartyHoldsNewest a
  pub b_newest : PartyHoldsNewest b
  pub consistent : IssuersAreConsistent query a b
  pub same_newest : HoldSameNewest query a.held b.held
  pub disagree : Disagree a b
