-- Two relying parties that octets reach in different ways, and on which all premises of agreement hold.
use Rattle.std.specs.Prelude.{◌≡◌, ℕ, pos, List, [], ◌∷◌, None, Ok}
use Rattle.std.specs.Str.{bytes_eq}
use Rattle.cert.specs.Certificate.{Certificate, certificate}
use Rattle.statements_facts.specs.declared.profile.Profile.TheVariants.{Stated}
use Rattle.statements_facts.specs.Statement.{empty_holdings}
use Rattle.path.specs.Options.{stated_options}
use Rattle.path.specs.Query.{Query, Accepts}
use Rattle.vectors.specs.ToySignature.{toy_signature_of}
use Rattle.relying_agreement.specs.declared.verdict.Verdict.TheVariants.{Valid}
use Rattle.relying_agreement.specs.Verdict.{IsVerdict}
use Rattle.relying_agreement.specs.Run.{Event, DeliveryAnswer, Party, genuine_facts, HasRun}
use Rattle.relying_agreement.specs.Agreement.{HoldSameNewest, IssuersAreConsistent}
use Rattle.test_premises.specs.Octets.{anchor_der, target_der, list_1, list_2, response_der}

-- the signatures are the digests of the key and the message
abbrev pub accepts_toys : Accepts
accepts_toys algorithm key message signature = bytes_eq signature (toy_signature_of key message)

abbrev pub delivery_of : List ℕ → Event
delivery_of statement = Event.Deliver anchor_der statement

-- list 1, list 2 and the response, in order
abbrev pub deliveries_to_one : List Event
deliveries_to_one = delivery_of list_1 ∷ delivery_of list_2 ∷ delivery_of response_der ∷ []

abbrev pub answers_to_one : List DeliveryAnswer
answers_to_one = DeliveryAnswer.Taken ∷ DeliveryAnswer.Taken ∷ DeliveryAnswer.Taken ∷ []

-- the response, list 2, a restart, list 1, which comes late, and the certificate of T, which is no statement and is refused
abbrev pub deliveries_to_other : List Event
deliveries_to_other =
    delivery_of response_der ∷ delivery_of list_2 ∷ Event.Restart ∷ delivery_of list_1 ∷ delivery_of target_der ∷ []

abbrev pub answers_to_other : List DeliveryAnswer
answers_to_other = DeliveryAnswer.Taken ∷ DeliveryAnswer.Taken ∷ DeliveryAnswer.Taken ∷ DeliveryAnswer.Refused ∷ []

-- The question: whether T is valid under R on 2025-06-15, in the stated profile. The certificates are read from the octets. The parties hold
-- nothing at the start, judge signatures by one relation, and take what statements say that are genuine in the stated profile.
pub record AllPremisesHoldOfOctets : Type 0 where
  pub root : Certificate
  pub leaf : Certificate
  pub root_is_read : certificate anchor_der ≡ Ok root
  pub leaf_is_read : certificate target_der ≡ Ok leaf
  pub query : Query
  pub query_is : query ≡ record { anchor = root; certificates = leaf ∷ []; moment = pos 1749945600; purpose = None; options = stated_options }
  pub one : Party
  pub other : Party
  pub one_starts : one.start ≡ empty_holdings
  pub other_starts : other.start ≡ empty_holdings
  pub one_accepts : one.accepts ≡ accepts_toys
  pub other_accepts : other.accepts ≡ accepts_toys
  pub one_ran : HasRun (genuine_facts Stated) deliveries_to_one answers_to_one one
  pub other_ran : HasRun (genuine_facts Stated) deliveries_to_other answers_to_other other
  pub consistent : IssuersAreConsistent query one other
  pub same_newest : HoldSameNewest query one.held other.held
  pub one_is_valid : IsVerdict one.accepts query one.held Valid
  pub other_is_valid : IsVerdict other.accepts query other.held Valid
