-- Whether a certificate is revoked, and whether a statement speaks of it (RFC 5280, 6.3.3; RFC 6960, 2.2 and 3.2).
use Rattle.std.specs.Prelude.{◌≡◌, ◌⊎◌, ◌==◌, ◌||◌, ◌&&◌, ◌++◌, ℕ, ℤ, ◌≤ℤ◌, int_le, Bool, true, false, List, [], ◌∷◌, Option, Some, None, map, option_map, option_and_then, is_some, if◌then◌else◌, IsTrue, IsSome, Any}
use Rattle.std.specs.List.{AllByRecursion, list_any}
use Rattle.std.specs.Option.{option_or}
use Rattle.cert.specs.Place.{body}
use Rattle.cert.specs.KeyUsage.{has_bit}
use Rattle.cert.specs.Certificate.{Certificate}
use Rattle.statements_facts.specs.declared.single.Status.{Status}
use Rattle.statements_facts.specs.declared.single.Status.TheVariants as said
use Rattle.sha1.specs.Sha1.{sha1}
use Rattle.statements_facts.specs.Statement.{IssuerIdentity, Window, CrlSlot, CrlFact, CrlAnswer, OcspFact, Holdings, answer_for}
use Rattle.statements.specs.Issuer.{identity_of}
use Rattle.relying_agreement.specs.Link.{Link, complete_slots, limited_slots, complete_slots_of, crl_slots_of, ocsp_slot_for}

-- thisUpdate is not after the moment, nextUpdate not before it (RFC 5280, 6.3.3 (a); RFC 6960, 3.2)
abbrev pub IsCurrent : Window → ℤ → Type 0
IsCurrent window moment = (window.from ≤ℤ moment) × (moment ≤ℤ window.until)

abbrev pub is_current : Window → ℤ → Bool
is_current window moment = int_le window.from moment && int_le moment window.until

-- where there is a keyUsage, it has cRLSign (6) (4.2.1.3)
abbrev pub has_crl_sign : Option (List ℕ) → Bool
has_crl_sign None = true
has_crl_sign (Some bits) = has_bit bits 6

-- The issuer may sign lists: it is the anchor, or has no keyUsage, or one with cRLSign (6.3.3 (f)).
abbrev pub may_sign_crls : Link → Bool
may_sign_crls link = link.number == 1 || has_crl_sign link.issuer.extensions.key_usage

-- ---- what a store answers of a certificate

-- the list in a slot, and its entry for one serial number
abbrev pub list_held : Holdings → List ℕ → CrlSlot → Option CrlAnswer
list_held held serial slot = option_map (answer_for serial) (held.crl slot)

-- the lists that may revoke a certificate, in the order of their slots, and the response
pub record Answers : Type 0 where
  -- whole lists, and those at complete points
  pub lists : List (Option CrlAnswer)
  -- those at limited points
  pub limited : List (Option CrlAnswer)
  pub ocsp : Option OcspFact

-- the answers on a certificate of the issuer
abbrev pub answers_held : Holdings → IssuerIdentity → Certificate → Answers
answers_held held issuer certificate = record {
  lists = map (list_held held (body certificate.serial)) (complete_slots issuer certificate);
  limited = map (list_held held (body certificate.serial)) (limited_slots issuer certificate);
  ocsp = held.ocsp (record { issuer = issuer; name_hash = sha1 certificate.issuer.octets; serial = body certificate.serial });
}

abbrev pub answers_of : Holdings → Link → Answers
answers_of held link = answers_held held (identity_of link.issuer) link.certificate

-- what bears on a certificate: its number, whether its issuer may sign lists, and what is held
pub record Evidence : Type 0 where
  pub number : ℕ
  pub may_sign_crls : Bool
  pub answers : Answers

abbrev pub evidence_of : Holdings → Link → Evidence
evidence_of held link = record { number = link.number; may_sign_crls = may_sign_crls link; answers = answers_of held link }

-- ---- which of it counts, and what it says

abbrev pub kept_if : {A : Type 0} → (A → Bool) → Option A → Option A
kept_if test None = None
kept_if test (Some x) = if test x then Some x else None

-- a list counts where it is current and its issuer may sign lists
abbrev pub crl_that_counts : ℤ → Bool → Option CrlAnswer → Option CrlAnswer
crl_that_counts moment may_sign = kept_if (λ crl. may_sign && is_current crl.window moment)

-- a response counts where it is current
abbrev pub ocsp_that_counts : ℤ → Option OcspFact → Option OcspFact
ocsp_that_counts moment = kept_if (λ response. is_current response.window moment)

abbrev pub reason_of_status : Status → Option ℕ
reason_of_status said.Good = None
reason_of_status (said.Revoked reason) = Some reason
reason_of_status said.Unknown = None

abbrev pub is_good : Status → Bool
is_good said.Good = true
is_good (said.Revoked reason) = false
is_good said.Unknown = false

-- the reason that a list gives, where it counts and lists the certificate
abbrev pub crl_reason : ℤ → Bool → Option CrlAnswer → Option ℕ
crl_reason moment may_sign crl = option_and_then (λ counted. counted.reason) (crl_that_counts moment may_sign crl)

-- the reason that a response gives, where it counts and says that the certificate is revoked
abbrev pub ocsp_reason : ℤ → Option OcspFact → Option ℕ
ocsp_reason moment response = option_and_then (λ counted. reason_of_status counted.status) (ocsp_that_counts moment response)

-- the reason of the first list that gives one
abbrev pub listed_reason : ℤ → Bool → List (Option CrlAnswer) → Option ℕ
listed_reason moment may_sign [] = None
listed_reason moment may_sign (crl ∷ crls) = option_or (crl_reason moment may_sign crl) (listed_reason moment may_sign crls)

-- that of the lists, of which those at limited points come last, else of the response
abbrev pub deciding_reason : ℤ → Evidence → Option ℕ
deciding_reason moment it =
    option_or (listed_reason moment it.may_sign_crls (it.answers.lists ++ it.answers.limited)) (ocsp_reason moment it.answers.ocsp)

abbrev pub has_good_response : ℤ → Option OcspFact → Bool
has_good_response moment response = is_some (kept_if (λ counted. is_good counted.status) (ocsp_that_counts moment response))

-- a whole list or one at a complete point counts, or a response that says good does
abbrev pub is_covered_by : ℤ → Evidence → Bool
is_covered_by moment it =
    list_any (λ crl. is_some (crl_that_counts moment it.may_sign_crls crl)) it.answers.lists
    || has_good_response moment it.answers.ocsp

-- ---- the same in words

-- The list of a slot is held, is current, and its issuer may sign lists.
pub record CrlCounts (held : Holdings) (moment : ℤ) (link : Link) (slot : CrlSlot) (fact : CrlFact) : Type 0 where
  pub is_held : held.crl slot ≡ Some fact
  pub may_sign : IsTrue (may_sign_crls link)
  pub current : IsCurrent fact.window moment

-- A response that speaks of the certificate is held, and is current.
pub record OcspCounts (held : Holdings) (moment : ℤ) (link : Link) (fact : OcspFact) : Type 0 where
  pub is_held : held.ocsp (ocsp_slot_for link) ≡ Some fact
  pub current : IsCurrent fact.window moment

-- a list counts, and lists the certificate
abbrev pub SomeCrlLists : Holdings → ℤ → Link → CrlSlot → Type 0
SomeCrlLists held moment link slot =
    (fact : CrlFact) × CrlCounts held moment link slot fact × IsSome (fact.reasons (body link.certificate.serial))

-- a statement that counts, and speaks of the certificate, says that it is revoked
abbrev pub SomeRevokes : Holdings → ℤ → Link → Type 0
SomeRevokes held moment link =
    Any (SomeCrlLists held moment link) (crl_slots_of link)
    ⊎ ((fact : OcspFact) × OcspCounts held moment link fact × IsSome (reason_of_status fact.status))

-- the list of a slot counts, and lists the certificate for this reason
pub record CrlRevokes (held : Holdings) (moment : ℤ) (link : Link) (slot : CrlSlot) (reason : ℕ) : Type 0 where
  pub fact : CrlFact
  pub counts : CrlCounts held moment link slot fact
  pub listed : fact.reasons (body link.certificate.serial) ≡ Some reason

abbrev pub IsNotListed : Holdings → ℤ → Link → CrlSlot → Type 0
IsNotListed held moment link slot = (reason : ℕ) → ¬ (CrlRevokes held moment link slot reason)

-- of the lists of these slots the first that counts and lists the certificate does so for this reason
abbrev pub FirstCrlRevokes : Holdings → ℤ → Link → List CrlSlot → ℕ → Type 0
FirstCrlRevokes held moment link [] reason = ⊥
FirstCrlRevokes held moment link (slot ∷ slots) reason =
    CrlRevokes held moment link slot reason
    ⊎ (IsNotListed held moment link slot × FirstCrlRevokes held moment link slots reason)

-- the response counts, and says that the certificate is revoked for this reason
pub record OcspRevokes (held : Holdings) (moment : ℤ) (link : Link) (reason : ℕ) : Type 0 where
  pub fact : OcspFact
  pub counts : OcspCounts held moment link fact
  pub status : fact.status ≡ said.Revoked reason

-- Revoked, and why: the first of the lists that say so, else the response.
abbrev pub IsRevoked : Holdings → ℤ → Link → ℕ → Type 0
IsRevoked held moment link reason =
    FirstCrlRevokes held moment link (crl_slots_of link) reason
    ⊎ (AllByRecursion (IsNotListed held moment link) (crl_slots_of link) × OcspRevokes held moment link reason)

abbrev pub SomeCrlCounts : Holdings → ℤ → Link → CrlSlot → Type 0
SomeCrlCounts held moment link slot = (fact : CrlFact) × CrlCounts held moment link slot fact

-- a whole list that speaks of the certificate or one at a complete point counts, or a response that says good
abbrev pub IsCovered : Holdings → ℤ → Link → Type 0
IsCovered held moment link =
    Any (SomeCrlCounts held moment link) (complete_slots_of link)
    ⊎ ((fact : OcspFact) × OcspCounts held moment link fact × (fact.status ≡ said.Good))
