-- What two parties hold that took the facts of an issuer in different orders.
use Rattle.std.proofs.Common.{◌≡◌, ◌∙◌, ℕ, true, List, [], ◌∷◌, ◌++◌, Some, None, refl, sym, ap, subst}
use Rattle.std.specs.List.{AllByRecursion}
use Rattle.std.specs.Str.{bytes_eq}
use Rattle.std.proofs.lemmas.List.Elements.{All-contains, All-from_recursion}
use Rattle.statements_facts.specs.declared.scope.Scope.{Scope}
use Rattle.statements_facts.specs.declared.scope.Scope.TheVariants.{All, User}
use Rattle.statements_facts.specs.Fact.{Fact}
use Rattle.statements_facts.specs.Statement.{IssuerIdentity, CrlSlot, CrlFact, OcspSlot, OcspFact, Holdings, same_issuer, empty_holdings}
use Rattle.relying_agreement.specs.Run.{FactsOf, Party, PartyHoldsNewest, facts_taken, after_taking, crls_seen, responses_seen}
use Rattle.relying_agreement.specs.Agreement.{CrlsAreConsistent, ResponsesAreConsistent}
use Rattle.test_premises.specs.Octets.{anchor_der, list_1, list_2, response_der}
use Rattle.test_premises.specs.Premises.{accepts_toys, deliveries_to_one, answers_to_one, deliveries_to_other, answers_to_other}
use Rattle.test_premises.proofs.StatementReading.{crl, good, list_of, response_of}

abbrev pub one : IssuerIdentity → List ℕ → Party
one issuer hash = after_taking accepts_toys empty_holdings (list_of issuer 1 ∷ list_of issuer 2 ∷ response_of issuer hash ∷ [])

abbrev pub other : IssuerIdentity → List ℕ → Party
other issuer hash = after_taking accepts_toys empty_holdings (response_of issuer hash ∷ list_of issuer 2 ∷ list_of issuer 1 ∷ [])

-- what was taken, where the statements say these facts
pub one_takes : (facts_of : FactsOf) (issuer : IssuerIdentity) (hash : List ℕ) → facts_of accepts_toys anchor_der list_1 ≡ list_of issuer 1 ∷ []
    → facts_of accepts_toys anchor_der list_2 ≡ list_of issuer 2 ∷ [] → facts_of accepts_toys anchor_der response_der ≡ response_of issuer hash ∷ []
    → (one issuer hash).taken ≡ facts_taken facts_of accepts_toys deliveries_to_one answers_to_one
one_takes facts_of issuer hash first second third = rw (first, second, third) refl

pub other_takes : (facts_of : FactsOf) (issuer : IssuerIdentity) (hash : List ℕ) → facts_of accepts_toys anchor_der list_1 ≡ list_of issuer 1 ∷ []
    → facts_of accepts_toys anchor_der list_2 ≡ list_of issuer 2 ∷ [] → facts_of accepts_toys anchor_der response_der ≡ response_of issuer hash ∷ []
    → (other issuer hash).taken ≡ facts_taken facts_of accepts_toys deliveries_to_other answers_to_other
other_takes facts_of issuer hash first second third = rw (first, second, third) refl

pub newest : (taken : List Fact) → PartyHoldsNewest (after_taking accepts_toys empty_holdings taken)
newest taken = record { profile = refl; crl = λ slot. refl; ocsp = λ slot. refl }

-- lists of these numbers, whichever they are, are consistent
lists_are : (xs : List CrlFact) → AllByRecursion (λ fact. fact ≡ crl fact.number) xs → CrlsAreConsistent xs
lists_are xs all f g in_f in_g same =
    let each = All-from_recursion (λ (fact : CrlFact). fact ≡ crl fact.number) xs all in
    All-contains (λ (fact : CrlFact). fact ≡ crl fact.number) xs f each in_f ∙ ap crl same ∙ sym (All-contains (λ (fact : CrlFact). fact ≡ crl fact.number) xs g each in_g)

responses_are : (xs : List OcspFact) → AllByRecursion (λ fact. fact ≡ good) xs → ResponsesAreConsistent xs
responses_are xs all f g in_f in_g same =
    let each = All-from_recursion (λ (fact : OcspFact). fact ≡ good) xs all in
    All-contains (λ (fact : OcspFact). fact ≡ good) xs f each in_f ∙ sym (All-contains (λ (fact : OcspFact). fact ≡ good) xs g each in_g)

-- What both hold and saw of a certificate of the issuer, with serial number 05. The issuer, and the hash, are equal to themselves.
module _ (issuer : IssuerIdentity) (hash : List ℕ) (itself : same_issuer issuer issuer ≡ true) (same_hash : bytes_eq hash hash ≡ true) where
  abbrev slot : Scope → CrlSlot
  slot scope = record { issuer = issuer; scope = scope }

  abbrev response_slot : OcspSlot
  response_slot = record { issuer = issuer; name_hash = hash; serial = 5 ∷ [] }

  lists_seen : crls_seen (one issuer hash) (slot All) ++ crls_seen (other issuer hash) (slot All) ≡ crl 1 ∷ crl 2 ∷ crl 2 ∷ crl 1 ∷ []
  lists_seen = rw itself refl

  no_others_seen : crls_seen (one issuer hash) (slot User) ++ crls_seen (other issuer hash) (slot User) ≡ []
  no_others_seen = rw itself refl

  both_responses_seen : responses_seen (one issuer hash) response_slot ++ responses_seen (other issuer hash) response_slot ≡ good ∷ good ∷ []
  both_responses_seen = rw (itself, same_hash) refl

  pub all_consistent : CrlsAreConsistent (crls_seen (one issuer hash) (slot All) ++ crls_seen (other issuer hash) (slot All))
  all_consistent = subst CrlsAreConsistent (sym lists_seen) (lists_are (crl 1 ∷ crl 2 ∷ crl 2 ∷ crl 1 ∷ []) (refl, (refl, (refl, (refl, tt)))))

  pub own_consistent : CrlsAreConsistent (crls_seen (one issuer hash) (slot User) ++ crls_seen (other issuer hash) (slot User))
  own_consistent = subst CrlsAreConsistent (sym no_others_seen) (lists_are [] tt)

  pub responses_consistent : ResponsesAreConsistent (responses_seen (one issuer hash) response_slot ++ responses_seen (other issuer hash) response_slot)
  responses_consistent = subst ResponsesAreConsistent (sym both_responses_seen) (responses_are (good ∷ good ∷ []) (refl, (refl, tt)))

  -- what a party holds: list 2 of all certificates, no other list, and the response
  pub record Holds (held : Holdings) : Type 0 where
    pub all : held.crl (slot All) ≡ Some (crl 2)
    pub own : held.crl (slot User) ≡ None
    pub ocsp : held.ocsp response_slot ≡ Some good

  pub one_holds : Holds (one issuer hash).held
  one_holds = record { all = rw itself refl; own = rw itself refl; ocsp = rw (itself, same_hash) refl }

  pub other_holds : Holds (other issuer hash).held
  other_holds = record { all = rw itself refl; own = rw itself refl; ocsp = rw (itself, same_hash) refl }
