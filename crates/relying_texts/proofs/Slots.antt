-- The facts of one slot among those that a statement tells.
use Rattle.std.proofs.Common.{◌≡◌, ◌&&◌, ◌||◌, Bool, true, false, List, [], ◌∷◌, map, Option, Some, None, filter_map, if◌then◌else◌, inl, inr, refl, sym, ap, ◌∙◌}
use Rattle.std.proofs.lemmas.Bool.{cases_Bool}
use Rattle.std.specs.List.{cons_option, list_any}
use Rattle.std.specs.Option.{option_to_list}
use Rattle.statements_facts.specs.declared.scope.Scope.{Scope}
use Rattle.statements_facts.specs.Fact.{list_facts, slot_for}
use Rattle.statements_facts.specs.Statement.{IssuerIdentity, CrlSlot, CrlFact, OcspSlot, OcspFact, same_crl_slot, same_issuer}
use Rattle.statements_facts.specs.Single.{SingleFact}
use Rattle.statements_facts.specs.Coming.{crl_for, ocsp_for}
use Rattle.statements_facts.specs.Newest.{held_after, newer_crl, newer_ocsp, newer_of}
use Rattle.statements.specs.OcspFact.{fact_with}
use Rattle.relying_texts.specs.View.{single_for, singles_for}

-- ---- lists

-- a fact that came is not newer than itself
twice : (held : Option CrlFact) (fact : CrlFact) → newer_of newer_crl (newer_of newer_crl held fact) fact ≡ newer_of newer_crl held fact
twice None fact = itself (newer_crl fact fact)
  where
    itself : (b : Bool) → (if b then Some fact else Some fact) ≡ Some fact
    itself true = refl
    itself false = refl
twice (Some held) fact = by (newer_crl fact held) (newer_crl fact fact) refl
  where
    by : (b c : Bool) → newer_crl fact held ≡ b → newer_of newer_crl (if b then Some fact else Some held) fact ≡ (if b then Some fact else Some held)
    by true true e = elim (cases_Bool (newer_crl fact fact)) [ inl so ↦ rw so refl | inr not ↦ rw not refl ]
    by true false e = elim (cases_Bool (newer_crl fact fact)) [ inl so ↦ rw so refl | inr not ↦ rw not refl ]
    by false c e = rw e refl

module _ (slot : CrlSlot) (scope : Scope) (fact : CrlFact) where
  abbrev is_here : IssuerIdentity → Bool
  is_here issuer = same_crl_slot (slot_for scope issuer) slot

  abbrev told : List IssuerIdentity → List CrlFact
  told issuers = filter_map (crl_for slot) (list_facts scope fact issuers)

  none_newer : (held : Option CrlFact) (issuers : List IssuerIdentity) → newer_of newer_crl held fact ≡ held → held_after newer_crl held (told issuers) ≡ held
  none_newer held [] stays = refl
  none_newer held (issuer ∷ issuers) stays = elim (cases_Bool (is_here issuer)) [
    | inl here ↦ rw here (ap (λ h. held_after newer_crl h (told issuers)) stays ∙ none_newer held issuers stays)
    | inr other ↦ rw other (none_newer held issuers stays)
  ]

  -- a list that is kept for several comes once to a slot
  came_once : (held : Option CrlFact) (issuers : List IssuerIdentity)
      → held_after newer_crl held (told issuers) ≡ held_after newer_crl held (option_to_list (if list_any is_here issuers then Some fact else None))
  came_once held [] = refl
  came_once held (issuer ∷ issuers) = elim (cases_Bool (is_here issuer)) [
    | inl here ↦ rw here (none_newer (newer_of newer_crl held fact) issuers (twice held fact))
    | inr other ↦ rw other (came_once held issuers)
  ]

  -- if the slot is one of theirs, or none of them
  pub came_here : (held : Option CrlFact) (issuers : List IssuerIdentity) → list_any is_here issuers ≡ true → newer_of newer_crl held fact ≡ held_after newer_crl held (told issuers)
  came_here held issuers here = sym (came_once held issuers ∙ ap (λ b. held_after newer_crl held (option_to_list (if b then Some fact else None))) here)

  pub came_elsewhere : (held : Option CrlFact) (issuers : List IssuerIdentity) → list_any is_here issuers ≡ false → held ≡ held_after newer_crl held (told issuers)
  came_elsewhere held issuers other = sym (came_once held issuers ∙ ap (λ b. held_after newer_crl held (option_to_list (if b then Some fact else None))) other)

-- the scope is that of all of them
pub any_in_scope : (P : IssuerIdentity → Bool) (issuers : List IssuerIdentity) (scope : Bool) → list_any (λ issuer. P issuer && scope) issuers ≡ (list_any P issuers && scope)
any_in_scope P [] scope = refl
any_in_scope P (issuer ∷ issuers) scope = ap (λ b. (P issuer && scope) || b) (any_in_scope P issuers scope) ∙ together (P issuer) (list_any P issuers) scope
  where
    together : (a b c : Bool) → ((a && c) || (b && c)) ≡ ((a || b) && c)
    together true true true = refl
    together true true false = refl
    together true false true = refl
    together true false false = refl
    together false b c = refl

pub none_in_scope : (P : IssuerIdentity → Bool) (issuers : List IssuerIdentity) (scope : Bool) → scope ≡ false → list_any (λ issuer. P issuer && scope) issuers ≡ false
none_in_scope P issuers scope other = any_in_scope P issuers scope ∙ ap (λ b. list_any P issuers && b) other ∙ none (list_any P issuers)
  where
    none : (b : Bool) → (b && false) ≡ false
    none true = refl
    none false = refl

-- of the single responses none is a list
pub no_lists : (slot : CrlSlot) (issuer : IssuerIdentity) (singles : List SingleFact) → filter_map (crl_for slot) (map (fact_with issuer) singles) ≡ []
no_lists slot issuer [] = refl
no_lists slot issuer (single ∷ singles) = no_lists slot issuer singles

-- and of what a list says nothing is a response
pub no_responses : (of : OcspSlot) (scope : Scope) (fact : CrlFact) (issuers : List IssuerIdentity) → filter_map (ocsp_for of) (list_facts scope fact issuers) ≡ []
no_responses of scope fact [] = refl
no_responses of scope fact (issuer ∷ issuers) = no_responses of scope fact issuers

-- ---- responses

chosen : (of : OcspSlot) (issuer : IssuerIdentity) (single : SingleFact) (b : Bool) → same_issuer issuer of.issuer ≡ b
    → ocsp_for of (fact_with issuer single) ≡ (if b then single_for of.name_hash of.serial single else None)
chosen of issuer single true e = rw e refl
chosen of issuer single false e = rw e refl

pub of_the_issuer : (of : OcspSlot) (issuer : IssuerIdentity) (singles : List SingleFact) → same_issuer issuer of.issuer ≡ true
    → filter_map (ocsp_for of) (map (fact_with issuer) singles) ≡ singles_for of.name_hash of.serial singles
of_the_issuer of issuer [] e = refl
of_the_issuer of issuer (single ∷ singles) e =
    ap (λ o. cons_option o (filter_map (ocsp_for of) (map (fact_with issuer) singles))) (chosen of issuer single true e)
    ∙ ap (cons_option (single_for of.name_hash of.serial single)) (of_the_issuer of issuer singles e)

pub of_another : (of : OcspSlot) (issuer : IssuerIdentity) (singles : List SingleFact) → same_issuer issuer of.issuer ≡ false
    → filter_map (ocsp_for of) (map (fact_with issuer) singles) ≡ []
of_another of issuer [] e = refl
of_another of issuer (single ∷ singles) e =
    ap (λ o. cons_option o (filter_map (ocsp_for of) (map (fact_with issuer) singles))) (chosen of issuer single false e)
    ∙ of_another of issuer singles e

pub came_of_the_issuer : (held result : Option OcspFact) (of : OcspSlot) (issuer : IssuerIdentity) (singles seen : List SingleFact) → same_issuer issuer of.issuer ≡ true → seen ≡ singles
    → result ≡ held_after newer_ocsp held (singles_for of.name_hash of.serial seen)
    → result ≡ held_after newer_ocsp held (filter_map (ocsp_for of) (map (fact_with issuer) singles))
came_of_the_issuer held result of issuer singles seen same seen_is is =
    is
    ∙ ap (λ l. held_after newer_ocsp held (singles_for of.name_hash of.serial l)) seen_is
    ∙ ap (held_after newer_ocsp held) (sym (of_the_issuer of issuer singles same))

pub came_of_another : (held : Option OcspFact) (of : OcspSlot) (issuer : IssuerIdentity) (singles : List SingleFact) → same_issuer issuer of.issuer ≡ false
    → held ≡ held_after newer_ocsp held (filter_map (ocsp_for of) (map (fact_with issuer) singles))
came_of_another held of issuer singles other = ap (held_after newer_ocsp held) (sym (of_another of issuer singles other))
