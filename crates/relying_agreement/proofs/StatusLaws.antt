-- The tests of status say what the words do: which statements count, whether one covers, whether one revokes.
use Rattle.std.proofs.Common.{◌≡◌, ◌&&◌, ◌||◌, ◌++◌, ℕ, ℤ, ◌≤ℤ◌, int_le, Bool, true, false, T, List, [], ◌∷◌, map, Option, Some, None, option_map, is_some, IsSome, Any, Decides, refl, sym, ap, subst, ◌∙◌, inl, inr, true≢false}
use Rattle.std.specs.Bool.{passes}
use Rattle.std.specs.List.{AllByRecursion, list_any}
use Rattle.std.proofs.lemmas.Bool.{and_parts, and_from}
use Rattle.std.proofs.lemmas.List.{map-append}
use Rattle.std.proofs.lemmas.Option.{none-some, same_Some}
use Rattle.std.proofs.lemmas.Bool.Decides.{Decides-and, Decides-or}
use Rattle.cert.specs.Place.{body}
use Rattle.statements_facts.specs.declared.single.Status.{Status}
use Rattle.statements_facts.specs.declared.single.Status.TheVariants as said
use Rattle.statements_facts.specs.Statement.{Window, CrlSlot, CrlFact, OcspFact, Holdings, CrlAnswer, answer_for}
use Rattle.relying_agreement.specs.Link.{Link, complete_slots_of, limited_slots_of, crl_slots_of, ocsp_slot_for}
use Rattle.relying_agreement.specs.Status.{IsCurrent, is_current, may_sign_crls, list_held, evidence_of, kept_if, crl_that_counts, ocsp_that_counts, reason_of_status, is_good, crl_reason, listed_reason, ocsp_reason, deciding_reason, is_covered_by, CrlCounts, SomeCrlCounts, SomeCrlLists, OcspCounts, CrlRevokes, FirstCrlRevokes, OcspRevokes, IsNotListed, IsRevoked, SomeRevokes, IsCovered}
use Rattle.relying_agreement.proofs.Options.{kept_is, is_kept, kept_some, mapped_is, chained_is, is_chained, chained_to, to_chained, first_or, or_first, or_second, or_none, none_of, some_or, either_decides, some_value, any_decides, any_mapped}

is_so : (b : Bool) → T b → b ≡ true
is_so true t = refl
is_so false t = absurd t

le_decides : (a b : ℤ) → Decides (int_le a b) (a ≤ℤ b)
le_decides a b = (λ e. record { le = passes (int_le a b) e }, λ h. is_so (int_le a b) h.le)

pub current_decides : (window : Window) (moment : ℤ) → Decides (is_current window moment) (IsCurrent window moment)
current_decides window moment =
    Decides-and (int_le window.from moment) (int_le moment window.until) (le_decides window.from moment) (le_decides moment window.until)

good_decides : (status : Status) → Decides (is_good status) (status ≡ said.Good)
good_decides said.Good = (λ e. refl, λ e. refl)
good_decides (said.Revoked reason) = (λ e. absurd (true≢false (sym e)), λ e. ap is_good e)
good_decides said.Unknown = (λ e. absurd (true≢false (sym e)), λ e. ap is_good e)

module _ (held : Holdings) (moment : ℤ) (link : Link) where
  abbrev may_sign : Bool
  may_sign = may_sign_crls link

  abbrev serial : List ℕ
  serial = body link.certificate.serial

  -- the answer of the list in a slot
  abbrev told : CrlSlot → Option CrlAnswer
  told slot = list_held held serial slot

  abbrev test : CrlAnswer → Bool
  test crl = may_sign_crls link && is_current crl.window moment

  abbrev answer : CrlFact → CrlAnswer
  answer fact = answer_for serial fact

  counted : (slot : CrlSlot) (found : CrlAnswer) → crl_that_counts moment may_sign (told slot) ≡ Some found
      → (fact : CrlFact) × CrlCounts held moment link slot fact × (answer fact ≡ found)
  counted slot found e =
      let kept = kept_some test (told slot) found e in
      let from = mapped_is answer (held.crl slot) found kept.0 in
      let parts = and_parts (may_sign_crls link) (is_current from.0.window moment) (ap test from.2 ∙ kept.1) in
      (from.0, record { is_held = from.1; may_sign = parts.0; current = (current_decides from.0.window moment).0 parts.1 }, from.2)

  counts : (slot : CrlSlot) (fact : CrlFact) → CrlCounts held moment link slot fact → crl_that_counts moment may_sign (told slot) ≡ Some (answer fact)
  counts slot fact c =
      is_kept test (told slot) (answer fact) (ap (option_map answer) c.is_held)
      (and_from (may_sign_crls link) (is_current fact.window moment) c.may_sign ((current_decides fact.window moment).1 c.current))

  crl_covers : (slot : CrlSlot) → Decides (is_some (crl_that_counts moment may_sign (told slot))) (SomeCrlCounts held moment link slot)
  crl_covers slot = (
    λ some. let found = some_value (crl_that_counts moment may_sign (told slot)) some in
        let c = counted slot found.0 found.1 in (c.0, c.1),
    λ (fact, c). ap is_some (counts slot fact c),
  )

  lists_cover : (slots : List CrlSlot) → Decides (list_any (λ crl. is_some (crl_that_counts moment may_sign crl)) (map told slots)) (Any (SomeCrlCounts held moment link) slots)
  lists_cover slots =
      let decides = any_decides (λ slot. is_some (crl_that_counts moment may_sign (told slot))) (SomeCrlCounts held moment link) crl_covers slots in
      let same = any_mapped (λ crl. is_some (crl_that_counts moment may_sign crl)) told slots in (
        λ some. decides.0 (sym same ∙ some),
        λ covers. same ∙ decides.1 covers,
      )

  crl_lists : (slot : CrlSlot) → Decides (is_some (crl_reason moment may_sign (told slot))) (SomeCrlLists held moment link slot)
  crl_lists slot = (
    λ some. let found = chained_is (λ (counted : CrlAnswer). counted.reason) (crl_that_counts moment may_sign (told slot)) some in
        let c = counted slot found.0 found.1 in (c.0, c.1, ap (λ (a : CrlAnswer). is_some a.reason) c.2 ∙ found.2),
    λ (fact, c, some). is_chained (λ (counted : CrlAnswer). counted.reason) (crl_that_counts moment may_sign (told slot)) (answer fact) (counts slot fact c) some,
  )

  -- the lists give a reason if one of them does
  some_listed : (slots : List CrlSlot) → is_some (listed_reason moment may_sign (map told slots)) ≡ list_any (λ slot. is_some (crl_reason moment may_sign (told slot))) slots
  some_listed [] = refl
  some_listed (slot ∷ slots) =
      some_or (crl_reason moment may_sign (told slot)) (listed_reason moment may_sign (map told slots))
      ∙ ap (λ b. is_some (crl_reason moment may_sign (told slot)) || b) (some_listed slots)

  lists_list : (slots : List CrlSlot) → Decides (is_some (listed_reason moment may_sign (map told slots))) (Any (SomeCrlLists held moment link) slots)
  lists_list slots =
      let decides = any_decides (λ slot. is_some (crl_reason moment may_sign (told slot))) (SomeCrlLists held moment link) crl_lists slots in (
        λ some. decides.0 (sym (some_listed slots) ∙ some),
        λ lists. some_listed slots ∙ decides.1 lists,
      )

  abbrev response_test : OcspFact → Bool
  response_test response = is_current response.window moment

  abbrev the_response : Option OcspFact
  the_response = ocsp_that_counts moment (held.ocsp (ocsp_slot_for link))

  response_counted : (fact : OcspFact) → the_response ≡ Some fact → OcspCounts held moment link fact
  response_counted fact e = let kept = kept_some response_test (held.ocsp (ocsp_slot_for link)) fact e in
      record { is_held = kept.0; current = (current_decides fact.window moment).0 kept.1 }

  response_counts : (fact : OcspFact) → OcspCounts held moment link fact → the_response ≡ Some fact
  response_counts fact c = is_kept response_test (held.ocsp (ocsp_slot_for link)) fact c.is_held ((current_decides fact.window moment).1 c.current)

  abbrev CoversWell : Type 0
  CoversWell = (fact : OcspFact) × OcspCounts held moment link fact × (fact.status ≡ said.Good)

  response_covers : Decides (is_some (kept_if (λ (response : OcspFact). is_good response.status) the_response)) CoversWell
  response_covers = (
    λ some. let found = kept_is (λ (response : OcspFact). is_good response.status) the_response some in
        (found.0, response_counted found.0 found.1, (good_decides found.0.status).0 found.2),
    λ (fact, c, good). ap is_some (is_kept (λ (response : OcspFact). is_good response.status) the_response fact (response_counts fact c) ((good_decides fact.status).1 good)),
  )

  abbrev RevokesByResponse : Type 0
  RevokesByResponse = (fact : OcspFact) × OcspCounts held moment link fact × IsSome (reason_of_status fact.status)

  response_revokes : Decides (is_some (ocsp_reason moment (held.ocsp (ocsp_slot_for link)))) RevokesByResponse
  response_revokes = (
    λ some. let found = chained_is (λ (response : OcspFact). reason_of_status response.status) the_response some in
        (found.0, response_counted found.0 found.1, found.2),
    λ (fact, c, some). is_chained (λ (response : OcspFact). reason_of_status response.status) the_response fact (response_counts fact c) some,
  )

  -- the test of cover is the words'
  pub cover_decides : Decides (is_covered_by moment (evidence_of held link)) (IsCovered held moment link)
  cover_decides = Decides-or _ _ (lists_cover (complete_slots_of link)) response_covers

  -- all lists, in the order in which they decide
  abbrev all_told : List (Option CrlAnswer)
  all_told = map told (complete_slots_of link) ++ map told (limited_slots_of link)

  in_order : map told (crl_slots_of link) ≡ all_told
  in_order = map-append told (complete_slots_of link) (limited_slots_of link)

  all_list : Decides (is_some (listed_reason moment may_sign all_told)) (Any (SomeCrlLists held moment link) (crl_slots_of link))
  all_list =
      subst (λ crls. Decides (is_some (listed_reason moment may_sign crls)) (Any (SomeCrlLists held moment link) (crl_slots_of link))) in_order
      (lists_list (crl_slots_of link))

  -- and so is the test of revocation
  pub revoke_decides : Decides (is_some (deciding_reason moment (evidence_of held link))) (SomeRevokes held moment link)
  revoke_decides = either_decides _ _ all_list response_revokes

  -- ---- why

  crl_revokes : (slot : CrlSlot) (reason : ℕ) → crl_reason moment may_sign (told slot) ≡ Some reason → CrlRevokes held moment link slot reason
  crl_revokes slot reason e =
      let found = chained_to (λ (counted : CrlAnswer). counted.reason) (crl_that_counts moment may_sign (told slot)) reason e in
      let c = counted slot found.0 found.1 in
      record { fact = c.0; counts = c.1; listed = ap (λ (a : CrlAnswer). a.reason) c.2 ∙ found.2 }

  crl_gives : (slot : CrlSlot) (reason : ℕ) → CrlRevokes held moment link slot reason → crl_reason moment may_sign (told slot) ≡ Some reason
  crl_gives slot reason r =
      to_chained (λ (counted : CrlAnswer). counted.reason) (crl_that_counts moment may_sign (told slot)) (answer r.fact) reason
      (counts slot r.fact r.counts) r.listed

  not_listed : (slot : CrlSlot) → crl_reason moment may_sign (told slot) ≡ None → IsNotListed held moment link slot
  not_listed slot none reason revokes = none-some reason (sym none ∙ crl_gives slot reason revokes)

  gives_none : (slot : CrlSlot) → IsNotListed held moment link slot → crl_reason moment may_sign (told slot) ≡ None
  gives_none slot none = none_of (crl_reason moment may_sign (told slot)) (λ reason e. none reason (crl_revokes slot reason e))

  -- the reason of the first list that gives one
  first_revokes : (slots : List CrlSlot) (reason : ℕ) → listed_reason moment may_sign (map told slots) ≡ Some reason → FirstCrlRevokes held moment link slots reason
  first_revokes [] reason e = none-some reason e
  first_revokes (slot ∷ slots) reason e = elim (first_or _ _ reason e) [
    | inl here ↦ inl (crl_revokes slot reason here)
    | inr (none, later) ↦ inr (not_listed slot none, first_revokes slots reason later)
  ]

  first_gives : (slots : List CrlSlot) (reason : ℕ) → FirstCrlRevokes held moment link slots reason → listed_reason moment may_sign (map told slots) ≡ Some reason
  first_gives [] reason r = absurd r
  first_gives (slot ∷ slots) reason r = elim r [
    | inl here ↦ or_first _ _ reason (crl_gives slot reason here)
    | inr (none, later) ↦ or_second _ _ (gives_none slot none) ∙ first_gives slots reason later
  ]

  none_revokes : (slots : List CrlSlot) → listed_reason moment may_sign (map told slots) ≡ None → AllByRecursion (IsNotListed held moment link) slots
  none_revokes [] e = tt
  none_revokes (slot ∷ slots) e = let parts = or_none _ _ e in (not_listed slot parts.0, none_revokes slots parts.1)

  none_gives : (slots : List CrlSlot) → AllByRecursion (IsNotListed held moment link) slots → listed_reason moment may_sign (map told slots) ≡ None
  none_gives [] none = refl
  none_gives (slot ∷ slots) none = or_second _ _ (gives_none slot none.0) ∙ none_gives slots none.1

  status_is : (status : Status) (reason : ℕ) → reason_of_status status ≡ Some reason → status ≡ said.Revoked reason
  status_is said.Good reason e = absurd (none-some reason e)
  status_is (said.Revoked other) reason e = ap said.Revoked (same_Some other reason e)
  status_is said.Unknown reason e = absurd (none-some reason e)

  ocsp_revokes : (reason : ℕ) → ocsp_reason moment (held.ocsp (ocsp_slot_for link)) ≡ Some reason → OcspRevokes held moment link reason
  ocsp_revokes reason e =
      let found = chained_to (λ (response : OcspFact). reason_of_status response.status) the_response reason e in
      record { fact = found.0; counts = response_counted found.0 found.1; status = status_is found.0.status reason found.2 }

  ocsp_gives : (reason : ℕ) → OcspRevokes held moment link reason → ocsp_reason moment (held.ocsp (ocsp_slot_for link)) ≡ Some reason
  ocsp_gives reason r =
      to_chained (λ (response : OcspFact). reason_of_status response.status) the_response r.fact reason (response_counts r.fact r.counts) (ap reason_of_status r.status)

  same_reason : listed_reason moment may_sign (map told (crl_slots_of link)) ≡ listed_reason moment may_sign all_told
  same_reason = ap (listed_reason moment may_sign) in_order

  -- the reason that is found is the one of the words
  pub revoked_so : (reason : ℕ) → deciding_reason moment (evidence_of held link) ≡ Some reason → IsRevoked held moment link reason
  revoked_so reason e = elim (first_or _ _ reason e) [
    | inl listed ↦ inl (first_revokes (crl_slots_of link) reason (same_reason ∙ listed))
    | inr (none, response) ↦ inr (none_revokes (crl_slots_of link) (same_reason ∙ none), ocsp_revokes reason response)
  ]

  pub reason_so : (reason : ℕ) → IsRevoked held moment link reason → deciding_reason moment (evidence_of held link) ≡ Some reason
  reason_so reason revoked = elim revoked [
    | inl listed ↦ or_first _ _ reason (sym same_reason ∙ first_gives (crl_slots_of link) reason listed)
    | inr (none, response) ↦ or_second _ _ (sym same_reason ∙ none_gives (crl_slots_of link) none) ∙ ocsp_gives reason response
  ]
