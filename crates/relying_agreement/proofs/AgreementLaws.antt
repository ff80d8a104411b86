-- The same newest facts of consistent issuers are the same facts, so the verdicts are equal.
use Rattle.std.proofs.Common.{◌≡◌, ℕ, List, [], ◌∷◌, ◌++◌, map, ap₂, option_map, Contains, refl, sym, ap, subst, ◌∙◌, inl, inr}
use Rattle.std.specs.List.{AllByRecursion}
use Rattle.std.proofs.lemmas.List.Elements.{Contains-append_left, Contains-append_right, Contains-append_cases}
use Rattle.cert.specs.Place.{body}
use Rattle.statements_facts.specs.Statement.{Holdings, CrlSlot, OcspSlot, CrlFact, OcspFact, answer_for}
use Rattle.path.specs.Query.{Query, Accepts}
use Rattle.path.specs.Validity.{OutcomeIsOne}
use Rattle.relying_agreement.specs.declared.verdict.Verdict.{Verdict}
use Rattle.relying_agreement.specs.Link.{Link, links_of, complete_slots_of, limited_slots_of, crl_slots_of, ocsp_slot_for}
use Rattle.statements_facts.specs.Newest.{is_unexceeded, newer_crl, newer_ocsp}
use Rattle.relying_agreement.specs.Status.{list_held}
use Rattle.relying_agreement.specs.Verdict.{verdict_of, IsVerdict}
use Rattle.relying_agreement.specs.Run.{Party, PartyHoldsNewest, crls_seen, responses_seen}
use Rattle.relying_agreement.specs.Agreement.{HoldSameNewest, HoldSameNewestOf, HoldSameNumber, CrlsSeenAreConsistent, ResponsesSeenAreConsistent, IssuerIsConsistent, AllAreConsistent, AllIsEnough, CrlsHeldAreConsistent, ResponsesHeldAreConsistent, HeldIsConsistent, HeldAreConsistent, PartiesAgree, RunsAgree, RunsAgreeWhereAllAreConsistent, HeldWasSeen, SameNewestIsTheSame, OneOfANumberIsConsistent, PointwiseIsEnough}
use Rattle.relying_agreement.specs.Comparison.{HoldSameOf}
use Rattle.relying_agreement.proofs.Options.{found_within, same_by_mark}
use Rattle.relying_agreement.proofs.VerdictLaws.{same_verdicts, verdict_is_one}

-- what is held was held at the start or taken
crls_were_seen : (one other : Party) → PartyHoldsNewest one → PartyHoldsNewest other → (slot : CrlSlot) → CrlsSeenAreConsistent one other slot
    → CrlsHeldAreConsistent one.held other.held slot
crls_were_seen one other a b slot consistent = λ f g is_f is_g. consistent f g
    (Contains-append_left (crls_seen one slot) (crls_seen other slot) f (found_within (is_unexceeded newer_crl (crls_seen one slot)) (crls_seen one slot) f (sym (a.crl slot) ∙ is_f)))
    (Contains-append_right (crls_seen one slot) (crls_seen other slot) g (found_within (is_unexceeded newer_crl (crls_seen other slot)) (crls_seen other slot) g (sym (b.crl slot) ∙ is_g)))

responses_were_seen : (one other : Party) → PartyHoldsNewest one → PartyHoldsNewest other → (slot : OcspSlot) → ResponsesSeenAreConsistent one other slot
    → ResponsesHeldAreConsistent one.held other.held slot
responses_were_seen one other a b slot consistent = λ f g is_f is_g. consistent f g
    (Contains-append_left (responses_seen one slot) (responses_seen other slot) f (found_within (is_unexceeded newer_ocsp (responses_seen one slot)) (responses_seen one slot) f (sym (a.ocsp slot) ∙ is_f)))
    (Contains-append_right (responses_seen one slot) (responses_seen other slot) g (found_within (is_unexceeded newer_ocsp (responses_seen other slot)) (responses_seen other slot) g (sym (b.ocsp slot) ∙ is_g)))

each_list_was_seen : (one other : Party) → PartyHoldsNewest one → PartyHoldsNewest other → (slots : List CrlSlot) → AllByRecursion (CrlsSeenAreConsistent one other) slots
    → AllByRecursion (CrlsHeldAreConsistent one.held other.held) slots
each_list_was_seen one other a b [] consistent = tt
each_list_was_seen one other a b (slot ∷ slots) consistent =
    (crls_were_seen one other a b slot consistent.0, each_list_was_seen one other a b slots consistent.1)

each_was_seen : (one other : Party) → PartyHoldsNewest one → PartyHoldsNewest other → (links : List Link) → AllByRecursion (IssuerIsConsistent one other) links
    → AllByRecursion (HeldIsConsistent one.held other.held) links
each_was_seen one other a b [] consistent = tt
each_was_seen one other a b (link ∷ links) consistent = (
  record {
    lists = each_list_was_seen one other a b (crl_slots_of link) consistent.0.lists;
    ocsp = responses_were_seen one other a b (ocsp_slot_for link) consistent.0.ocsp;
  },
  each_was_seen one other a b links consistent.1,
)

pub held_was_seen : HeldWasSeen
held_was_seen query one other a b consistent = each_was_seen one other a b (links_of query) consistent

enough_lists : (one other : Party) → AllAreConsistent one other → (slots : List CrlSlot) → AllByRecursion (CrlsSeenAreConsistent one other) slots
enough_lists one other all [] = tt
enough_lists one other all (slot ∷ slots) = (all.crls slot, enough_lists one other all slots)

enough : (one other : Party) → AllAreConsistent one other → (links : List Link) → AllByRecursion (IssuerIsConsistent one other) links
enough one other all [] = tt
enough one other all (link ∷ links) = (
  record { lists = enough_lists one other all (crl_slots_of link); ocsp = all.responses (ocsp_slot_for link) },
  enough one other all links,
)

pub all_is_enough : AllIsEnough
all_is_enough query one other all = enough one other all (links_of query)

same_crl : (one other : Holdings) (slot : CrlSlot) → CrlsHeldAreConsistent one other slot
    → option_map (λ (fact : CrlFact). fact.number) (one.crl slot) ≡ option_map (λ (fact : CrlFact). fact.number) (other.crl slot)
    → one.crl slot ≡ other.crl slot
same_crl one other slot consistent same = same_by_mark (λ (fact : CrlFact). fact.number) (one.crl slot) (other.crl slot) consistent same

same_lists : (one other : Holdings) (serial : List ℕ) (slots : List CrlSlot) → AllByRecursion (CrlsHeldAreConsistent one other) slots → AllByRecursion (HoldSameNumber one other) slots
    → map (list_held one serial) slots ≡ map (list_held other serial) slots
same_lists one other serial [] consistent newest = refl
same_lists one other serial (slot ∷ slots) consistent newest =
    ap₂ (λ crl crls. option_map (answer_for serial) crl ∷ crls) (same_crl one other slot consistent.0 newest.0) (same_lists one other serial slots consistent.1 newest.1)

-- what holds of two lists holds of each
in_front : {A : Type 0} (P : A → Type 0) (xs ys : List A) → AllByRecursion P (xs ++ ys) → AllByRecursion P xs
in_front P [] ys all = tt
in_front P (x ∷ xs) ys all = (all.0, in_front P xs ys all.1)

behind : {A : Type 0} (P : A → Type 0) (xs ys : List A) → AllByRecursion P (xs ++ ys) → AllByRecursion P ys
behind P [] ys all = all
behind P (x ∷ xs) ys all = behind P xs ys all.1

-- the same newest of a certificate is the same answer
pub same_of_newest : SameNewestIsTheSame
same_of_newest one other link consistent newest =
    let complete = complete_slots_of link in
    let limited_slots = limited_slots_of link in
    let serial = body link.certificate.serial in
    let lists = same_lists one other serial complete (in_front (CrlsHeldAreConsistent one other) complete limited_slots consistent.lists)
    (in_front (HoldSameNumber one other) complete limited_slots newest.lists) in
    let limited = same_lists one other serial limited_slots (behind (CrlsHeldAreConsistent one other) complete limited_slots consistent.lists)
    (behind (HoldSameNumber one other) complete limited_slots newest.lists) in
    let ocsp = same_by_mark (λ (fact : OcspFact). fact.times) (one.ocsp (ocsp_slot_for link)) (other.ocsp (ocsp_slot_for link)) consistent.ocsp newest.ocsp in
    λ i. record { lists = lists i; limited = limited i; ocsp = ocsp i }

all_same : (one other : Holdings) (links : List Link) → AllByRecursion (HeldIsConsistent one other) links → AllByRecursion (HoldSameNewestOf one other) links
    → AllByRecursion (HoldSameOf one other) links
all_same one other [] consistent newest = tt
all_same one other (link ∷ links) consistent newest =
    (same_of_newest one other link consistent.0 newest.0, all_same one other links consistent.1 newest.1)

module _ (one_outcome : OutcomeIsOne) where
  -- the same newest of a path, of what is consistent, gives the same verdict
  pub held_agree : (accepts : Accepts) (query : Query) (one other : Holdings) (v w : Verdict)
      → HeldAreConsistent query one other → HoldSameNewest query one other
      → IsVerdict accepts query one v → IsVerdict accepts query other w → v ≡ w
  held_agree accepts query one other v w consistent newest is_v is_w =
      is_v.verdict_is
      ∙ same_verdicts is_v.outcome query one other (all_same one other (links_of query) consistent newest)
      ∙ verdict_is_one one_outcome accepts query other (verdict_of is_v.outcome query other) w
      (record { outcome = is_v.outcome; is_outcome = is_v.is_outcome; verdict_is = refl }) is_w

  pub parties_agree : PartiesAgree
  parties_agree query one other v w same_verifier newest_one newest_other consistent newest is_v is_w =
      held_agree one.accepts query one.held other.held v w (held_was_seen query one other newest_one newest_other consistent) newest is_v
      (subst (λ accepts. IsVerdict accepts query other.held w) (sym same_verifier) is_w)

  pub runs_agree : RunsAgree
  runs_agree facts_of query one other v w events_of_one events_of_other answers_of_one answers_of_other same_verifier ran_one ran_other consistent newest is_v is_w =
      parties_agree query one other v w same_verifier ran_one.newest ran_other.newest consistent newest is_v is_w

  pub runs_agree_where_all : RunsAgreeWhereAllAreConsistent
  runs_agree_where_all facts_of query one other v w events_of_one events_of_other answers_of_one answers_of_other same_verifier ran_one ran_other all newest is_v is_w =
      parties_agree query one other v w same_verifier ran_one.newest ran_other.newest (all_is_enough query one other all) newest is_v is_w

either_party : {A M : Type 0} (mark : A → M) (issued : M → A) (xs ys : List A)
    → ((fact : A) → Contains xs fact → fact ≡ issued (mark fact)) → ((fact : A) → Contains ys fact → fact ≡ issued (mark fact))
    → (f g : A) → Contains (xs ++ ys) f → Contains (xs ++ ys) g → mark f ≡ mark g → f ≡ g
either_party {A = A} mark issued xs ys of_xs of_ys f g in_f in_g same = is f in_f ∙ ap issued same ∙ sym (is g in_g)
  where
    is : (fact : A) → Contains (xs ++ ys) fact → fact ≡ issued (mark fact)
    is fact among = elim (Contains-append_cases xs ys fact among) [ inl x ↦ of_xs fact x | inr y ↦ of_ys fact y ]

pub one_of_a_number : OneOfANumberIsConsistent
one_of_a_number crl response one other of_one of_other = record {
  crls = λ slot. either_party (λ (fact : CrlFact). fact.number) (crl slot) (crls_seen one slot) (crls_seen other slot) (of_one.crls slot) (of_other.crls slot);
  responses = λ slot. either_party (λ (fact : OcspFact). fact.times) (response slot) (responses_seen one slot) (responses_seen other slot) (of_one.responses slot) (of_other.responses slot);
}

pub pointwise_is_enough : PointwiseIsEnough
pointwise_is_enough = record {
  verifiers = λ one other same. λ i. λ algorithm key message signature. same algorithm key message signature i;
  crls = λ one other number window entries. λ i. record { number = number i; window = window i; reasons = λ serial. entries serial i };
}
