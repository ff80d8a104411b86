-- Facts that are taken one after the other leave the newest in each slot.
use Rattle.std.proofs.Common.{◌≡◌, ◌&&◌, ◌∷◌, Bool, true, false, List, [], Option, Some, None, IsTrue, filter_map, bytes_eq, if◌then◌else◌, refl, sym, ap, ◌∙◌, inl, inr, true≢false}
use Rattle.std.specs.Cmp.Lexicographic.{bytes_decides}
use Rattle.std.specs.List.{cons_option}
use Rattle.std.proofs.lemmas.Bool.{cases_Bool, and_parts}
use Rattle.statements_facts.specs.declared.scope.Scope.{Scope}
use Rattle.statements_facts.specs.declared.scope.Scope.TheVariants.{All, User, Ca}
use Rattle.statements_facts.specs.Statement.{IssuerIdentity, CrlSlot, CrlFact, OcspSlot, OcspFact, Holdings, same_issuer, same_scope, same_crl_slot, same_ocsp_slot}
use Rattle.statements_facts.specs.Fact.{Fact}
use Rattle.statements_facts.specs.declared.counts.TakenAs.{TakenAs}
use Rattle.statements_facts.specs.declared.counts.TakenAs.TheVariants.{Stored, Kept, Contradicted}
use Rattle.statements_facts.specs.Newest.{newer_crl, newer_ocsp, newer_of, held_after}
use Rattle.statements_facts.specs.Coming.{is_stored, with_crl_fact, with_ocsp_fact, ContradictsCrl, ContradictsOcsp, IsTakenBeside, after_one, after_all, crl_for, ocsp_for, ComesAsOne, TakingHoldsNewest, TakesBoth}
use Rattle.statements_facts.proofs.NewestLaws.{crls_keep_newest, responses_keep_newest, never_itself_crl, never_itself_ocsp}

-- ---- slots that pass the test are one

one_issuer : (a b : IssuerIdentity) → same_issuer a b ≡ true → a ≡ b
one_issuer a b e =
    let parts = and_parts (bytes_eq a.name b.name) (bytes_eq a.key_info b.key_info) e in
    let name : a.name ≡ b.name = (bytes_decides a.name b.name).0 parts.0 in
    let key : a.key_info ≡ b.key_info = (bytes_decides a.key_info b.key_info).0 parts.1 in
    λ i. record { name = name i; key_info = key i }

one_scope : (a b : Scope) → same_scope a b ≡ true → a ≡ b
one_scope All All e = refl
one_scope User User e = refl
one_scope Ca Ca e = refl
one_scope All User e = absurd (true≢false (sym e))
one_scope All Ca e = absurd (true≢false (sym e))
one_scope User All e = absurd (true≢false (sym e))
one_scope User Ca e = absurd (true≢false (sym e))
one_scope Ca All e = absurd (true≢false (sym e))
one_scope Ca User e = absurd (true≢false (sym e))

pub one_crl_slot : (a b : CrlSlot) → same_crl_slot a b ≡ true → a ≡ b
one_crl_slot a b e =
    let parts = and_parts (same_issuer a.issuer b.issuer) (same_scope a.scope b.scope) e in
    let issuer : a.issuer ≡ b.issuer = one_issuer a.issuer b.issuer parts.0 in
    let scope : a.scope ≡ b.scope = one_scope a.scope b.scope parts.1 in
    λ i. record { issuer = issuer i; scope = scope i }

pub one_ocsp_slot : (a b : OcspSlot) → same_ocsp_slot a b ≡ true → a ≡ b
one_ocsp_slot a b e =
    let parts = and_parts (same_issuer a.issuer b.issuer) (bytes_eq a.name_hash b.name_hash && bytes_eq a.serial b.serial) e in
    let more = and_parts (bytes_eq a.name_hash b.name_hash) (bytes_eq a.serial b.serial) parts.1 in
    let issuer : a.issuer ≡ b.issuer = one_issuer a.issuer b.issuer parts.0 in
    let hash : a.name_hash ≡ b.name_hash = (bytes_decides a.name_hash b.name_hash).0 more.0 in
    let serial : a.serial ≡ b.serial = (bytes_decides a.serial b.serial).0 more.1 in
    λ i. record { issuer = issuer i; name_hash = hash i; serial = serial i }

-- ---- one slot after one fact

module _ {Slot Said : Type 0} (same_slot : Slot → Slot → Bool) (newer : Said → Said → Bool) (one_slot : (a b : Slot) → same_slot a b ≡ true → a ≡ b) where
  abbrev taken : (Slot → Option Said) → Slot → Said → Slot → Option Said
  taken held slot fact other = if is_stored newer (held slot) fact then (if same_slot slot other then Some fact else held other) else held other

  at_slot : (held : Slot → Option Said) (slot : Slot) (fact : Said) (s : Slot) (h : Option Said) → same_slot slot s ≡ true → held s ≡ h → taken held slot fact s ≡ newer_of newer h fact
  at_slot held slot fact s None here e = rw (ap held (one_slot slot s here) ∙ e, here) refl
  at_slot held slot fact s (Some f) here e = elim (cases_Bool (newer fact f)) [
    | inl up ↦ rw (ap held (one_slot slot s here) ∙ e, up, here) refl
    | inr low ↦ rw (ap held (one_slot slot s here) ∙ e, low) e
  ]

  off_slot : (held : Slot → Option Said) (slot : Slot) (fact : Said) (s : Slot) → same_slot slot s ≡ false → taken held slot fact s ≡ held s
  off_slot held slot fact s apart = elim (cases_Bool (is_stored newer (held slot) fact)) [
    | inl stored ↦ rw (stored, apart) refl
    | inr left ↦ rw left refl
  ]

  -- with the facts of the slot that come behind it
  pub slot_on : (held : Slot → Option Said) (slot : Slot) (fact : Said) (s : Slot) (rest : List Said)
      → held_after newer (taken held slot fact s) rest ≡ held_after newer (held s) (cons_option (if same_slot slot s then Some fact else None) rest)
  slot_on held slot fact s rest = elim (cases_Bool (same_slot slot s)) [
    | inl here ↦ ap (λ h. held_after newer h rest) (at_slot held slot fact s (held s) here refl) ∙ sym (rw here refl)
    | inr other ↦ ap (λ h. held_after newer h rest) (off_slot held slot fact s other) ∙ sym (rw other refl)
  ]

crl_taken : (held : Holdings) (slot : CrlSlot) (fact : CrlFact) (s : CrlSlot) → (after_one held (Fact.OfCrl slot fact)).crl s ≡ taken same_crl_slot newer_crl one_crl_slot held.crl slot fact s
crl_taken held slot fact s = elim (cases_Bool (is_stored newer_crl (held.crl slot) fact)) [ inl up ↦ rw up refl | inr low ↦ rw low refl ]

crl_spared : (held : Holdings) (slot : OcspSlot) (fact : OcspFact) (s : CrlSlot) → (after_one held (Fact.OfResponse slot fact)).crl s ≡ held.crl s
crl_spared held slot fact s = elim (cases_Bool (is_stored newer_ocsp (held.ocsp slot) fact)) [ inl up ↦ rw up refl | inr low ↦ rw low refl ]

ocsp_taken : (held : Holdings) (slot : OcspSlot) (fact : OcspFact) (s : OcspSlot) → (after_one held (Fact.OfResponse slot fact)).ocsp s ≡ taken same_ocsp_slot newer_ocsp one_ocsp_slot held.ocsp slot fact s
ocsp_taken held slot fact s = elim (cases_Bool (is_stored newer_ocsp (held.ocsp slot) fact)) [ inl up ↦ rw up refl | inr low ↦ rw low refl ]

ocsp_spared : (held : Holdings) (slot : CrlSlot) (fact : CrlFact) (s : OcspSlot) → (after_one held (Fact.OfCrl slot fact)).ocsp s ≡ held.ocsp s
ocsp_spared held slot fact s = elim (cases_Bool (is_stored newer_crl (held.crl slot) fact)) [ inl up ↦ rw up refl | inr low ↦ rw low refl ]

-- ---- all facts

crl_folds : (came : List Fact) (held : Holdings) (s : CrlSlot) → (after_all held came).crl s ≡ held_after newer_crl (held.crl s) (filter_map (crl_for s) came)
crl_folds [] held s = refl
crl_folds (Fact.OfCrl slot fact ∷ came) held s =
    crl_folds came (after_one held (Fact.OfCrl slot fact)) s
    ∙ ap (λ h. held_after newer_crl h (filter_map (crl_for s) came)) (crl_taken held slot fact s)
    ∙ slot_on same_crl_slot newer_crl one_crl_slot held.crl slot fact s (filter_map (crl_for s) came)
crl_folds (Fact.OfResponse slot fact ∷ came) held s =
    crl_folds came (after_one held (Fact.OfResponse slot fact)) s
    ∙ ap (λ h. held_after newer_crl h (filter_map (crl_for s) came)) (crl_spared held slot fact s)

ocsp_folds : (came : List Fact) (held : Holdings) (s : OcspSlot) → (after_all held came).ocsp s ≡ held_after newer_ocsp (held.ocsp s) (filter_map (ocsp_for s) came)
ocsp_folds [] held s = refl
ocsp_folds (Fact.OfResponse slot fact ∷ came) held s =
    ocsp_folds came (after_one held (Fact.OfResponse slot fact)) s
    ∙ ap (λ h. held_after newer_ocsp h (filter_map (ocsp_for s) came)) (ocsp_taken held slot fact s)
    ∙ slot_on same_ocsp_slot newer_ocsp one_ocsp_slot held.ocsp slot fact s (filter_map (ocsp_for s) came)
ocsp_folds (Fact.OfCrl slot fact ∷ came) held s =
    ocsp_folds came (after_one held (Fact.OfCrl slot fact)) s
    ∙ ap (λ h. held_after newer_ocsp h (filter_map (ocsp_for s) came)) (ocsp_spared held slot fact s)

profile_stays : (start : Holdings) (came : List Fact) → (after_all start came).profile ≡ start.profile
profile_stays start [] = refl
profile_stays start (fact ∷ came) = profile_stays (after_one start fact) came ∙ one_stays fact
  where
    one_stays : (fact : Fact) → (after_one start fact).profile ≡ start.profile
    one_stays (Fact.OfCrl slot fact) = either (is_stored newer_crl (start.crl slot) fact)
      where
        either : (stored : Bool) → (if stored then with_crl_fact start slot fact else start).profile ≡ start.profile
        either true = refl
        either false = refl
    one_stays (Fact.OfResponse slot fact) = either (is_stored newer_ocsp (start.ocsp slot) fact)
      where
        either : (stored : Bool) → (if stored then with_ocsp_fact start slot fact else start).profile ≡ start.profile
        either true = refl
        either false = refl

pub holds_newest : TakingHoldsNewest
holds_newest start came = record {
  profile = profile_stays start came;
  crl = λ slot. crl_folds came start slot ∙ crls_keep_newest.held (start.crl slot) (filter_map (crl_for slot) came);
  ocsp = λ slot. ocsp_folds came start slot ∙ responses_keep_newest.held (start.ocsp slot) (filter_map (ocsp_for slot) came);
}

pub takes_both : TakesBoth
takes_both start [] other = refl
takes_both start (fact ∷ one) other = takes_both (after_one start fact) one other

-- ---- a fact comes to one thing

crl_never : (held : Option CrlFact) (fact : CrlFact) → IsTrue (is_stored newer_crl held fact) → ContradictsCrl held fact → ⊥
crl_never None fact up against = against
crl_never (Some h) fact up against = never_itself_crl fact h against.0 up

ocsp_never : (held : Option OcspFact) (fact : OcspFact) → IsTrue (is_stored newer_ocsp held fact) → ContradictsOcsp held fact → ⊥
ocsp_never None fact up against = against
ocsp_never (Some h) fact up against = never_itself_ocsp fact h against.0 up

once : {Said : Type 0} (newer : Said → Said → Bool) (Contradicts : Option Said → Said → Type 0) (held : Option Said) (fact : Said) → (IsTrue (is_stored newer held fact) → Contradicts held fact → ⊥)
    → (one other : TakenAs) → IsTakenBeside newer Contradicts held fact one → IsTakenBeside newer Contradicts held fact other → one ≡ other
once newer Contradicts held fact never Stored Stored x y = refl
once newer Contradicts held fact never Kept Kept x y = refl
once newer Contradicts held fact never Contradicted Contradicted x y = refl
once newer Contradicts held fact never Stored Kept x y = absurd (y.0 x)
once newer Contradicts held fact never Kept Stored x y = absurd (x.0 y)
once newer Contradicts held fact never Contradicted Kept x y = absurd (y.1 x)
once newer Contradicts held fact never Kept Contradicted x y = absurd (x.1 y)
once newer Contradicts held fact never Stored Contradicted x y = absurd (never x y)
once newer Contradicts held fact never Contradicted Stored x y = absurd (never y x)

pub comes_as_one : ComesAsOne
comes_as_one held (Fact.OfCrl slot fact) one other = once newer_crl ContradictsCrl (held.crl slot) fact (crl_never (held.crl slot) fact) one other
comes_as_one held (Fact.OfResponse slot fact) one other = once newer_ocsp ContradictsOcsp (held.ocsp slot) fact (ocsp_never (held.ocsp slot) fact) one other
