-- The examples: all premises hold of two parties; and without one of them verdicts differ.
use Rattle.std.proofs.Common.{pos, sym, Contains, lit<, is_some, ◌∙◌, ◌≡◌, ℕ, Bool, true, false, List, [], ◌∷◌, Some, None, filter_map, if◌then◌else◌, refl, ap, subst, true≢false}
use Rattle.std.specs.List.{AllByRecursion, cons_option}
use Rattle.std.specs.Str.{bytes_eq}
use Rattle.std.proofs.lemmas.List.Elements.{All-contains, All-from_recursion}
use Rattle.std.proofs.lemmas.Slice.Eq.{bytes_eq-Decides}
use Rattle.sha1.specs.Sha1.{sha1}
use Rattle.names.specs.NameKey.{name_key}
use Rattle.cert.specs.Part.{contents}
use Rattle.statements_facts.specs.Fact.{Fact}
use Rattle.statements_facts.specs.Statement.{CrlSlot, CrlFact, OcspSlot, OcspFact, same_crl_slot, same_ocsp_slot, empty_holdings}
use Rattle.path.specs.declared.reason.Outcome.TheVariants.{Good, Bad}
use Rattle.path.specs.declared.reason.Reason.TheVariants.{Signature}
use Rattle.path.specs.Query.{Accepts}
use Rattle.relying_agreement.specs.declared.verdict.Verdict.{Verdict}
use Rattle.relying_agreement.specs.declared.verdict.Verdict.TheVariants.{Invalid, Revoked, Unknown, Valid}
use Rattle.relying_agreement.specs.Verdict.{IsVerdict, verdict_of}
use Rattle.relying_agreement.specs.Run.{Party, PartyHoldsNewest}
use Rattle.statements_facts.specs.Coming.{crl_for, ocsp_for}
use Rattle.relying_agreement.specs.Agreement.{IsIssued, IssuersAreConsistent, HoldSameNewest}
use Rattle.relying_agreement.specs.Examples.{query, list_slot, stranger_slot, StrangersDoNotMatter, crl_numbered, crl_with_entry, good_at, given_crl, accepts_all, accepts_none, starting, one, other, AllPremisesHold, NeedsConsistency, NeedsSameNewest, NeedsHoldsNewest, NeedsOneVerifier}
use Rattle.relying_agreement.proofs.AgreementLaws.{all_is_enough, one_of_a_number}
use Rattle.relying_agreement.proofs.ExamplePath.{path_is_valid, signature_is_denied}

pub itself : (xs : List ℕ) → bytes_eq xs xs ≡ true
itself xs = (bytes_eq-Decides xs xs).1 refl

-- what is said of each CRL fact, and of each response fact, of a list
abbrev EachSays : (CrlFact → Type 0) → (OcspFact → Type 0) → Fact → Type 0
EachSays P Q (Fact.OfCrl slot fact) = P fact
EachSays P Q (Fact.OfResponse slot fact) = Q fact

cons_if : {A : Type 0} (P : A → Type 0) (b : Bool) (x : A) (xs : List A) → P x → AllByRecursion P xs → AllByRecursion P (cons_option (if b then Some x else None) xs)
cons_if P true x xs here all = (here, all)
cons_if P false x xs here all = all

crls_say : (P : CrlFact → Type 0) (Q : OcspFact → Type 0) (slot : CrlSlot) (facts : List Fact) → AllByRecursion (EachSays P Q) facts → AllByRecursion P (filter_map (crl_for slot) facts)
crls_say P Q slot [] all = tt
crls_say P Q slot (Fact.OfCrl for fact ∷ facts) all = cons_if P (same_crl_slot for slot) fact (filter_map (crl_for slot) facts) all.0 (crls_say P Q slot facts all.1)
crls_say P Q slot (Fact.OfResponse for fact ∷ facts) all = crls_say P Q slot facts all.1

responses_say : (P : CrlFact → Type 0) (Q : OcspFact → Type 0) (slot : OcspSlot) (facts : List Fact) → AllByRecursion (EachSays P Q) facts → AllByRecursion Q (filter_map (ocsp_for slot) facts)
responses_say P Q slot [] all = tt
responses_say P Q slot (Fact.OfCrl for fact ∷ facts) all = responses_say P Q slot facts all.1
responses_say P Q slot (Fact.OfResponse for fact ∷ facts) all = cons_if Q (same_ocsp_slot for slot) fact (filter_map (ocsp_for slot) facts) all.0 (responses_say P Q slot facts all.1)

abbrev IsOurs : Fact → Type 0
IsOurs = EachSays (λ fact. fact ≡ crl_numbered fact.number) (λ fact. fact ≡ good_at fact.times)

-- facts that the example's issuer issues, taken from the start
ours : (accepts : Accepts) (taken : List Fact) → AllByRecursion IsOurs taken → IsIssued (λ slot. crl_numbered) (λ slot. good_at) (starting accepts taken)
ours accepts taken all = record {
  crls = λ slot fact among. All-contains (λ (f : CrlFact). f ≡ crl_numbered f.number) (filter_map (crl_for slot) taken) fact
      (All-from_recursion (λ (f : CrlFact). f ≡ crl_numbered f.number) (filter_map (crl_for slot) taken) (crls_say (λ f. f ≡ crl_numbered f.number) (λ f. f ≡ good_at f.times) slot taken all)) among;
  responses = λ slot fact among. All-contains (λ (f : OcspFact). f ≡ good_at f.times) (filter_map (ocsp_for slot) taken) fact
      (All-from_recursion (λ (f : OcspFact). f ≡ good_at f.times) (filter_map (ocsp_for slot) taken) (responses_say (λ f. f ≡ crl_numbered f.number) (λ f. f ≡ good_at f.times) slot taken all)) among;
}

newest : (accepts : Accepts) (taken : List Fact) → PartyHoldsNewest (starting accepts taken)
newest accepts taken = record { profile = refl; crl = λ slot. refl; ocsp = λ slot. refl }

consistent : (accepts accepts' : Accepts) (taken taken' : List Fact) → AllByRecursion IsOurs taken → AllByRecursion IsOurs taken'
    → IssuersAreConsistent query (starting accepts taken) (starting accepts' taken')
consistent accepts accepts' taken taken' all all' =
    all_is_enough query (starting accepts taken) (starting accepts' taken')
    (one_of_a_number (λ slot. crl_numbered) (λ slot. good_at) (starting accepts taken) (starting accepts' taken') (ours accepts taken all) (ours accepts' taken' all'))

abbrev says_valid : Verdict → Bool
says_valid Valid = true
says_valid _ = false

-- the verdict of an example's party, whose verifier accepts all
valid_verdict : (party : Party) (v : Verdict) → accepts_all ≡ party.accepts → v ≡ verdict_of Good query party.held → IsVerdict party.accepts query party.held v
valid_verdict party v same is = subst (λ accepts. IsVerdict accepts query party.held v) same (record { outcome = Good; is_outcome = path_is_valid; verdict_is = is })

-- lists of R on T, and responses, by what they compute to
one_holds : HoldSameNewest query one.held other.held
unfolding name_key contents
one_holds = (record { lists = (refl, (refl, tt)); ocsp = rw (itself (sha1 (82 ∷ []))) refl }, tt)

pub all_premises_hold : AllPremisesHold
unfolding name_key contents
all_premises_hold = record {
  one_verifier = refl;
  one_ran = record { taken = refl; newest = newest accepts_all one.taken };
  other_ran = record { taken = refl; newest = newest accepts_all other.taken };
  consistent = consistent accepts_all accepts_all one.taken other.taken (refl, (refl, (refl, (refl, (refl, tt))))) (refl, (refl, (refl, (refl, tt))));
  same_newest = one_holds;
  one_is_valid = valid_verdict one Valid refl (rw (itself (sha1 (82 ∷ []))) refl);
  other_is_valid = valid_verdict other Valid refl (rw (itself (sha1 (82 ∷ []))) refl);
}

-- list 5 with the serial number is held, and was never taken
abbrev planted : Party
planted = record {
  accepts = accepts_all;
  start = empty_holdings;
  taken = [];
  held = record empty_holdings { crl = λ slot. if same_crl_slot list_slot slot then Some (crl_with_entry 5) else None };
}

abbrev holds_5 : Party
holds_5 = starting accepts_all (given_crl (crl_numbered 5) ∷ [])

abbrev holds_5_with_entry : Party
holds_5_with_entry = starting accepts_all (given_crl (crl_with_entry 5) ∷ [])

valid_by_5 : IsVerdict accepts_all query holds_5.held Valid
unfolding name_key contents
valid_by_5 = valid_verdict holds_5 Valid refl refl

pub needs_consistency : NeedsConsistency
unfolding name_key contents
needs_consistency = record {
  a = holds_5;
  b = holds_5_with_entry;
  one_verifier = refl;
  a_newest = newest accepts_all (given_crl (crl_numbered 5) ∷ []);
  b_newest = newest accepts_all (given_crl (crl_with_entry 5) ∷ []);
  same_newest = (record { lists = (refl, (refl, tt)); ocsp = refl }, tt);
  disagree = record {
    v = Valid;
    w = Revoked 1 1;
    is_v = valid_by_5;
    is_w = valid_verdict holds_5_with_entry (Revoked 1 1) refl refl;
    differ = λ same. true≢false (ap says_valid same);
  };
}

pub needs_same_newest : NeedsSameNewest
needs_same_newest = record {
  a = holds_5;
  b = starting accepts_all [];
  one_verifier = refl;
  a_newest = newest accepts_all (given_crl (crl_numbered 5) ∷ []);
  b_newest = newest accepts_all [];
  consistent = consistent accepts_all accepts_all (given_crl (crl_numbered 5) ∷ []) [] (refl, tt) tt;
  disagree = record {
    v = Valid;
    w = Unknown 1;
    is_v = valid_by_5;
    is_w = valid_verdict (starting accepts_all []) (Unknown 1) refl refl;
    differ = λ same. true≢false (ap says_valid same);
  };
}

nothing_seen : IsIssued (λ slot. crl_numbered) (λ slot. good_at) planted
nothing_seen = record { crls = (ours accepts_all [] tt).crls; responses = (ours accepts_all [] tt).responses }

pub needs_holds_newest : NeedsHoldsNewest
unfolding name_key contents
needs_holds_newest = record {
  a = holds_5;
  b = planted;
  one_verifier = refl;
  a_newest = newest accepts_all (given_crl (crl_numbered 5) ∷ []);
  consistent = all_is_enough query holds_5 planted
      (one_of_a_number (λ slot. crl_numbered) (λ slot. good_at) holds_5 planted (ours accepts_all (given_crl (crl_numbered 5) ∷ []) (refl, tt)) nothing_seen);
  same_newest = (record { lists = (refl, (refl, tt)); ocsp = refl }, tt);
  disagree = record {
    v = Valid;
    w = Revoked 1 1;
    is_v = valid_by_5;
    is_w = valid_verdict planted (Revoked 1 1) refl refl;
    differ = λ same. true≢false (ap says_valid same);
  };
}

pub needs_one_verifier : NeedsOneVerifier
unfolding name_key contents
needs_one_verifier = record {
  a = holds_5;
  b = starting accepts_none (given_crl (crl_numbered 5) ∷ []);
  a_newest = newest accepts_all (given_crl (crl_numbered 5) ∷ []);
  b_newest = newest accepts_none (given_crl (crl_numbered 5) ∷ []);
  consistent = consistent accepts_all accepts_none (given_crl (crl_numbered 5) ∷ []) (given_crl (crl_numbered 5) ∷ []) (refl, tt) (refl, tt);
  same_newest = (record { lists = (refl, (refl, tt)); ocsp = refl }, tt);
  disagree = record {
    v = Valid;
    w = Invalid 1 Signature;
    is_v = valid_by_5;
    is_w = record { outcome = Bad 1 Signature; is_outcome = signature_is_denied; verdict_is = refl };
    differ = λ same. true≢false (ap says_valid same);
  };
}

-- all of a list are one fact
all_one : {A : Type 0} (x : A) (xs : List A) → AllByRecursion (λ y. y ≡ x) xs → (f g : A) → Contains xs f → Contains xs g → f ≡ g
all_one x xs all f g in_f in_g = All-contains (λ y. y ≡ x) xs f (All-from_recursion (λ y. y ≡ x) xs all) in_f ∙ sym (All-contains (λ y. y ≡ x) xs g (All-from_recursion (λ y. y ≡ x) xs all) in_g)

pub strangers_do_not_matter : StrangersDoNotMatter
unfolding name_key contents
strangers_do_not_matter = record {
  not_all = λ all. true≢false (sym (ap (λ (f : CrlFact). is_some (f.reasons (5 ∷ []))) (all.crls stranger_slot (crl_numbered 1) (crl_with_entry 1) (0, lit< tt, refl) (1, lit< tt, refl) refl)));
  consistent = (
    record {
      lists = (
        λ f g in_f in_g same. all_one (crl_numbered 3) (crl_numbered 3 ∷ crl_numbered 3 ∷ []) (refl, (refl, tt)) f g in_f in_g,
        (λ f g in_f in_g same. all_one (crl_numbered 3) [] tt f g in_f in_g, tt),
      );
      ocsp = λ f g in_f in_g same. all_one (good_at (record { this_update = pos 1; produced_at = pos 1 })) [] tt f g in_f in_g;
    },
    tt,
  );
}
