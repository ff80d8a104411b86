-- The walk of the extensions of an entry finds what the standard calls them, with the reason that they give, and nothing else.
use Rattle.std.proofs.Common.{◌≡◌, ◌≢◌, ◌==◌, ◌&&◌, ◌≤◌, ◌⊎◌, ℕ, Bool, true, false, not, nat_lt, List, [], ◌∷◌, All, AllPairs, Option, Some, None, Ok, if◌then◌else◌, arith, refl, sym, ap, ◌∙◌, subst, eq-eqb, inl, inr}
use Rattle.std.specs.List.{AllZip}
use Rattle.std.specs.FinSet.{empty, contains, insert}
use Rattle.std.proofs.lemmas.Bool.{and_parts, and_from, ltb-true, lt-ltb, eqb-true}
use Rattle.std.proofs.lemmas.List.Elements.{All-nil, All-cons, All-head, All-tail}
use Rattle.asn.specs.Value.{primitive}
use Rattle.asn.specs.Encoding.{Encodes}
use Rattle.asn.specs.Place.{Place, tag, body}
use Rattle.asn.specs.Members.{members}
use Rattle.asn.specs.Walk.{each, check_that, or_fault, some, Leads}
use Rattle.asn.proofs.Laws.{bind_ok, ok_is, check_ok, check_again, some_ok, some_again, each_ok}
use Rattle.cert.specs.Extension.{Extension, IsExtension}
use Rattle.cert.specs.OidSet.{Oids}
use Rattle.statements_parts.specs.Parts.{new_extension, is_reason}
use Rattle.statements_parts.proofs.Laws.{AreNew, new_pairs, pairs_are_new, new_extension_ok, new_extension_again}
use Rattle.statements_parts.specs.declared.fault.StatementRule.{StatementRule}
use Rattle.statements_parts.specs.declared.fault.StatementRule.TheVariants.{Layout, CriticalUnknown, BadReason, RemoveInComplete}
use Rattle.statements_crl.specs.declared.entry_extension.EntryExtensionKind.{EntryExtensionKind}
use Rattle.statements_crl.specs.declared.entry_extension.EntryExtensionKind.TheVariants as Kind
use Rattle.statements_crl.specs.EntryExtension.{entry_extension_kind, encoded_reason, reason_code, reason_by_kind, reason_with, TakenOfEntry, nothing_taken_of_entry, one_entry_extension}
use Rattle.statements_crl.specs.EntryForms.{id_ce, IsReasonCode, GivesReason}
use Rattle.statements_crl.proofs.ExtensionTypes.{some_where, one_number, HasType, has_type, has_number, Differs, others_differ, not_none, is_some_of, false_of, not_critical, uncritical}

differs : (n m : ℕ) → not (n == m) ≡ true → n ≢ m
differs n m e same = let yes = eq-eqb n m same in let both : not true ≡ true = ap not (sym yes) ∙ e in absurd cc

is_other : (b : Bool) (n m : ℕ) → (n == m) ≡ b → n ≢ m → not b ≡ true
is_other true n m e differ = absurd (differ (eqb-true n m e))
is_other false n m e differ = refl

pub some_is : {A F : Type 0} (o : Option A) (fault : F) (at : ℕ) (x : A) → or_fault o fault at ≡ Ok x → o ≡ Some x
some_is None fault at x e = absurd cc
some_is (Some y) fault at x e = ap (λ z. Some z) (ok_is y x e)

-- the octets of a CRLReason
reason_octets : (octets : List ℕ) (code : ℕ) → encoded_reason octets ≡ Some code → (octets ≡ 0x0A ∷ 1 ∷ code ∷ []) × (code ≤ 10) × (code ≢ 7)
unfolding encoded_reason
reason_octets [] code e = absurd cc
reason_octets (identifier ∷ []) code e = absurd cc
reason_octets (identifier ∷ size ∷ []) code e = absurd cc
reason_octets (identifier ∷ size ∷ found ∷ []) code e =
    let chosen = some_where (identifier == 0x0A && (size == 1 && is_reason found)) found code e in
    let first = and_parts (identifier == 0x0A) (size == 1 && is_reason found) chosen.0 in
    let second = and_parts (size == 1) (is_reason found) first.1 in
    let used = and_parts (nat_lt found 11) (not (found == 7)) second.1 in
    let low = ltb-true found 11 used.0 in
    let most : found ≤ 10 = omega arith in
    let three : identifier ∷ size ∷ found ∷ [] ≡ 0x0A ∷ 1 ∷ found ∷ [] = rw (eqb-true identifier 0x0A first.0, eqb-true size 1 second.0) refl in
    let P : ℕ → Type 0 = λ n. (identifier ∷ size ∷ found ∷ [] ≡ 0x0A ∷ 1 ∷ n ∷ []) × (n ≤ 10) × (n ≢ 7) in
    subst P chosen.1 (three, most, differs found 7 used.1)
reason_octets (identifier ∷ size ∷ found ∷ other ∷ octets) code e = absurd cc

encodes_reason : (octets : List ℕ) (code : ℕ) → octets ≡ 0x0A ∷ 1 ∷ code ∷ [] → Encodes octets (primitive 0x0A (code ∷ []))
encodes_reason octets code e =
    (omega arith, refl, refl, (λ i. absurd cc, λ i. absurd cc, λ i. absurd cc, λ i. absurd cc, λ i. absurd cc, λ i. tt), omega arith, e)

reason_read : (code : ℕ) → code ≤ 10 → code ≢ 7 → encoded_reason (0x0A ∷ 1 ∷ code ∷ []) ≡ Some code
unfolding encoded_reason
reason_read code most used =
    let served = and_from (nat_lt code 11) (not (code == 7)) (lt-ltb code 11 (omega arith)) (is_other (code == 7) code 7 refl used) in
    ap (λ b. if b then Some code else None) served

code_ok : (one : Extension) (code : ℕ) → reason_code one ≡ Ok code → IsReasonCode one code
unfolding reason_code
code_ok one code e =
    let found = bind_ok {A = ℕ} (or_fault (encoded_reason (body one.value)) BadReason one.whole.at) _ code e in
    let stays = bind_ok {A = Unit {0}} (check_that (not (found.0 == 8)) RemoveInComplete one.whole.at) _ code found.2 in
    let read = reason_octets (body one.value) found.0 (some_is (encoded_reason (body one.value)) BadReason one.whole.at found.0 found.1) in
    subst (IsReasonCode one) (ok_is {E = StatementRule × ℕ} found.0 code stays.2) record {
      enumerated = encodes_reason (body one.value) found.0 read.0;
      most = read.1;
      used = read.2;
      stays = differs found.0 8 (check_ok _ _ _ _ stays.1);
    }

code_again : (one : Extension) (code : ℕ) → IsReasonCode one code → reason_code one ≡ Ok code
unfolding reason_code
code_again one code is =
    let read : encoded_reason (body one.value) ≡ Some code = ap encoded_reason is.enumerated.5 ∙ reason_read code is.most is.used in
    rw (read, check_again (not (code == 8)) RemoveInComplete one.whole.at (is_other (code == 8) code 8 refl is.stays)) refl

-- what one extension says of the reason
abbrev IsKnown : Extension → Type 0
IsKnown one = one.critical ≡ true → (one.oid ≡ id_ce 21) ⊎ (one.oid ≡ id_ce 24)

record Tells (one : Extension) (before after : ℕ) : Type 0 where
  given : one.oid ≡ id_ce 21 → IsReasonCode one after
  kept : one.oid ≢ id_ce 21 → after ≡ before
  own : one.oid ≢ id_ce 29
  known : IsKnown one

tells_by : (kind : EntryExtensionKind) (one : Extension) (before after : ℕ) → HasType kind one.oid → reason_by_kind kind one before ≡ Ok after → Tells one before after
tells_by Kind.ReasonCode one before after is e = record {
  given = λ same. code_ok one after e;
  kept = λ differ. absurd (differ is);
  own = one_number one.oid 21 29 is refl;
  known = λ critical. inl is;
}
tells_by Kind.InvalidityDate one before after is e = record {
  given = λ same. absurd (one_number one.oid 24 21 is refl same);
  kept = λ differ. sym (ok_is {E = StatementRule × ℕ} before after e);
  own = one_number one.oid 24 29 is refl;
  known = λ critical. inr is;
}
tells_by Kind.CertificateIssuer one before after is e = absurd cc
tells_by Kind.Other one before after is e =
    let free = bind_ok {A = Unit {0}} (check_that (not one.critical) CriticalUnknown one.whole.at) (λ free. Ok before) after e in record {
      given = λ same. absurd (is.0 same);
      kept = λ differ. sym (ok_is {E = StatementRule × ℕ} before after free.2);
      own = is.2;
      known = λ critical. absurd (not_critical one.critical (false_of one.critical (check_ok _ _ _ _ free.1)) critical);
    }

told_ok : (one : Extension) (before after : ℕ) → reason_with one before ≡ Ok after → Tells one before after
unfolding reason_with
told_ok one before after e = tells_by (entry_extension_kind one.oid) one before after (has_type one.oid) e

neither : (one : Extension) → HasType Kind.Other one.oid → (one.oid ≡ id_ce 21) ⊎ (one.oid ≡ id_ce 24) → ⊥
neither one is (inl same) = is.0 same
neither one is (inr same) = is.1 same

again_by : (kind : EntryExtensionKind) (one : Extension) (before after : ℕ) → HasType kind one.oid → Tells one before after → reason_by_kind kind one before ≡ Ok after
again_by Kind.ReasonCode one before after is tells = code_again one after (tells.given is)
again_by Kind.InvalidityDate one before after is tells = ap (λ n. Ok n) (sym (tells.kept (one_number one.oid 24 21 is refl)))
again_by Kind.CertificateIssuer one before after is tells = absurd (tells.own is)
again_by Kind.Other one before after is tells =
    rw (check_again (not one.critical) CriticalUnknown one.whole.at (uncritical one.critical (λ yes. neither one is (tells.known yes)))) (ap (λ n. Ok n) (sym (tells.kept is.0)))

told_again : (one : Extension) (before after : ℕ) → Tells one before after → reason_with one before ≡ Ok after
unfolding reason_with
told_again one before after tells = again_by (entry_extension_kind one.oid) one before after (has_type one.oid) tells

-- one more extension
abbrev type_of : Extension → List ℕ
type_of one = one.oid

record Step (from : TakenOfEntry) (value : Place) (to : TakenOfEntry) : Type 0 where
  one : Extension
  is : IsExtension value one
  new : contains from.types one.oid ≡ false
  added : to.types ≡ insert from.types one.oid
  tells : Tells one from.reason to.reason

abbrev taken_with : Oids → ℕ → TakenOfEntry
taken_with types reason = record { types = types; reason = reason }

step_ok : (from : TakenOfEntry) (value : Place) (to : TakenOfEntry) → one_entry_extension from value ≡ Ok to → Step from value to
unfolding one_entry_extension
step_ok from value to e =
    let read = bind_ok {A = Extension × Oids} (new_extension from.types value) _ to e in
    let reason = bind_ok {A = ℕ} (reason_with read.0.0 from.reason) _ to read.2 in
    let found = new_extension_ok from.types value read.0 read.1 in
    let made = taken_with read.0.1 reason.0 in
    subst (Step from value) {x = made} (ok_is {E = StatementRule × ℕ} made to reason.2) record {
      one = read.0.0;
      is = found.is;
      new = found.new;
      added = found.added_is;
      tells = told_ok read.0.0 from.reason reason.0 reason.1;
    }

step_again : (from : TakenOfEntry) (value : Place) (one : Extension) (after : ℕ) → IsExtension value one → contains from.types one.oid ≡ false → Tells one from.reason after → one_entry_extension from value ≡ Ok (taken_with (insert from.types one.oid) after)
unfolding one_entry_extension
step_again from value one after is new tells =
    rw (new_extension_again from.types value one is new, told_again one from.reason after tells) refl

-- extensions in a list
abbrev Gives : ℕ → Extension → Type 0
Gives reason one = one.oid ≡ id_ce 21 → IsReasonCode one reason

record Reads (from : TakenOfEntry) (values : List Place) (to : TakenOfEntry) : Type 0 where
  list : List Extension
  each : AllZip IsExtension values list
  new : AreNew type_of from.types list
  given : All (Gives to.reason) list
  kept : All (Differs 21) list → to.reason ≡ from.reason
  own : All (Differs 29) list
  known : All IsKnown list

first_given : (one : Extension) (others : List Extension) (from next to : ℕ) → Tells one from next → AllPairs (λ one other. one.oid ≢ other.oid) (one ∷ others) → (All (Differs 21) others → to ≡ next) → Gives to one
first_given one others from next to tells pairs kept is =
    subst (IsReasonCode one) (sym (kept (others_differ 21 one others pairs is))) (tells.given is)

reads_of : (from : TakenOfEntry) (values : List Place) (to : TakenOfEntry) → Leads Step from values to → Reads from values to
reads_of from [] to same = record {
  list = [];
  each = tt;
  new = tt;
  given = All-nil (Gives to.reason);
  kept = λ none. ap (λ (t : TakenOfEntry). t.reason) (sym same);
  own = All-nil (Differs 29);
  known = All-nil IsKnown;
}
reads_of from (value ∷ values) to (next, step, others) =
    let rest = reads_of next values to others in
    let new : AreNew type_of from.types (step.one ∷ rest.list) = (step.new, subst (λ types. AreNew type_of types rest.list) step.added rest.new) in
    let pairs = new_pairs type_of from.types (step.one ∷ rest.list) new in record {
      list = step.one ∷ rest.list;
      each = (step.is, rest.each);
      new = new;
      given = All-cons (Gives to.reason) step.one rest.list (first_given step.one rest.list from.reason next.reason to.reason step.tells pairs rest.kept) rest.given;
      kept = λ none. rest.kept (All-tail (Differs 21) step.one rest.list none) ∙ step.tells.kept (All-head (Differs 21) step.one rest.list none);
      own = All-cons (Differs 29) step.one rest.list step.tells.own rest.own;
      known = All-cons IsKnown step.one rest.list step.tells.known rest.known;
    }

-- and back: the extensions give this reason
record Given (reason : ℕ) (list : List Extension) : Type 0 where
  given : All (Gives reason) list
  own : All (Differs 29) list
  known : All IsKnown list

rest_given : (reason : ℕ) (one : Extension) (others : List Extension) → Given reason (one ∷ others) → Given reason others
rest_given reason one others all = record {
  given = All-tail (Gives reason) one others all.given;
  own = All-tail (Differs 29) one others all.own;
  known = All-tail IsKnown one others all.known;
}

each_again : (from : TakenOfEntry) (values : List Place) (list : List Extension) (reason : ℕ) → AllZip IsExtension values list → AreNew type_of from.types list → Given reason list → (All (Differs 21) list → from.reason ≡ reason) → (to : TakenOfEntry) × (each one_entry_extension from values ≡ Ok to) × (to.reason ≡ reason)
each_again from [] [] reason zip new all kept = (from, refl, kept (All-nil (Differs 21)))
each_again from [] (one ∷ list) reason zip new all kept = absurd zip
each_again from (value ∷ values) [] reason zip new all kept = absurd zip
each_again from (value ∷ values) (one ∷ list) reason zip new all kept =
    by (has_number 21 one.oid) (λ after stays. each_again (taken_with (insert from.types one.oid) after) values list reason zip.1 new.1 (rest_given reason one list all) stays)
  where
    Reaches : TakenOfEntry → List Place → Type 0
    Reaches start places = (to : TakenOfEntry) × (each one_entry_extension start places ≡ Ok to) × (to.reason ≡ reason)

    Continues : Type 0
    Continues = (after : ℕ) → (All (Differs 21) list → after ≡ reason) → Reaches (taken_with (insert from.types one.oid) after) values

    own : one.oid ≢ id_ce 29
    own = All-head (Differs 29) one list all.own

    known : IsKnown one
    known = All-head IsKnown one list all.known

    next : (after : ℕ) → Tells one from.reason after → Reaches (taken_with (insert from.types one.oid) after) values → Reaches from (value ∷ values)
    next after tells rest = (rest.0, rw (step_again from value one after zip.0 new.0 tells) rest.1, rest.2)

    by : (one.oid ≡ id_ce 21) ⊎ (one.oid ≢ id_ce 21) → Continues → Reaches from (value ∷ values)
    by (inl is) rest =
        next reason record { given = All-head (Gives reason) one list all.given; kept = λ differ. absurd (differ is); own = own; known = known } (rest reason (λ none. refl))
    by (inr differ) rest =
        next from.reason record { given = λ is. absurd (differ is); kept = λ differ. refl; own = own; known = known } (rest from.reason (λ none. kept (All-cons (Differs 21) one list differ none)))

pub reason_ok : (list : Place) (u : Unit {0}) (taken : TakenOfEntry) → tag list ≡ 0x30 → some Layout (members list) ≡ Ok u → each one_entry_extension nothing_taken_of_entry ((members list).values) ≡ Ok taken → GivesReason list taken.reason
reason_ok list u taken t one e =
    let first = some_ok _ _ _ one in
    let reads = reads_of nothing_taken_of_entry ((members list).values) taken (each_ok one_entry_extension Step step_ok nothing_taken_of_entry ((members list).values) taken e) in
    record {
      extensions = reads.list;
      sequence = t;
      some = not_none ((members list).values) reads.list first.0 first.1 first.2 reads.each;
      each = reads.each;
      types = new_pairs type_of empty reads.list reads.new;
      given = reads.given;
      unspecified = reads.kept;
      own = reads.own;
      known = reads.known;
    }

pub some_again_of : (list : Place) (reason : ℕ) → GivesReason list reason → some Layout (members list) ≡ Ok tt
some_again_of list reason is =
    let first = is_some_of ((members list).values) is.extensions is.each is.some in
    some_again Layout (members list) first.0 first.1 first.2

pub reason_again : (list : Place) (reason : ℕ) → GivesReason list reason → (taken : TakenOfEntry) × (each one_entry_extension nothing_taken_of_entry ((members list).values) ≡ Ok taken) × (taken.reason ≡ reason)
reason_again list reason is =
    each_again nothing_taken_of_entry ((members list).values) is.extensions reason is.each (pairs_are_new type_of is.extensions is.types)
    record { given = is.given; own = is.own; known = is.known } (λ none. sym (is.unspecified none))
