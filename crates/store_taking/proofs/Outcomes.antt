-- What becomes of a list, and of a single response, beside the rows of what is held.
use Rattle.std.proofs.Common.{◌≡◌, ℕ, List, [], ◌∷◌, find, true, false, Option, Some, None, option_map, refl, sym, ap, ap₂, subst, ◌∙◌, inl, inr, Less, Equal, Greater}
use Rattle.std.proofs.lemmas.Bool.{cases_Bool}
use Rattle.std.proofs.lemmas.Cmp.{nat_list_cmp_total}
use Rattle.std.proofs.lemmas.Map.Text.{is_eq-slice_cmp}
use Rattle.std.specs.Cmp.{IsTotalOrder}
use Rattle.std.specs.Cmp.Lexicographic.{slice_cmp, bytes_decides}
use Rattle.std.specs.List.{AllByRecursion}
use Rattle.std.specs.Ordering.{nat_cmp, is_eq, ordering_reverse}
use Rattle.std.specs.Str.{bytes_eq}
use Rattle.std.specs.declared.cmp.Ordering.{Ordering}
use Rattle.sqlite_trees.specs.Tree.{IsAscending}
use Rattle.statements_facts.specs.declared.scope.Scope.{Scope}
use Rattle.statements_facts.specs.Listed.{ListedSerial, first_reason}
use Rattle.statements_facts.specs.Statement.{CrlFact, OcspFact}
use Rattle.store_rows.specs.declared.crl.Head.{Head}
use Rattle.statements_facts.specs.declared.answer.OcspAnswer.{OcspAnswer}
use Rattle.store_rows.specs.Contents.{CrlHead, CrlRow, Contents, head_of, said_of, is_crl_of, is_single_of, scope_number}
use Rattle.store_rows.specs.Places.{IsBelow, entries_under}
use Rattle.store_rows.specs.Seen.{seen_head}
use Rattle.statements_facts.specs.Answer.{seen_ocsp}
use Rattle.statements_facts.specs.declared.counts.TakenAs.{TakenAs}
use Rattle.statements_facts.specs.declared.counts.TakenAs.TheVariants.{Stored, Kept, Contradicted}
use Rattle.statements_facts.specs.Coming.{CrlIsTakenAs, OcspIsTakenAs}
use Rattle.statements_facts.proofs.Laws.{never_itself_crl}
use Rattle.store_maps.specs.Held.{crl_under, ocsp_under}
use Rattle.store_maps.specs.Laws.{fact_of_rows}
use Rattle.store_taking.specs.Lists.{IsToldByEntries}

-- ---- two lists of entries that ascend and say the same are one

abbrev order : IsTotalOrder (slice_cmp nat_cmp)
order = nat_list_cmp_total

same_serial : (a b : List ℕ) → slice_cmp nat_cmp a b ≡ Equal → a ≡ b
same_serial a b e = (bytes_decides a b).0 (sym (is_eq-slice_cmp a b) ∙ ap is_eq e)

apart : (a b : List ℕ) → slice_cmp nat_cmp a b ≡ Less → bytes_eq a b ≡ false
apart a b low = sym (is_eq-slice_cmp a b) ∙ ap is_eq low

apart_back : (a b : List ℕ) → slice_cmp nat_cmp a b ≡ Less → bytes_eq b a ≡ false
apart_back a b low = sym (is_eq-slice_cmp b a) ∙ ap is_eq (order.antisymm b a ∙ ap ordering_reverse low)

itself : (a : List ℕ) → bytes_eq a a ≡ true
itself a = (bytes_decides a a).1 refl

none_said : (serial : List ℕ) (xs : List ListedSerial) → AllByRecursion (λ (x : ListedSerial). bytes_eq x.serial serial ≡ false) xs → first_reason xs serial ≡ None
none_said serial [] h = refl
none_said serial (x ∷ xs) h = rw h.0 (none_said serial xs h.1)

all_above : (x : ListedSerial) (xs : List ListedSerial) → AllByRecursion (IsBelow x) xs → AllByRecursion (λ (y : ListedSerial). bytes_eq y.serial x.serial ≡ false) xs
all_above x [] h = tt
all_above x (y ∷ xs) h = (apart_back x.serial y.serial h.0, all_above x xs h.1)

further : (x y : ListedSerial) (xs : List ListedSerial) → IsBelow x y → AllByRecursion (IsBelow y) xs → AllByRecursion (IsBelow x) xs
further x y [] low h = tt
further x y (z ∷ xs) low h = (order.trans x.serial y.serial z.serial low h.0, further x y xs low h.1)

first_said : (x : ListedSerial) (xs : List ListedSerial) → first_reason (x ∷ xs) x.serial ≡ Some x.reason
first_said x xs = rw (itself x.serial) refl

below_said : (x y : ListedSerial) (ys : List ListedSerial) → IsBelow x y → IsAscending IsBelow (y ∷ ys) → first_reason (y ∷ ys) x.serial ≡ None
below_said x y ys low up = none_said x.serial (y ∷ ys) (all_above x (y ∷ ys) (low, further x y ys low up.0))

same_tails : (x y : ListedSerial) (xs ys : List ListedSerial) → x.serial ≡ y.serial → AllByRecursion (IsBelow x) xs → AllByRecursion (IsBelow y) ys
    → ((serial : List ℕ) → first_reason (x ∷ xs) serial ≡ first_reason (y ∷ ys) serial) → (serial : List ℕ) → first_reason xs serial ≡ first_reason ys serial
same_tails x y xs ys one up up2 all serial = elim (cases_Bool (bytes_eq x.serial serial)) [
  | inl here ↦ (let at : x.serial ≡ serial = (bytes_decides x.serial serial).0 here in
      subst (λ s. first_reason xs s ≡ first_reason ys s) at (none_said x.serial xs (all_above x xs up) ∙ sym (subst (λ s. first_reason ys s ≡ None) (sym one) (none_said y.serial ys (all_above y ys up2)))))
  | inr off ↦ (
      let first : first_reason (x ∷ xs) serial ≡ first_reason xs serial = rw off refl in
      let off2 : bytes_eq y.serial serial ≡ false = subst (λ s. bytes_eq s serial ≡ false) one off in
      let second : first_reason (y ∷ ys) serial ≡ first_reason ys serial = rw off2 refl in
      sym first ∙ all serial ∙ second)
]

pub same_said : (xs ys : List ListedSerial) → IsAscending IsBelow xs → IsAscending IsBelow ys → ((serial : List ℕ) → first_reason xs serial ≡ first_reason ys serial) → xs ≡ ys
same_said [] [] up up2 all = refl
same_said [] (y ∷ ys) up up2 all = absurd (let no : None ≡ Some y.reason = all y.serial ∙ first_said y ys in cc)
same_said (x ∷ xs) [] up up2 all = absurd (let no : Some x.reason ≡ None = sym (first_said x xs) ∙ all x.serial in cc)
same_said (x ∷ xs) (y ∷ ys) up up2 all = from (λ one. same_said xs ys up.1 up2.1 (same_tails x y xs ys one up.0 up2.0 all)) (slice_cmp nat_cmp x.serial y.serial) refl
  where
    from : (x.serial ≡ y.serial → xs ≡ ys) → (o : Ordering) → slice_cmp nat_cmp x.serial y.serial ≡ o → ◌≡◌ {A = List ListedSerial} (x ∷ xs) (y ∷ ys)
    from tails Less low = absurd (let no : Some x.reason ≡ None = sym (first_said x xs) ∙ all x.serial ∙ below_said x y ys low up2 in cc)
    from tails Greater high = absurd (let low = order.antisymm y.serial x.serial ∙ ap ordering_reverse high in let no : None ≡ Some y.reason = sym (below_said y x xs low up) ∙ all y.serial ∙ first_said y ys in cc)
    from tails Equal e =
        let one = same_serial x.serial y.serial e in
        let reasons : Some x.reason ≡ Some y.reason = sym (first_said x xs) ∙ all x.serial ∙ ap (first_reason (y ∷ ys)) one ∙ first_said y ys in
        let reason : x.reason ≡ y.reason = cc in
        ap₂ (λ (z : ListedSerial) zs. z ∷ zs) (λ i. record { serial = one i; reason = reason i }) (tails one)

-- ---- lists

-- nothing is held
pub no_list_comes : (it : Contents) (scope : Scope) (id : ℕ) (answer : Option Head) (fact : CrlFact) → answer ≡ None → option_map seen_head answer ≡ option_map head_of (find (is_crl_of id scope) it.crls) → CrlIsTakenAs (crl_under it scope id) fact Stored
no_list_comes it scope id answer fact none is = cases (find (is_crl_of id scope) it.crls) (sym (ap (option_map seen_head) none) ∙ is)
  where
    cases : (row : Option CrlRow) → None ≡ option_map head_of row
        → CrlIsTakenAs (option_map (λ (row : CrlRow). record { number = row.number; window = row.window; reasons = first_reason (entries_under it.entries id (scope_number scope)) }) row) fact Stored
    cases None e = refl
    cases (Some row) e = let no : None ≡ Some (head_of row) = e in cc

-- a list is held
pub list_is : (it : Contents) (scope : Scope) (id : ℕ) (answer : Option Head) (head : Head) → answer ≡ Some head → option_map seen_head answer ≡ option_map head_of (find (is_crl_of id scope) it.crls)
    → crl_under it scope id ≡ Some (fact_of_rows (seen_head head) (entries_under it.entries id (scope_number scope)))
list_is it scope id answer head some is = cases (find (is_crl_of id scope) it.crls) (sym (ap (option_map seen_head) some) ∙ is)
  where
    cases : (row : Option CrlRow) → Some (seen_head head) ≡ option_map head_of row
        → option_map (λ (row : CrlRow). record { number = row.number; window = row.window; reasons = first_reason (entries_under it.entries id (scope_number scope)) }) row ≡ Some (fact_of_rows (seen_head head) (entries_under it.entries id (scope_number scope)))
    cases None e = let no : Some (seen_head head) ≡ None = e in cc
    cases (Some row) e =
        let same : seen_head head ≡ head_of row = cc in
        ap (λ (h : CrlHead). Some (fact_of_rows h (entries_under it.entries id (scope_number scope)))) (sym same)

-- and the entries tell
pub entries_tell : (held listed : List ListedSerial) (head : CrlHead) (outcome : TakenAs) → IsAscending IsBelow held → IsAscending IsBelow listed → IsToldByEntries held listed outcome
    → CrlIsTakenAs (Some (fact_of_rows head held)) (fact_of_rows head listed) outcome
entries_tell held listed head Stored up up2 tells = absurd tells
entries_tell held listed head Kept up up2 tells = (
  never_itself_crl (fact_of_rows head listed) (fact_of_rows head held) refl,
  λ against. against.1 (ap (fact_of_rows head) (sym tells)),
)
entries_tell held listed head Contradicted up up2 tells = (
  refl,
  λ same. tells (same_said held listed up up2 (λ serial. sym (ap (λ (fact : CrlFact). fact.reasons serial) same))),
)

-- ---- single responses

pub no_single_comes : (it : Contents) (name_hash serial : List ℕ) (id : ℕ) (answer : Option OcspAnswer) (fact : OcspFact) → answer ≡ None → option_map seen_ocsp answer ≡ option_map said_of (find (is_single_of id name_hash serial) it.singles)
    → OcspIsTakenAs (ocsp_under it name_hash serial id) fact Stored
no_single_comes it name_hash serial id answer fact none is = subst (λ held. OcspIsTakenAs held fact Stored) (sym (ap (option_map seen_ocsp) none) ∙ is) refl

pub single_comes : (it : Contents) (name_hash serial : List ℕ) (id : ℕ) (answer : Option OcspAnswer) (said : OcspAnswer) (fact : OcspFact) (outcome : TakenAs) → answer ≡ Some said → OcspIsTakenAs (Some (seen_ocsp said)) fact outcome
    → option_map seen_ocsp answer ≡ option_map said_of (find (is_single_of id name_hash serial) it.singles) → OcspIsTakenAs (ocsp_under it name_hash serial id) fact outcome
single_comes it name_hash serial id answer said fact outcome some comes is = subst (λ held. OcspIsTakenAs held fact outcome) (sym (ap (option_map seen_ocsp) some) ∙ is) comes
