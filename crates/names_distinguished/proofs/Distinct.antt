-- A set that was read has no type twice.
use Rattle.std.proofs.Common.{◌≡◌, ◌<◌, ◌≤◌, ◌+◌, ℕ, zero, suc, List, [], ◌∷◌, ◌++◌, map, Bool, true, false, not, Result, Ok, Option, Some, None, refl, sym, ap, ◌∙◌, subst, arith, append_assoc, IsTrue, get_or, inl, inr}
use Rattle.std.specs.Prelude.{◌==◌, ◌||◌, if◌then◌else◌, is_some}
use Rattle.std.specs.List.{AllByRecursion}
use Rattle.std.proofs.lemmas.Bool.{both_ways, eqb-true, or_parts, and_from, and_parts, cases_lt, lt-ltb, le-ltb, not-true, false_from_ne_true}
use Rattle.std.proofs.lemmas.Slice.Eq.{bytes_eq-Decides}
use Rattle.asn.specs.Length.{header_len, contents_len, end_of}
use Rattle.asn.specs.Place.{Place, tag, body, body_place, ends, front, behind, parts, values}
use Rattle.asn.specs.Members.{Members, members, members_at, with_first}
use Rattle.asn.specs.Walk.{◌>>=◌, each, check_that}
use Rattle.asn.proofs.Laws.{bind_ok, check_ok, each_next}
use Rattle.names_distinguished.specs.declared.fault.NameRule.{NameRule}
use Rattle.names_distinguished.specs.declared.fault.NameRule.TheVariants.{RdnRepeat, SetOrder, Text}
use Rattle.names_distinguished.specs.AttributeValue.{ComparedValue}
use Rattle.names_distinguished.specs.DistinguishedName.{ComparedAttribute, value_at}
use Rattle.names_distinguished.specs.NameLayout.{AttributePlaces, attribute_members, attribute_order, attribute, has_kind, has_kind_in, has_kind_before, is_less, is_string}
use Rattle.names_distinguished.specs.NameParts.{entry_in, entry_at, are_distinct}
use Rattle.names_distinguished.proofs.Matching.{value_later, value_none}

-- offsets ascend
abbrev Upward : ℕ → List Place → Type 0
Upward at [] = Unit {0}
Upward at (p ∷ ps) = (at ≤ p.at) × Upward (p.at + 1) ps

upward_from : (at lower : ℕ) (ps : List Place) → lower ≤ at → Upward at ps → Upward lower ps
upward_from at lower [] le up = tt
upward_from at lower (p ∷ ps) le up = ((let here = up.0 in omega arith), up.1)

upward_all : (at : ℕ) (ps : List Place) → Upward at ps → AllByRecursion (λ (p : Place). at ≤ p.at) ps
upward_all at [] up = tt
upward_all at (p ∷ ps) up = (up.0, upward_all at ps (upward_from (p.at + 1) at ps (let here = up.0 in omega arith) up.1))

header_some : (text : List ℕ) → 2 ≤ header_len text
header_some text = elim (cases_lt (get_or text 1 0) 128) [ inl a ↦ rw (lt-ltb (get_or text 1 0) 128 a) (omega arith) | inr a ↦ rw (le-ltb (get_or text 1 0) 128 a) (omega arith) ]

some_of : (at h c : ℕ) → 2 ≤ h → at + 1 ≤ at + (h + c)
some_of at h c two = omega arith

first_upward : (text : Place) (rest : List Place) (b : Bool) → Upward (text.at + end_of text.octets) rest → Upward text.at (if b then [] else front text ∷ rest)
unfolding front
first_upward text rest true up = tt
first_upward text rest false up = (omega arith, upward_from (text.at + end_of text.octets) (text.at + 1) rest (some_of text.at (header_len text.octets) (contents_len text.octets) (header_some text.octets)) up)

parts_upward : (most : ℕ) (text : Place) → Upward text.at (parts most text)
unfolding behind
parts_upward zero text = tt
parts_upward (suc most) text = first_upward text (parts most (behind text)) (ends text) (parts_upward most (behind text))

members_upward : (place : Place) → (at : ℕ) × Upward at (members place).values
unfolding members_at values
members_upward place = (_, parts_upward _ (body_place place))

-- what reading says of each attribute
abbrev IsChecked : List Place → Place → Type 0
IsChecked all place = (fields : AttributePlaces) × (attribute_members place ≡ Ok fields) × (has_kind_before (body fields.kind) place.at all ≡ false)

attribute_checked : (all : List Place) (before : List ℕ) (place : Place) (x : List ℕ) → attribute all before place ≡ Ok x → IsChecked all place
unfolding attribute attribute_order
attribute_checked all before place x e =
    let b = bind_ok (attribute_members place) (λ fields. attribute_order all before (body fields.kind) place >>= λ ordered. check_that (is_string (tag fields.value) (body fields.value)) Text fields.value.at >>= λ string. Ok place.octets) x e in
    let c = bind_ok (attribute_order all before (body b.0.kind) place) (λ ordered. check_that (is_string (tag b.0.value) (body b.0.value)) Text b.0.value.at >>= λ string. Ok place.octets) x b.2 in
    let d = bind_ok (check_that (not (has_kind_before (body b.0.kind) place.at all)) RdnRepeat place.at) (λ new. check_that (not (is_less place.octets before)) SetOrder place.at) c.0 c.1 in
    (b.0, b.1, not-true (has_kind_before (body b.0.kind) place.at all) (check_ok (not (has_kind_before (body b.0.kind) place.at all)) RdnRepeat place.at d.0 d.1))

all_checked : (all places : List Place) (before x : List ℕ) → each (attribute all) before places ≡ Ok x → AllByRecursion (IsChecked all) places
all_checked all [] before x e = tt
all_checked all (p ∷ ps) before x e =
    let s = each_next (attribute all) before p ps x e in
    (attribute_checked all before p s.0 s.1, all_checked all ps s.0 x s.2)

all_below : (ps : List Place) (at later : ℕ) → at ≤ later → AllByRecursion (λ (q : Place). q.at < at) ps → AllByRecursion (λ (q : Place). q.at < later) ps
all_below [] at later le below = tt
all_below (p ∷ ps) at later le below = ((let here = below.0 in omega arith), all_below ps at later le below.1)

below_and : (ps : List Place) (x : Place) (at later : ℕ) → at ≤ later → x.at < later → AllByRecursion (λ (q : Place). q.at < at) ps → AllByRecursion (λ (q : Place). q.at < later) (ps ++ x ∷ [])
below_and [] x at later le lt below = (lt, tt)
below_and (p ∷ ps) x at later le lt below = ((let here = below.0 in omega arith), below_and ps x at later le lt below.1)

-- a type that no earlier attribute has is not that of one before
later_apart : (here later : Bool) → here ≡ false → (if here then false else later) ≡ false → later ≡ false
later_apart true later e f = absurd cc
later_apart false later e f = f

not_at : (a b : ℕ) → a < b → (a == b) ≡ false
not_at a b lt = false_from_ne_true (a == b) (λ e. let same = eqb-true a b e in omega arith)

before_apart : (kind : List ℕ) (at : ℕ) (done others : List Place) (p : Place) → AllByRecursion (λ (q : Place). q.at < at) done → p.at < at → has_kind_before kind at (done ++ p ∷ others) ≡ false → has_kind kind p ≡ false
before_apart kind at [] others p below lt e = (or_parts (has_kind kind p) (has_kind_before kind at others) (later_apart (p.at == at) (has_kind kind p || has_kind_before kind at others) (not_at p.at at lt) e)).0
before_apart kind at (d ∷ ds) others p below lt e =
    before_apart kind at ds others p below.1 lt
    (or_parts (has_kind kind d) (has_kind_before kind at (ds ++ p ∷ others)) (later_apart (d.at == at) (has_kind kind d || has_kind_before kind at (ds ++ p ∷ others)) (not_at d.at at below.0) e)).1

entry_kind : (place : Place) (fields : AttributePlaces) → attribute_members place ≡ Ok fields → (entry_at place).0 ≡ body fields.kind
unfolding entry_at
entry_kind place fields e = ap (λ (r : Result AttributePlaces (NameRule × ℕ)). (entry_in r).0) e

has_kind_itself : (kind : List ℕ) (place : Place) (fields : AttributePlaces) → attribute_members place ≡ Ok fields → body fields.kind ≡ kind → has_kind kind place ≡ true
unfolding has_kind
has_kind_itself kind place fields e same = ap (has_kind_in kind) e ∙ (bytes_eq-Decides (body fields.kind) kind).1 same

none_later : (all done others ys : List Place) (p : Place) (fields : AttributePlaces) → all ≡ done ++ p ∷ others → attribute_members p ≡ Ok fields
    → AllByRecursion (λ (q : Place). q.at < p.at + 1) done → AllByRecursion (λ (q : Place). p.at + 1 ≤ q.at) ys → AllByRecursion (IsChecked all) ys
    → value_at (entry_at p).0 (map entry_at ys) ≡ None
none_later all done others [] p fields is read below above checked = value_none (entry_at p).0
none_later all done others (y ∷ ys) p fields is read below above checked =
    let c = checked.0 in
    let above_here : p.at + 1 ≤ y.at = above.0 in
    let apart = before_apart (body c.0.kind) y.at done others p (all_below done (p.at + 1) y.at above_here below) (omega arith) (subst (λ (list : List Place). has_kind_before (body c.0.kind) y.at list ≡ false) is c.2) in
    value_later (entry_at p).0 (entry_at y) (map entry_at ys) (λ same. both_ways (has_kind (body c.0.kind) p) apart (has_kind_itself (body c.0.kind) p fields read (sym (entry_kind p fields read) ∙ (same ∙ entry_kind y c.0 c.1))))
    ∙ none_later all done others ys p fields is read below above.1 checked.1

distinct_from : (all done xs : List Place) (at : ℕ) → all ≡ done ++ xs → AllByRecursion (λ (q : Place). q.at < at) done → Upward at xs → AllByRecursion (IsChecked all) xs → IsTrue (are_distinct (map entry_at xs))
unfolding are_distinct
distinct_from all done [] at is below up checked = refl
distinct_from all done (x ∷ xs) at is below up checked =
    let c = checked.0 in
    let here : at ≤ x.at = up.0 in
    let more = below_and done x at (x.at + 1) (omega arith) (omega arith) below in
    and_from (not (is_some (value_at (entry_at x).0 (map entry_at xs)))) (are_distinct (map entry_at xs))
    (ap (λ o. not (is_some o)) (none_later all done xs xs x c.0 is c.1 (all_below done at (x.at + 1) (omega arith) below) (upward_all (x.at + 1) xs up.1) checked.1))
    (distinct_from all (done ++ x ∷ []) xs (x.at + 1) (is ∙ sym (append_assoc done (x ∷ []) xs)) more up.1 checked.1)

pub set_distinct : (place : Place) (x : List ℕ) → each (attribute ((members place).values)) [] ((members place).values) ≡ Ok x → IsTrue (are_distinct (map entry_at (members place).values))
set_distinct place x e =
    let values = (members place).values in
    let up = members_upward place in
    distinct_from values [] values up.0 refl tt up.1 (all_checked values values [] x e)

no_value_of : (o : Option ComparedValue) → is_some o ≡ false → o ≡ None
no_value_of None e = refl
no_value_of (Some v) e = absurd cc

pub distinct_parts : (e : ComparedAttribute) (es : List ComparedAttribute) → IsTrue (are_distinct (e ∷ es)) → (value_at e.0 es ≡ None) × IsTrue (are_distinct es)
unfolding are_distinct
distinct_parts e es h =
    let p = and_parts (not (is_some (value_at e.0 es))) (are_distinct es) h in
    (no_value_of (value_at e.0 es) (not-true (is_some (value_at e.0 es)) p.0), p.1)

pub others_distinct : (old new : Members) (place : Place) → old ≡ with_first place new → IsTrue (are_distinct (map entry_at old.values)) → IsTrue (are_distinct (map entry_at new.values))
others_distinct old new place e h =
    (distinct_parts (entry_at place) (map entry_at new.values) (subst (λ (m : Members). IsTrue (are_distinct (map entry_at m.values))) e h)).1
