-- Types that are new, seen from the attributes of an RDN and from the types alone.
use Rattle.std.proofs.Common.{◌≡◌, ◌<◌, ℕ, List, [], ◌∷◌, ◌++◌, map, Bool, true, false, Result, Ok, Err, refl, sym, ap, ◌∙◌, subst, arith, append_assoc}
use Rattle.std.specs.Prelude.{◌==◌, ◌||◌, if◌then◌else◌}
use Rattle.std.specs.List.{AllByRecursion}
use Rattle.std.proofs.lemmas.Bool.{both_ways, eq-eqb}
use Rattle.std.proofs.lemmas.Slice.Eq.{bytes_eq-Decides}
use Rattle.asn.specs.Identifier.{is_constructed}
use Rattle.asn.specs.Place.{Place, body, remaining, seen_tlv, Splits}
use Rattle.asn.specs.Members.{Members, members, left, with_first, next_in, next_at, none_in, none_left}
use Rattle.asn.specs.Walk.{◌>>=◌, is_a, required, next_or, ended}
use Rattle.asn.specs.declared.tlv.Cursor.{Cursor}
use Rattle.asn.specs.declared.tlv.Tlv.{Tlv}
use Rattle.asn.proofs.Laws.{bind_ok, ok_is, is_a_ok, required_ok}
use Rattle.names_distinguished.specs.declared.fault.NameRule.{NameRule}
use Rattle.names_distinguished.specs.declared.fault.NameRule.TheVariants.{NameLayout}
use Rattle.names_distinguished.specs.NameLayout.{AttributePlaces, attribute_members, has_kind, has_kind_in, has_kind_before}
use Rattle.names_distinguished.specs.Repetition.{Placed, kind_at, first_body, placed_at, kinds_left, IsNew, AreNew, IsRest}

same_kind : (kind value : Place) (parts : AttributePlaces) → record { kind = kind; value = value } ≡ parts → body kind ≡ body parts.kind
same_kind kind value parts same = ap (λ (p : AttributePlaces). body p.kind) same

-- the type of an attribute is the contents of its first member
pub kind_of_members : (place : Place) (parts : AttributePlaces) → attribute_members place ≡ Ok parts → kind_at place ≡ body parts.kind
unfolding attribute_members kind_at
kind_of_members place parts e =
    let b = bind_ok (is_a 0x30 NameLayout place) (λ sequence. required 6 NameLayout (members place) >>= λ kind. next_or NameLayout kind.1 >>= λ value. ended NameLayout value.1 >>= λ done. Ok (record { kind = kind.0; value = value.0 })) parts e in
    let c = bind_ok (required 6 NameLayout (members place)) (λ kind. next_or NameLayout kind.1 >>= λ value. ended NameLayout value.1 >>= λ done. Ok (record { kind = kind.0; value = value.0 })) parts b.2 in
    let d = bind_ok (next_or NameLayout c.0.1) (λ value. ended NameLayout value.1 >>= λ done. Ok (record { kind = c.0.0; value = value.0 })) parts c.2 in
    let f = bind_ok (ended NameLayout d.0.1) (λ done. Ok (record { kind = c.0.0; value = d.0.0 })) parts d.2 in
    let same : record { kind = c.0.0; value = d.0.0 } ≡ parts = ok_is {E = NameRule × ℕ} (record { kind = c.0.0; value = d.0.0 }) parts f.2 in
    ap (λ (t : ℕ). if is_constructed t then first_body (members place).values else []) (is_a_ok 0x30 NameLayout place b.0 b.1)
    ∙ (ap first_body (required_ok 6 NameLayout (members place) c.0 c.1).values ∙ same_kind c.0.0 d.0.0 parts same)

has_kind_by : (kind : List ℕ) (place : Place) (r : Result AttributePlaces (NameRule × ℕ)) → attribute_members place ≡ r → has_kind_in kind r ≡ true → kind_at place ≡ kind
has_kind_by kind place (Ok parts) e h = kind_of_members place parts e ∙ (bytes_eq-Decides (body parts.kind) kind).0 h
has_kind_by kind place (Err fault) e h = absurd cc

has_kind_is : (kind : List ℕ) (place : Place) → has_kind kind place ≡ true → kind_at place ≡ kind
unfolding has_kind
has_kind_is kind place h = has_kind_by kind place (attribute_members place) refl h

either_false : (a b : Bool) → (a ≡ true → ⊥) → b ≡ false → (a || b) ≡ false
either_false true b h e = absurd (h refl)
either_false false b h e = e

before_by : (here : Bool) (later : Bool) → (here ≡ false → later ≡ false) → (if here then false else later) ≡ false
before_by true later h = refl
before_by false later h = h refl

-- no earlier attribute has the type
pub is_new : (kind : List ℕ) (at : ℕ) (places : List Place) → IsNew at kind (map placed_at places) → has_kind_before kind at places ≡ false
is_new kind at [] new = refl
is_new kind at (p ∷ ps) new =
    before_by (p.at == at) (has_kind kind p || has_kind_before kind at ps) (λ apart.
    let n = new (λ same. both_ways (p.at == at) apart (eq-eqb p.at at same)) in
    either_false (has_kind kind p) (has_kind_before kind at ps) (λ h. n.0 (has_kind_is kind p h)) (is_new kind at ps n.1))

none_before : (kind : List ℕ) (end : ℕ) (places : List Place) → has_kind_before kind (next_in end places) places ≡ false
none_before kind end [] = refl
none_before kind end (p ∷ ps) = ap (λ (same : Bool). if same then false else (has_kind kind p || has_kind_before kind p.at ps)) (eq-eqb p.at p.at refl)

-- none stands before the first
pub first_has_none_before : (kind : List ℕ) (at : ℕ) (places : Members) → at ≡ next_at places → false ≡ has_kind_before kind at places.values
unfolding next_at
first_has_none_before kind at places e = sym (ap (λ (a : ℕ). has_kind_before kind a places.values) e ∙ none_before kind places.end places.values)

all_new_in : (all : List Placed) (limit : ℕ) (places : List Place) → none_in places ≡ true → AreNew all limit (map placed_at places)
all_new_in all limit [] e = tt
all_new_in all limit (p ∷ ps) e = absurd cc

-- where none is left, all that are left are new
pub none_left_new : (all : List Placed) (limit : ℕ) (rest : Cursor) → none_left (left rest) ≡ true → AreNew all limit (kinds_left rest)
unfolding kinds_left none_left
none_left_new all limit rest e = all_new_in all limit (left rest).values e

-- one attribute is taken
pub kinds_step : (old new : Cursor) (tlv : Tlv) → left old ≡ with_first (seen_tlv tlv) (left new) → kinds_left old ≡ placed_at (seen_tlv tlv) ∷ kinds_left new
unfolding kinds_left
kinds_step old new tlv step = ap (λ (m : Members). map placed_at m.values) step

below_more : (xs : List Placed) (x : Placed) (at next : ℕ) → AllByRecursion (λ (y : Placed). y.0 < at) xs → x.0 < next → at < next → AllByRecursion (λ (y : Placed). y.0 < next) (xs ++ x ∷ [])
below_more [] x at next h lt up = (lt, tt)
below_more (y ∷ ys) x at next h lt up = ((let first = h.0 in omega arith), below_more ys x at next h.1 lt up)

rest_more : (all rest others : List Placed) (x : Placed) (at next : ℕ) → IsRest all rest at → rest ≡ x ∷ others → x.0 < next → at < next → IsRest all others next
rest_more all rest others x at next h is lt up = record {
  earlier = h.earlier ++ x ∷ [];
  joined = h.joined ∙ (ap (λ (xs : List Placed). h.earlier ++ xs) is ∙ sym (append_assoc h.earlier (x ∷ []) others));
  below = below_more h.earlier x at next h.below lt up;
}

pub rest_step : (all : List Placed) (old new : Cursor) (tlv : Tlv) → IsRest all (kinds_left old) (remaining old).at → left old ≡ with_first (seen_tlv tlv) (left new)
    → Splits (remaining old) (seen_tlv tlv) (remaining new) → IsRest all (kinds_left new) (remaining new).at
rest_step all old new tlv h step splits =
    let here = splits.value_at in
    let there = splits.rest_at in
    let some = splits.some in
    rest_more all (kinds_left old) (kinds_left new) (placed_at (seen_tlv tlv)) (remaining old).at (remaining new).at h (kinds_step old new tlv step) (omega arith) (omega arith)

pub rest_begins : (all : List Placed) (at : ℕ) → IsRest all all at
rest_begins all at = record { earlier = []; joined = refl; below = tt }

pub nothing_new : (all rest : List Placed) → AreNew all 0 rest
nothing_new all [] = tt
nothing_new all (x ∷ xs) = λ below. absurd (omega arith)

-- what is known of the first attribute, and of those behind it
pub new_first : (all : Cursor) (old new : Cursor) (tlv : Tlv) (clear : ℕ) → left old ≡ with_first (seen_tlv tlv) (left new) → AreNew (kinds_left all) clear (kinds_left old)
    → tlv.at < clear → has_kind_before (kind_at (seen_tlv tlv)) tlv.at (left all).values ≡ false
unfolding kinds_left
new_first all old new tlv clear step are below =
    let here : AreNew (kinds_left all) clear (placed_at (seen_tlv tlv) ∷ kinds_left new) = subst (AreNew (kinds_left all) clear) (kinds_step old new tlv step) are in
    is_new (kind_at (seen_tlv tlv)) tlv.at (left all).values (here below).0

pub new_others : (all : Cursor) (old new : Cursor) (tlv : Tlv) (clear : ℕ) → left old ≡ with_first (seen_tlv tlv) (left new) → AreNew (kinds_left all) clear (kinds_left old)
    → tlv.at < clear → AreNew (kinds_left all) clear (kinds_left new)
new_others all old new tlv clear step are below =
    let here : AreNew (kinds_left all) clear (placed_at (seen_tlv tlv) ∷ kinds_left new) = subst (AreNew (kinds_left all) clear) (kinds_step old new tlv step) are in
    (here below).1
