-- Comparing sets of attributes type by type, and names set by set.
use Rattle.std.proofs.Common.{◌≡◌, ◌⊎◌, ℕ, zero, suc, List, [], ◌∷◌, ◌++◌, length, Bool, refl, sym, ◌∙◌, ap, subst, inl, inr, arith, Option, Some, None, length-append, append-nil, IsTrue, nat_eq}
use Rattle.std.proofs.lemmas.List.{nil_from_length}
use Rattle.std.specs.Prelude.{◌↔◌, Any, is_some, option_map}
use Rattle.std.specs.Bool.{Decides}
use Rattle.std.specs.List.{AllByRecursion}
use Rattle.std.specs.Ordering.{nat_cmp, eq_by_cmp}
use Rattle.std.specs.Cmp.Lexicographic.{slice_cmp, pointwise, texts_ties}
use Rattle.std.specs.FinMap.{find, contains_key, get, get-from_entries, entries, same_map, same_entries_map, slice_cmp-IsAntisymmetric, nat_cmp-IsAntisymmetric}
use Rattle.std.proofs.lemmas.Cmp.{nat_list_cmp_total}
use Rattle.std.proofs.lemmas.Bool.{cases_Bool, cond-true, cond-false, and_parts, and_from, false_from_ne_true, both_ways as contradicts}
use Rattle.std.specs.Cmp.{both_ways}
use Rattle.std.proofs.lemmas.Slice.Eq.{bytes_eq-Decides, slice_eq-Decides, starts_is}
use Rattle.names_distinguished.specs.AttributeValue.{ComparedValue, Text, Other}
use Rattle.names_distinguished.specs.DistinguishedName.{ComparedAttribute, RdnMap, rdn_map, value_at, AgreeAt, NamesMatch, IsWithin, same_value, same_entry, same_rdn, matching, is_within, MatchingIsExact, WithinIsExact}

-- the value of a type in a list that begins with an attribute
pub value_first : (kind : List ℕ) (e : ComparedAttribute) (es : List ComparedAttribute) → kind ≡ e.0 → value_at kind (e ∷ es) ≡ Some e.1
unfolding value_at
value_first kind e es same =
    cond-true (eq_by_cmp (slice_cmp nat_cmp) kind e.0) (Some e.1) (find (slice_cmp nat_cmp) kind es)
    (sym (texts_ties kind e.0) ∙ (bytes_eq-Decides kind e.0).1 same)

pub value_later : (kind : List ℕ) (e : ComparedAttribute) (es : List ComparedAttribute) → (kind ≡ e.0 → ⊥) → value_at kind (e ∷ es) ≡ value_at kind es
unfolding value_at
value_later kind e es other =
    let differ = false_from_ne_true (pointwise nat_eq kind e.0) (λ t. other ((bytes_eq-Decides kind e.0).0 t)) in
    cond-false (eq_by_cmp (slice_cmp nat_cmp) kind e.0) (Some e.1) (find (slice_cmp nat_cmp) kind es) (sym (texts_ties kind e.0) ∙ differ)

pub value_none : (kind : List ℕ) → value_at kind [] ≡ None
unfolding value_at
value_none kind = refl

-- a search from the front: the value of the whole is that of what is left
pub found_value : (kind : List ℕ) (whole rest after : List ComparedAttribute) (e : ComparedAttribute) → value_at kind whole ≡ value_at kind rest → rest ≡ e ∷ after → kind ≡ e.0 → Some e.1 ≡ value_at kind whole
found_value kind whole rest after e up is same = sym (up ∙ (ap (value_at kind) is ∙ value_first kind e after same))

pub later_value : (kind : List ℕ) (whole rest after : List ComparedAttribute) (e : ComparedAttribute) → value_at kind whole ≡ value_at kind rest → rest ≡ e ∷ after → (kind ≡ e.0 → ⊥) → value_at kind whole ≡ value_at kind after
later_value kind whole rest after e up is other = up ∙ (ap (value_at kind) is ∙ value_later kind e after other)

pub no_value : (kind : List ℕ) (whole rest : List ComparedAttribute) → value_at kind whole ≡ value_at kind rest → rest ≡ [] → None ≡ value_at kind whole
no_value kind whole rest up is = sym (up ∙ (ap (value_at kind) is ∙ value_none kind))

-- at a type that stands in the list, or nowhere
pub at_or_none : (P : List ℕ → Type 0) (es : List ComparedAttribute) → AllByRecursion (λ e. P e.0) es → (kind : List ℕ) → (value_at kind es ≡ None) ⊎ P kind
at_or_none P [] h kind = inl (value_none kind)
at_or_none P (e ∷ es) h kind =
    elim (cases_Bool (pointwise nat_eq kind e.0)) [
      | inl t ↦ inr (subst P (sym ((bytes_eq-Decides kind e.0).0 t)) h.0)
      | inr f ↦ elim (at_or_none P es h.1 kind) [ inl n ↦ inl (value_later kind e es (λ same. contradicts _ f ((bytes_eq-Decides kind e.0).1 same)) ∙ n) | inr p ↦ inr p ]
    ]

abbrev pub AgreeOn : List ComparedAttribute → List ComparedAttribute → List ComparedAttribute → Type 0
AgreeOn l r es = AllByRecursion (λ e. AgreeAt l r e.0) es

agree_everywhere : (l r : List ComparedAttribute) → AgreeOn l r l → AgreeOn r l r → (kind : List ℕ) → value_at kind l ≡ value_at kind r
agree_everywhere l r p s kind =
    elim (at_or_none (AgreeAt l r) l p kind) [
      | inl n ↦ elim (at_or_none (AgreeAt r l) r s kind) [ inl m ↦ n ∙ sym m | inr g ↦ sym (g.same) ]
      | inr g ↦ g.same
    ]

pub get_rdn : (es : List ComparedAttribute) (kind : List ℕ) → get (rdn_map es) kind ≡ value_at kind es
unfolding rdn_map value_at
get_rdn es kind = get-from_entries nat_list_cmp_total es kind

pub same_by_values : (m : RdnMap) (es : List ComparedAttribute) → ((kind : List ℕ) → get m kind ≡ value_at kind es) → m ≡ rdn_map es
same_by_values m es h =
    same_map nat_list_cmp_total (slice_cmp-IsAntisymmetric nat_cmp-IsAntisymmetric) m (rdn_map es) (λ kind. h kind ∙ sym (get_rdn es kind))

pub same_sets : (l r : List ComparedAttribute) → AgreeOn l r l → AgreeOn r l r → rdn_map l ≡ rdn_map r
same_sets l r p s = same_by_values (rdn_map l) r (λ kind. get_rdn l kind ∙ agree_everywhere l r p s kind)

pub agree_of_same : (l r : List ComparedAttribute) → rdn_map l ≡ rdn_map r → (kind : List ℕ) → AgreeAt l r kind
agree_of_same l r e kind = record { same = sym (get_rdn l kind) ∙ (ap (λ (m : RdnMap). get m kind) e ∙ get_rdn r kind) }

all_of : (P : List ℕ → Type 0) → ((kind : List ℕ) → P kind) → (es : List ComparedAttribute) → AllByRecursion (λ e. P e.0) es
all_of P h [] = tt
all_of P h (e ∷ es) = (h e.0, all_of P h es)

pub sets_agree : (l r : List ComparedAttribute) → rdn_map l ≡ rdn_map r → AgreeOn l r l
sets_agree l r e = all_of (AgreeAt l r) (agree_of_same l r e) l

-- names, set by set: what is left of both decides whether the first begins with the second
pub record IsLevel (n m inner outer : List RdnMap) : Type 0 where
  pub onward : IsWithin n m → IsWithin inner outer
  pub back : (rest : List RdnMap) → inner ≡ outer ++ rest → n ≡ m ++ rest

-- names match where nothing follows
pub nothing_follows : (n m rest : List RdnMap) (b : Bool) → n ≡ m ++ rest → (IsTrue b ↔ (rest ≡ [])) → (IsTrue b ↔ NamesMatch n m)
nothing_follows n m rest b e h = (
  λ t. e ∙ (ap (λ (l : List RdnMap). m ++ l) (h.0 t) ∙ append-nil m),
  λ same. h.1 (nil_from_length rest (omega (arith, ap length (sym same ∙ e), length-append m rest))),
)

pub never_match : (n m : List RdnMap) → (IsWithin n m → ⊥) → NamesMatch n m → ⊥
never_match n m h same = h (record { rest = []; joined = same ∙ sym (append-nil m) })

-- the tests decide the relations
text_inner : (a b : List ℕ) → Text a ≡ Text b → a ≡ b
text_inner a b e = cc

other_inner : (a b : List ℕ) → Other a ≡ Other b → a ≡ b
other_inner a b e = cc

Decides-value : (v w : ComparedValue) → Decides (same_value v w) (v ≡ w)
Decides-value (Text a) (Text b) = (λ t. ap Text ((bytes_eq-Decides a b).0 t), λ e. (bytes_eq-Decides a b).1 (text_inner a b e))
Decides-value (Other a) (Other b) = (λ t. ap Other ((bytes_eq-Decides a b).0 t), λ e. (bytes_eq-Decides a b).1 (other_inner a b e))
Decides-value (Text a) (Other b) = (λ t. cc, λ e. cc)
Decides-value (Other a) (Text b) = (λ t. cc, λ e. cc)

Decides-entry : (d e : ComparedAttribute) → Decides (same_entry d e) (d ≡ e)
Decides-entry d e = (
  λ t.
      let p = and_parts _ (same_value d.1 e.1) t in
      let a = (bytes_eq-Decides d.0 e.0).0 p.0 in
      let b = (Decides-value d.1 e.1).0 p.1 in
      λ i. (a i, b i),
  λ h. and_from _ (same_value d.1 e.1) ((bytes_eq-Decides d.0 e.0).1 (ap (λ (k : ComparedAttribute). k.0) h)) ((Decides-value d.1 e.1).1 (ap (λ (k : ComparedAttribute). k.1) h)),
)

Decides-rdn : (m n : RdnMap) → Decides (same_rdn m n) (m ≡ n)
Decides-rdn m n =
    let d = slice_eq-Decides Decides-entry (entries m) (entries n) (same_rdn m n) refl in
    (λ t. same_entries_map m n (d.0 t), λ h. d.1 (ap (λ (k : RdnMap). entries k) h))

pub matching_is_exact : MatchingIsExact
unfolding matching
matching_is_exact n m = slice_eq-Decides Decides-rdn n m _ refl

pub within_is_exact : WithinIsExact
unfolding is_within
within_is_exact n m =
    let both = starts_is Decides-rdn n m _ refl in
    (λ h. record { rest = _; joined = both.0 h }, λ w. both.1 w.rest w.joined)

-- an answer that decides the relation is the test
pub within_test : (n m : List RdnMap) (b : Bool) → (IsTrue b ↔ IsWithin n m) → b ≡ is_within n m
within_test n m b h = both_ways b (is_within n m) (λ t. (within_is_exact n m).1 (h.0 t)) (λ t. h.1 ((within_is_exact n m).0 t))

pub matching_test : (n m : List RdnMap) (b : Bool) → (IsTrue b ↔ NamesMatch n m) → b ≡ matching n m
matching_test n m b h = both_ways b (matching n m) (λ t. (matching_is_exact n m).1 (h.0 t)) (λ t. h.1 ((matching_is_exact n m).0 t))

-- one fact holds exactly where the other does
pub record IsAlike (P Q : Type 0) : Type 0 where
  pub onward : P → Q
  pub back : Q → P

-- some element has the fact: the first, or one of those after it
module _ {X : Type 0} (P : X → Type 0) where
  any_first : (x : X) (xs : List X) → P x → Any P (x ∷ xs)
  any_first x xs p = (0, x, omega arith, refl, p)

  any_later : (x : X) (xs : List X) → Any P xs → Any P (x ∷ xs)
  any_later x xs (k, y, lt, is, p) = (suc k, y, omega arith, is, p)

  any_parts : (x : X) (xs : List X) → Any P (x ∷ xs) → P x ⊎ Any P xs
  any_parts x xs (zero, y, lt, is, p) = inl (subst P (sym is) p)
  any_parts x xs (suc k, y, lt, is, p) = inr (k, y, omega arith, is, p)

  pub any_here : (whole rest after : List X) (x : X) → IsAlike (Any P whole) (Any P rest) → rest ≡ x ∷ after → P x → Any P whole
  any_here whole rest after x h is p = h.back (subst (Any P) (sym is) (any_first x after p))

  pub any_after : (whole rest after : List X) (x : X) → IsAlike (Any P whole) (Any P rest) → rest ≡ x ∷ after → (P x → ⊥) → IsAlike (Any P whole) (Any P after)
  any_after whole rest after x h is n = record {
    onward = λ a. elim (any_parts x after (subst (Any P) is (h.onward a))) [ inl p ↦ absurd (n p) | inr q ↦ q ];
    back = λ q. h.back (subst (Any P) (sym is) (any_later x after q));
  }

-- a set has a type where the search finds a value of it
pub kind_found : (es : List ComparedAttribute) (kind : List ℕ) → contains_key (rdn_map es) kind ≡ is_some (value_at kind es)
kind_found es kind = ap is_some (get_rdn es kind)

is_some-map : {A B : Type 0} (f : A → B) (o : Option A) → is_some (option_map f o) ≡ is_some o
is_some-map f None = refl
is_some-map f (Some a) = refl

pub set_has : {A : Type 0} (f : A → ComparedValue) (es : List ComparedAttribute) (kind : List ℕ) (o : Option A) → option_map f o ≡ value_at kind es → contains_key (rdn_map es) kind ≡ is_some o
set_has f es kind o e = kind_found es kind ∙ (ap is_some (sym e) ∙ is_some-map f o)
