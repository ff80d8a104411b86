-- Options: what is kept, mapped or chained, and by what it was.
use Rattle.std.proofs.Common.{◌≡◌, ◌⊎◌, ◌||◌, Bool, true, List, [], ◌∷◌, map, Any, Option, Some, None, option_map, option_and_then, is_some, find, Contains, Decides, refl, sym, ap, ◌∙◌, inl, inr, true≢false}
use Rattle.std.specs.Option.{option_or}
use Rattle.std.specs.List.{slice_get, position_or_len, list_any}
use Rattle.std.proofs.lemmas.Bool.{cases_Bool}
use Rattle.std.proofs.lemmas.Option.{none-some, same_Some, slice_get_within, get_or_from_slice_get}
use Rattle.std.proofs.lemmas.List.Folds.{find_at, Any-from_list_any, list_any-from_Any}
use Rattle.relying_agreement.specs.Status.{kept_if}

-- what is found stands in the list
pub found_within : {A : Type 0} (test : A → Bool) (xs : List A) (x : A) → find test xs ≡ Some x → Contains xs x
found_within test xs x found =
    let at : slice_get xs (position_or_len test xs) ≡ Some x = sym (find_at test xs) ∙ found in
    (position_or_len test xs, slice_get_within xs (position_or_len test xs) x at, get_or_from_slice_get xs (position_or_len test xs) x x at)

-- two options whose marks are the same are the same, where facts of one mark are
pub same_by_mark : {A M : Type 0} (mark : A → M) (a b : Option A) → ((f g : A) → a ≡ Some f → b ≡ Some g → mark f ≡ mark g → f ≡ g)
    → option_map mark a ≡ option_map mark b → a ≡ b
same_by_mark mark None None agree same = refl
same_by_mark mark None (Some g) agree same = absurd (none-some (mark g) same)
same_by_mark mark (Some f) None agree same = absurd (none-some (mark f) (sym same))
same_by_mark mark (Some f) (Some g) agree same = ap Some (agree f g refl refl (same_Some (mark f) (mark g) same))

pub kept_is : {A : Type 0} (test : A → Bool) (o : Option A) → is_some (kept_if test o) ≡ true → (x : A) × (o ≡ Some x) × (test x ≡ true)
kept_is test None some = absurd (true≢false (sym some))
kept_is test (Some x) some = elim (cases_Bool (test x)) [
  | inl yes_it ↦ (x, refl, yes_it)
  | inr not_it ↦ absurd (true≢false (sym some ∙ rw not_it refl))
]

pub is_kept : {A : Type 0} (test : A → Bool) (o : Option A) (x : A) → o ≡ Some x → test x ≡ true → kept_if test o ≡ Some x
is_kept test o x is passes = ap (kept_if test) is ∙ rw passes refl

pub kept_some : {A : Type 0} (test : A → Bool) (o : Option A) (x : A) → kept_if test o ≡ Some x → (o ≡ Some x) × (test x ≡ true)
kept_some test None x is = absurd (none-some x is)
kept_some test (Some y) x is = elim (cases_Bool (test y)) [
  | inl passes ↦ let same : Some y ≡ Some x = sym (rw passes refl) ∙ is in (same, ap test (sym (same_Some y x same)) ∙ passes)
  | inr fails ↦ absurd (none-some x (sym (rw fails refl) ∙ is))
]

pub mapped_is : {A B : Type 0} (f : A → B) (o : Option A) (y : B) → option_map f o ≡ Some y → (x : A) × (o ≡ Some x) × (f x ≡ y)
mapped_is f None y is = absurd (none-some y is)
mapped_is f (Some x) y is = (x, refl, same_Some (f x) y is)

pub chained_is : {A B : Type 0} (f : A → Option B) (o : Option A) → is_some (option_and_then f o) ≡ true → (x : A) × (o ≡ Some x) × (is_some (f x) ≡ true)
chained_is f None some = absurd (true≢false (sym some))
chained_is f (Some x) some = (x, refl, some)

pub is_chained : {A B : Type 0} (f : A → Option B) (o : Option A) (x : A) → o ≡ Some x → is_some (f x) ≡ true → is_some (option_and_then f o) ≡ true
is_chained f o x is some = ap (λ q. is_some (option_and_then f q)) is ∙ some

-- one of two, where either is there
pub either_decides : {A P Q : Type 0} (a b : Option A) → Decides (is_some a) P → Decides (is_some b) Q → Decides (is_some (option_or a b)) (P ⊎ Q)
either_decides None b p q = (λ some. inr (q.0 some), λ either. elim either [ inl x ↦ absurd (true≢false (sym (p.1 x))) | inr y ↦ q.1 y ])
either_decides (Some x) b p q = (λ some. inl (p.0 refl), λ either. refl)

pub some_value : {A : Type 0} (o : Option A) → is_some o ≡ true → (x : A) × (o ≡ Some x)
some_value None some = absurd (true≢false (sym some))
some_value (Some x) some = (x, refl)

pub no_value : {A : Type 0} (o : Option A) → (is_some o ≡ true → ⊥) → o ≡ None
no_value None not_some = refl
no_value (Some x) not_some = absurd (not_some refl)

pub chained_to : {A B : Type 0} (f : A → Option B) (o : Option A) (y : B) → option_and_then f o ≡ Some y → (x : A) × (o ≡ Some x) × (f x ≡ Some y)
chained_to f None y is = absurd (none-some y is)
chained_to f (Some x) y is = (x, refl, is)

pub to_chained : {A B : Type 0} (f : A → Option B) (o : Option A) (x : A) (y : B) → o ≡ Some x → f x ≡ Some y → option_and_then f o ≡ Some y
to_chained f o x y is found = ap (option_and_then f) is ∙ found

-- the first of two that is there
pub first_or : {A : Type 0} (a b : Option A) (y : A) → option_or a b ≡ Some y → (a ≡ Some y) ⊎ ((a ≡ None) × (b ≡ Some y))
first_or None b y is = inr (refl, is)
first_or (Some x) b y is = inl is

pub or_first : {A : Type 0} (a b : Option A) (y : A) → a ≡ Some y → option_or a b ≡ Some y
or_first a b y is = ap (λ o. option_or o b) is

pub or_second : {A : Type 0} (a b : Option A) → a ≡ None → option_or a b ≡ b
or_second a b none = ap (λ o. option_or o b) none

pub none_of : {A : Type 0} (o : Option A) → ((x : A) → o ≡ Some x → ⊥) → o ≡ None
none_of None never = refl
none_of (Some x) never = absurd (never x refl)

pub some_or : {A : Type 0} (a b : Option A) → is_some (option_or a b) ≡ (is_some a || is_some b)
some_or None b = refl
some_or (Some x) b = refl

pub or_none : {A : Type 0} (a b : Option A) → option_or a b ≡ None → (a ≡ None) × (b ≡ None)
or_none None b none = (refl, none)
or_none (Some x) b none = absurd (none-some x (sym none))

-- one of a list
pub any_decides : {A : Type 0} (test : A → Bool) (P : A → Type 0) → ((x : A) → Decides (test x) (P x)) → (xs : List A) → Decides (list_any test xs) (Any P xs)
any_decides test P each xs = (
  λ passed. let a = Any-from_list_any test xs passed in (a.0, a.1, a.2, a.3, (each a.1).0 a.4),
  λ a. list_any-from_Any test xs (a.0, a.1, a.2, a.3, (each a.1).1 a.4),
)

pub any_mapped : {A B : Type 0} (test : B → Bool) (f : A → B) (xs : List A) → list_any test (map f xs) ≡ list_any (λ x. test (f x)) xs
any_mapped test f [] = refl
any_mapped test f (x ∷ xs) = ap (λ b. test (f x) || b) (any_mapped test f xs)
