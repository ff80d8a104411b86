-- What each step of a walk says of the values, in both directions: for laws of layouts.
use Rattle.std.specs.Prelude.{◌≡◌, ◌==◌, ℕ, Bool, true, false, refl, List, [], ◌∷◌, Option, Some, None, Result, Ok, Err, if◌then◌else◌}
use Rattle.std.proofs.Common.{subst, ap, eq-eqb}
use Rattle.std.proofs.lemmas.Bool.{eqb-true}
use Rattle.asn.specs.Place.{Place, tag}
use Rattle.asn.specs.Members.{Members, AtMostOne, begins, begins_in, none_left, next_at, none_in}
use Rattle.asn.specs.Walk.{◌>>=◌, each, check_that, is_a, required, required_in, next_or, next_or_in, is_one_of, choice, any, any_in, optional, optional_in, ended, some, Leads}

abbrev pub done : {A E : Type 0} → A → Result A E
done x = Ok x

abbrev pub refused : {A F : Type 0} → F → ℕ → Result A (F × ℕ)
refused fault at = Err (fault, at)

pub bind_ok : {A B E : Type 0} (r : Result A E) (f : A → Result B E) (y : B) → (r >>= f) ≡ Ok y → (x : A) × (r ≡ Ok x) × (f x ≡ Ok y)
bind_ok (Ok x) f y e = (x, refl, e)
bind_ok (Err d) f y e = absurd cc

pub ok_is : {A E : Type 0} (x y : A) → done {E = E} x ≡ done y → x ≡ y
ok_is x y e = cc

chosen : {F A : Type 0} (b : Bool) (x y : A) (fault : F) (at : ℕ) → (if b then done x else refused fault at) ≡ done y → (b ≡ true) × (x ≡ y)
chosen true x y fault at e = (refl, cc)
chosen false x y fault at e = absurd cc

pub check_ok : {F : Type 0} (b : Bool) (fault : F) (at : ℕ) (u : Unit {0}) → check_that b fault at ≡ Ok u → b ≡ true
unfolding check_that
check_ok b fault at u e = (chosen b tt u fault at e).0

pub check_again : {F : Type 0} (b : Bool) (fault : F) (at : ℕ) → b ≡ true → check_that b fault at ≡ Ok tt
unfolding check_that
check_again b fault at e = rw e refl

pub is_a_ok : {F : Type 0} (identifier : ℕ) (fault : F) (value : Place) (u : Unit {0}) → is_a identifier fault value ≡ Ok u → tag value ≡ identifier
unfolding is_a
is_a_ok identifier fault value u e = eqb-true (tag value) identifier (chosen (tag value == identifier) tt u fault value.at e).0

pub is_a_again : {F : Type 0} (identifier : ℕ) (fault : F) (value : Place) → tag value ≡ identifier → is_a identifier fault value ≡ Ok tt
unfolding is_a
is_a_again identifier fault value e = rw (eq-eqb (tag value) identifier e) refl

-- the next value is there and has the identifier
pub record Takes (identifier : ℕ) (left : Members) (value : Place) (others : Members) : Type 0 where
  pub values : left.values ≡ value ∷ others.values
  pub end : others.end ≡ left.end
  pub tag_is : tag value ≡ identifier

takes_in : {F : Type 0} (identifier : ℕ) (fault : F) (end : ℕ) (values : List Place) (x : Place × Members) → required_in identifier fault end values ≡ Ok x → Takes identifier (record { values = values; end = end }) x.0 x.1
takes_in identifier fault end [] x e = absurd cc
takes_in identifier fault end (value ∷ values) x e =
    let c = chosen (tag value == identifier) (value, record { values = values; end = end }) x fault value.at e in
    let t : tag value ≡ identifier = eqb-true (tag value) identifier c.0 in
    let P : Place × Members → Type 0 = λ y. Takes identifier (record { values = value ∷ values; end = end }) y.0 y.1 in
    subst P c.1 record { values = refl; end = refl; tag_is = t }

pub required_ok : {F : Type 0} (identifier : ℕ) (fault : F) (left : Members) (x : Place × Members) → required identifier fault left ≡ Ok x → Takes identifier left x.0 x.1
unfolding required
required_ok identifier fault left x e = takes_in identifier fault left.end left.values x e

pub required_again : {F : Type 0} (identifier : ℕ) (fault : F) (left : Members) (value : Place) (others : List Place) → left.values ≡ value ∷ others → tag value ≡ identifier → required identifier fault left ≡ Ok (value, record { values = others; end = left.end })
unfolding required
required_again identifier fault left value others e t = rw (e, eq-eqb (tag value) identifier t) refl

-- the next value is there
pub record TakesNext (left : Members) (value : Place) (others : Members) : Type 0 where
  pub values : left.values ≡ value ∷ others.values
  pub end : others.end ≡ left.end

next_in_ok : {F : Type 0} (fault : F) (end : ℕ) (values : List Place) (x : Place × Members) → next_or_in fault end values ≡ Ok x → TakesNext (record { values = values; end = end }) x.0 x.1
next_in_ok fault end [] x e = absurd cc
next_in_ok fault end (value ∷ values) x e =
    let P : Place × Members → Type 0 = λ y. TakesNext (record { values = value ∷ values; end = end }) y.0 y.1 in
    let same : (value, record { values = values; end = end }) ≡ x = cc in
    subst P same record { values = refl; end = refl }

pub next_or_ok : {F : Type 0} (fault : F) (left : Members) (x : Place × Members) → next_or fault left ≡ Ok x → TakesNext left x.0 x.1
unfolding next_or
next_or_ok fault left x e = next_in_ok fault left.end left.values x e

pub next_or_again : {F : Type 0} (fault : F) (left : Members) (value : Place) (others : List Place) → left.values ≡ value ∷ others → next_or fault left ≡ Ok (value, record { values = others; end = left.end })
unfolding next_or
next_or_again fault left value others e = rw e refl

-- and has one of the identifiers
pub record TakesOneOf (identifiers : List ℕ) (left : Members) (value : Place) (others : Members) : Type 0 where
  pub next : TakesNext left value others
  pub tag_is : is_one_of identifiers (tag value) ≡ true

pub choice_ok : {F : Type 0} (identifiers : List ℕ) (fault : F) (left : Members) (x : Place × Members) → choice identifiers fault left ≡ Ok x → TakesOneOf identifiers left x.0 x.1
unfolding choice
choice_ok identifiers fault left x e =
    let n = bind_ok (next_or fault left) (λ value. check_that (is_one_of identifiers (tag value.0)) fault value.0.at >>= λ done. Ok value) x e in
    let c = bind_ok (check_that (is_one_of identifiers (tag n.0.0)) fault n.0.0.at) (λ done. Ok n.0) x n.2 in
    let P : Place × Members → Type 0 = λ y. TakesOneOf identifiers left y.0 y.1 in
    subst P (ok_is n.0 x c.2) record { next = next_or_ok fault left n.0 n.1; tag_is = check_ok _ fault n.0.0.at c.0 c.1 }

pub choice_again : {F : Type 0} (identifiers : List ℕ) (fault : F) (left : Members) (value : Place) (others : List Place) → left.values ≡ value ∷ others → is_one_of identifiers (tag value) ≡ true → choice identifiers fault left ≡ Ok (value, record { values = others; end = left.end })
unfolding choice
choice_again identifiers fault left value others e t = rw (next_or_again fault left value others e, check_again (is_one_of identifiers (tag value)) fault value.at t) refl

pub choice_refused : {F : Type 0} (identifiers : List ℕ) (fault : F) (left : Members) (value : Place) (others : Members) → next_or fault left ≡ Ok (value, others) → is_one_of identifiers (tag value) ≡ false → choice identifiers fault left ≡ Err (fault, value.at)
unfolding choice check_that
choice_refused identifiers fault left value others e other = rw (e, other) refl

none_left_in : (values : List Place) → none_in values ≡ true → values ≡ []
none_left_in [] e = refl
none_left_in (v ∷ vs) e = absurd cc

ended_by : {F : Type 0} (b : Bool) (fault : F) (at : ℕ) (u : Unit {0}) → (if b then done tt else refused fault at) ≡ done u → b ≡ true
ended_by true fault at u e = refl
ended_by false fault at u e = absurd cc

pub ended_ok : {F : Type 0} (fault : F) (left : Members) (u : Unit {0}) → ended fault left ≡ Ok u → left.values ≡ []
unfolding ended none_left
ended_ok fault left u e = none_left_in left.values (ended_by (none_in left.values) fault (next_at left) u e)

pub ended_again : {F : Type 0} (fault : F) (left : Members) → left.values ≡ [] → ended fault left ≡ Ok tt
unfolding ended none_left
ended_again fault left e = rw e refl

-- at most one more value
one_in : (end : ℕ) (values : List Place) → (any_in end values).1.values ≡ [] → AtMostOne values
one_in end [] e = tt
one_in end (v ∷ []) e = tt
one_in end (v ∷ w ∷ vs) e = absurd cc

in_one : (end : ℕ) (values : List Place) → AtMostOne values → (any_in end values).1.values ≡ []
in_one end [] one = refl
in_one end (v ∷ []) one = refl
in_one end (v ∷ w ∷ vs) one = absurd one

pub any_ok : (left : Members) → (any left).1.values ≡ [] → AtMostOne left.values
unfolding any
any_ok left e = one_in left.end left.values e

pub any_again : (left : Members) → AtMostOne left.values → (any left).1.values ≡ []
unfolding any
any_again left one = in_one left.end left.values one

-- the next value is taken where it has the identifier; else all stays
abbrev pub TakesOptional : ℕ → Members → Option Place → Members → Type 0
TakesOptional identifier left None others = (others ≡ left) × (begins identifier left ≡ false)
TakesOptional identifier left (Some value) others = Takes identifier left value others

optional_in_is : (identifier end : ℕ) (values : List Place) → TakesOptional identifier (record { values = values; end = end }) (optional_in identifier end values).0 (optional_in identifier end values).1
unfolding begins
optional_in_is identifier end [] = (refl, refl)
optional_in_is identifier end (value ∷ values) = by (tag value == identifier) refl where
  by : (b : Bool) → (tag value == identifier) ≡ b → TakesOptional identifier (record { values = value ∷ values; end = end }) (optional_in identifier end (value ∷ values)).0 (optional_in identifier end (value ∷ values)).1
  by true e = rw e record { values = refl; end = refl; tag_is = eqb-true (tag value) identifier e }
  by false e = rw e (refl, e)

pub optional_is : (identifier : ℕ) (left : Members) → TakesOptional identifier left (optional identifier left).0 (optional identifier left).1
unfolding optional
optional_is identifier left = optional_in_is identifier left.end left.values

pub optional_there : (identifier : ℕ) (left : Members) (value : Place) (others : List Place) → left.values ≡ value ∷ others → tag value ≡ identifier → optional identifier left ≡ (Some value, record { values = others; end = left.end })
unfolding optional
optional_there identifier left value others e t = rw (e, eq-eqb (tag value) identifier t) refl

absent_in : (identifier end : ℕ) (values : List Place) → begins_in identifier values ≡ false → optional_in identifier end values ≡ (None, record { values = values; end = end })
absent_in identifier end [] e = refl
absent_in identifier end (value ∷ values) e = rw e refl

pub optional_absent : (identifier : ℕ) (left : Members) → begins identifier left ≡ false → optional identifier left ≡ (None, left)
unfolding optional begins
optional_absent identifier left e = absent_in identifier left.end left.values e

-- there is a value
some_in : (values : List Place) → none_in values ≡ false → (value : Place) × (others : List Place) × (values ≡ value ∷ others)
some_in [] e = absurd cc
some_in (value ∷ others) e = (value, others, refl)

some_by : {F : Type 0} (b : Bool) (fault : F) (at : ℕ) (u : Unit {0}) → (if b then refused fault at else done tt) ≡ done u → b ≡ false
some_by true fault at u e = absurd cc
some_by false fault at u e = refl

pub some_ok : {F : Type 0} (fault : F) (left : Members) (u : Unit {0}) → some fault left ≡ Ok u → (value : Place) × (others : List Place) × (left.values ≡ value ∷ others)
unfolding some none_left
some_ok fault left u e = some_in left.values (some_by (none_in left.values) fault (next_at left) u e)

pub some_again : {F : Type 0} (fault : F) (left : Members) (value : Place) (others : List Place) → left.values ≡ value ∷ others → some fault left ≡ Ok tt
unfolding some none_left
some_again fault left value others e = rw e refl

-- A walk over values succeeds where its steps do.
pub each_ok : {A E : Type 0} (step : A → Place → Result A E) (Step : A → Place → A → Type 0) → ((from : A) (value : Place) (to : A) → step from value ≡ Ok to → Step from value to)
    → (from : A) (values : List Place) (to : A) → each step from values ≡ Ok to → Leads Step from values to
each_ok {E = E} step Step is from [] to e = ok_is {E = E} from to e
each_ok step Step is from (value ∷ values) to e =
    let next = bind_ok (step from value) (λ next. each step next values) to e in
    (next.0, is from value next.0 next.1, each_ok step Step is next.0 values to next.2)

pub each_again : {A E : Type 0} (step : A → Place → Result A E) (Step : A → Place → A → Type 0) → ((from : A) (value : Place) (to : A) → Step from value to → step from value ≡ Ok to)
    → (from : A) (values : List Place) (to : A) → Leads Step from values to → each step from values ≡ Ok to
each_again step Step is from [] to e = ap (λ x. Ok x) e
each_again step Step is from (value ∷ values) to (next, one, others) = rw (is from value next one) (each_again step Step is next values to others)

-- How a walk over values goes on, for loops.
pub each_none : {A E : Type 0} (step : A → Place → Result A E) (so_far : A) (values : List Place) → values ≡ [] → each step so_far values ≡ Ok so_far
each_none step so_far values none = rw none refl

pub each_refused : {A E : Type 0} (step : A → Place → Result A E) (so_far : A) (values : List Place) (value : Place) (rest : List Place) (fault : E)
    → values ≡ value ∷ rest → step so_far value ≡ Err fault → each step so_far values ≡ Err fault
each_refused step so_far values value rest fault more refused = rw (more, refused) refl

pub each_more : {A E : Type 0} (step : A → Place → Result A E) (so_far : A) (values : List Place) (value : Place) (rest : List Place) (next : A)
    → values ≡ value ∷ rest → step so_far value ≡ Ok next → each step so_far values ≡ each step next rest
each_more step so_far values value rest next more ok = rw (more, ok) refl

-- the first step of a walk that succeeds
pub each_next : {A E : Type 0} (step : A → Place → Result A E) (so_far : A) (value : Place) (values : List Place) (x : A) → each step so_far (value ∷ values) ≡ Ok x → (next : A) × (step so_far value ≡ Ok next) × (each step next values ≡ Ok x)
each_next step so_far value values x e = bind_ok (step so_far value) (λ next. each step next values) x e
