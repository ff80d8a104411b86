-- What the steps for times say of the values, in both directions: for laws of layouts.
use Rattle.std.proofs.Common.{◌≡◌, ◌⊎◌, ℕ, ℤ, true, false, List, [], ◌∷◌, Option, Some, None, Ok, refl, ap, subst, inl, inr}
use Rattle.der.specs.Identifier.{is_constructed}
use Rattle.der.specs.Value.{Value}
use Rattle.asn.specs.Place.{Place, tag, body}
use Rattle.asn.specs.Members.{Members}
use Rattle.asn.specs.Time.{IsTime, seconds_in}
use Rattle.asn.specs.Walk.{◌>>=◌, choice, is_one_of, or_fault, seconds, time}
use Rattle.asn.proofs.Walks.{bind_ok, ok_is, choice_ok, choice_again, TakesNext}
use Rattle.asn.specs.Layout.{IsEncodingOf, HasTimeLayout}
use Rattle.asn.proofs.Layouts.{as_primitive, of_primitive}
use Rattle.asn.proofs.TimeReading.{time_of, seconds_again}

some_is : {A F : Type 0} (o : Option A) (fault : F) (at : ℕ) (x : A) → or_fault o fault at ≡ Ok x → o ≡ Some x
some_is None fault at x e = absurd cc
some_is (Some y) fault at x e = ap (λ z. Some z) (ok_is y x e)

pub seconds_ok : {F : Type 0} (fault : F) (value : Place) (moment : ℤ) → seconds fault value ≡ Ok moment → IsTime (tag value) (body value) moment
unfolding seconds
seconds_ok fault value moment e = time_of (tag value) (body value) moment (some_is (seconds_in (tag value) (body value)) fault value.at moment e)

pub seconds_are : {F : Type 0} (fault : F) (value : Place) (moment : ℤ) → IsTime (tag value) (body value) moment → seconds fault value ≡ Ok moment
unfolding seconds
seconds_are fault value moment is = ap (λ o. or_fault o fault value.at) (seconds_again (tag value) (body value) moment is)

-- the next value is there and is the time
pub record TakesTime (left : Members) (value : Place) (moment : ℤ) (others : Members) : Type 0 where
  pub next : TakesNext left value others
  pub is_time : IsTime (tag value) (body value) moment

pub time_ok : {F : Type 0} (layout fault : F) (left : Members) (x : ℤ × Members) → time layout fault left ≡ Ok x → (value : Place) × TakesTime left value x.0 x.1
unfolding time
time_ok layout fault left x e =
    let v = bind_ok (choice (0x17 ∷ 0x18 ∷ []) layout left) (λ value. seconds fault value.0 >>= λ moment. Ok (moment, value.1)) x e in
    let m = bind_ok (seconds fault v.0.0) (λ moment. Ok (moment, v.0.1)) x v.2 in
    let P : ℤ × Members → Type 0 = λ y. TakesTime left v.0.0 y.0 y.1 in
    let took = choice_ok (0x17 ∷ 0x18 ∷ []) layout left v.0 v.1 in
    (v.0.0, subst P (ok_is (m.0, v.0.1) x m.2) record { next = took.next; is_time = seconds_ok fault v.0.0 m.0 m.1 })

-- a time has the identifier of one, which is primitive
of_spelling : (identifier : ℕ) (A B : Type 0) → ((identifier ≡ 0x17) × A) ⊎ ((identifier ≡ 0x18) × B) → (is_one_of (0x17 ∷ 0x18 ∷ []) identifier ≡ true) × (is_constructed identifier ≡ false)
of_spelling identifier A B (inl (is, a)) = rw is (refl, refl)
of_spelling identifier A B (inr (is, b)) = rw is (refl, refl)

pub time_tag : (identifier : ℕ) (text : List ℕ) (moment : ℤ) → IsTime identifier text moment → (is_one_of (0x17 ∷ 0x18 ∷ []) identifier ≡ true) × (is_constructed identifier ≡ false)
time_tag identifier text moment is = of_spelling identifier _ _ is.spelled

pub time_again : {F : Type 0} (layout fault : F) (left : Members) (value : Place) (others : List Place) (moment : ℤ) → left.values ≡ value ∷ others → IsTime (tag value) (body value) moment → time layout fault left ≡ Ok (moment, record { values = others; end = left.end })
unfolding time
time_again layout fault left value others moment e is = rw (choice_again (0x17 ∷ 0x18 ∷ []) layout left value others e (time_tag (tag value) (body value) moment is).0, seconds_are fault value moment is) refl

-- a place that holds a value shows a time exactly where the value is one
pub as_time : {value : Value} {place : Place} {moment : ℤ} → IsEncodingOf value place → IsTime (tag place) (body place) moment → HasTimeLayout value moment
as_time {place = place} {moment = moment} encoded is = record {
  identifier = tag place;
  contents = body place;
  form = as_primitive encoded refl (time_tag (tag place) (body place) moment is).1;
  is_time = is;
}

pub of_time : {value : Value} {place : Place} {moment : ℤ} → IsEncodingOf value place → HasTimeLayout value moment → IsTime (tag place) (body place) moment
of_time encoded has = let shown = of_primitive encoded has.form in rw (shown.0, shown.1) has.is_time
