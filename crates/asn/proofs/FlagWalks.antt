-- What the step for BOOLEAN DEFAULT FALSE says of the values, in both directions: for laws of layouts.
use Rattle.std.proofs.Common.{◌≡◌, ℕ, Bool, true, false, List, [], ◌∷◌, ◌++◌, Option, Some, None, Ok, refl, sym, ap, ◌∙◌, subst}
use Rattle.std.proofs.lemmas.Bool.{eqb-true}
use Rattle.der.specs.Value.{Values, primitive, more}
use Rattle.asn.specs.Place.{Place, body}
use Rattle.asn.specs.Members.{Members, begins, begins_in}
use Rattle.asn.specs.Walk.{optional, is_true, default_false, default_false_in}
use Rattle.asn.specs.Layout.{AreEncodingsOf, IsDefaultFalse, with_default_false}
use Rattle.asn.proofs.Walks.{TakesOptional, optional_is, optional_there, optional_absent}
use Rattle.asn.proofs.Layouts.{of_more, as_more, of_primitive, as_primitive}

-- the flag is there or not, and then the others
pub record TakesDefaultFalse (left : Members) (flag : Bool) (others : Members) : Type 0 where
  pub flags : List Place
  pub values : left.values ≡ flags ++ others.values
  pub end : others.end ≡ left.end
  pub is_flag : IsDefaultFalse flags flag

one_octet : (octets : List ℕ) → is_true octets ≡ true → octets ≡ 255 ∷ []
one_octet [] e = absurd cc
one_octet (octet ∷ []) e = ap (λ o. o ∷ []) (eqb-true octet 255 e)
one_octet (octet ∷ other ∷ octets) e = absurd cc

of_flag_in : {F : Type 0} (fault : F) (left : Members) (found : Option Place) (others : Members) (x : Bool × Members) → TakesOptional 0x01 left found others → default_false_in fault found others ≡ Ok x → TakesDefaultFalse left x.0 x.1
of_flag_in fault left None others x (same, absent) e =
    let P : Bool × Members → Type 0 = λ y. TakesDefaultFalse left y.0 y.1 in
    let is : (false, others) ≡ x = cc in
    subst P is record { flags = []; values = sym (ap (λ m. m.values) same); end = ap (λ m. m.end) same; is_flag = refl }
of_flag_in {F = F} fault left (Some flag) others x took e = by (is_true (body flag)) refl e where
  by : (b : Bool) → is_true (body flag) ≡ b → default_false_in fault (Some flag) others ≡ Ok x → TakesDefaultFalse left x.0 x.1
  by true is e =
      let P : Bool × Members → Type 0 = λ y. TakesDefaultFalse left y.0 y.1 in
      let e = rw is at e in
      let same : (true, others) ≡ x = cc in
      subst P same record { flags = flag ∷ []; values = took.values; end = took.end; is_flag = (took.tag_is, one_octet (body flag) is, refl) }
  by false is e = let e = rw is at e in absurd cc

pub default_false_ok : {F : Type 0} (fault : F) (left : Members) (x : Bool × Members) → default_false fault left ≡ Ok x → TakesDefaultFalse left x.0 x.1
unfolding default_false
default_false_ok fault left x e = of_flag_in fault left (optional 0x01 left).0 (optional 0x01 left).1 x (optional_is 0x01 left) e

-- others that do not begin with a BOOLEAN leave no doubt
pub default_false_again : {F : Type 0} (fault : F) (left : Members) (flags others : List Place) (flag : Bool) → left.values ≡ flags ++ others → IsDefaultFalse flags flag → begins_in 0x01 others ≡ false → default_false fault left ≡ Ok (flag, record { values = others; end = left.end })
unfolding default_false begins
default_false_again fault left [] others flag e is absent = rw (optional_absent 0x01 left (ap (begins_in 0x01) e ∙ absent), ← e, is) refl
default_false_again fault left (value ∷ []) others flag e is absent = rw (optional_there 0x01 left value others e is.0, is.1, is.2) refl
default_false_again fault left (value ∷ other ∷ values) others flag e is absent = absurd is

-- the same of values
pub as_default_false : (flag : Bool) (flags : List Place) {values : Values} {places others : List Place} → AreEncodingsOf values places → places ≡ flags ++ others → IsDefaultFalse flags flag → (rest : Values) × (values ≡ with_default_false flag rest) × AreEncodingsOf rest others
as_default_false flag flags {values = values} {others = others} are e is = by flags flag (subst (AreEncodingsOf values) e are) is where
  by : (fs : List Place) (b : Bool) → AreEncodingsOf values (fs ++ others) → IsDefaultFalse fs b → (rest : Values) × (values ≡ with_default_false b rest) × AreEncodingsOf rest others
  by [] true are is = absurd cc
  by [] false are is = (values, refl, are)
  by (value ∷ []) false are is = absurd cc
  by (value ∷ []) true are is =
      let first = as_more are refl in
      (first.1, first.2 ∙ ap (λ v. more v first.1) (as_primitive first.3 is.0 refl ∙ ap (primitive 0x01) is.1), first.4)
  by (value ∷ other ∷ fs) b are is = absurd is

pub of_default_false : (flag : Bool) (rest : Values) {values : Values} {places : List Place} → AreEncodingsOf values places → values ≡ with_default_false flag rest → (flags : List Place) × (others : List Place) × (places ≡ flags ++ others) × IsDefaultFalse flags flag × AreEncodingsOf rest others
of_default_false flag rest {places = places} are e = by flag (subst (λ vs. AreEncodingsOf vs places) e are) where
  by : (b : Bool) → AreEncodingsOf (with_default_false b rest) places → (flags : List Place) × (others : List Place) × (places ≡ flags ++ others) × IsDefaultFalse flags b × AreEncodingsOf rest others
  by false are = ([], places, refl, refl, are)
  by true are =
      let first = of_more are refl in
      let shown = of_primitive first.3 refl in
      (first.0 ∷ [], first.1, first.2, (shown.0, shown.1, refl), first.4)
