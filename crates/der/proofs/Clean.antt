-- No value in a encoded text breaks a rule.
use Rattle.std.proofs.Common.{◌≡◌, ℕ, ◌<◌, ◌≤◌, List, ◌++◌, length, sym, ap, ◌∙◌, arith, true, false, subst}
use Rattle.der.specs.declared.fault.Rule.{Rule}
use Rattle.der.specs.declared.fault.Rule.TheVariants.{TagForm, LengthForm, TooLong, Truncated, TooDeep, Content, Trailing}
use Rattle.der.specs.Value.{Value, primitive, constructed, Values, none, more}
use Rattle.der.specs.Identifier.{is_refused, is_constructed}
use Rattle.der.specs.Contents.{IsContents}
use Rattle.der.specs.Length.{contents_limit}
use Rattle.der.specs.Encoding.{encoding_of, deepest, EncodesAt, EncodesAllAt}
use Rattle.der.specs.FirstFault.{Breaks, StartsIn, StartsAmong, itself, inside, first, later}
use Rattle.der.proofs.Fronts.{Front, front}

-- what the outermost identifier and contents of a encoded value are
pub record Parts (depth : ℕ) (x : List ℕ) (i : ℕ) (c : List ℕ) : Type 0 where
  pub deep : depth ≤ deepest
  pub accepted : is_refused i ≡ false
  pub bounded : length c < contents_limit
  pub text_is : x ≡ encoding_of i c
  pub allowed : is_constructed i ≡ false → IsContents i c

-- a constructed identifier allows what no primitive one asks for
pub not_primitive : (i : ℕ) (c : List ℕ) → is_constructed i ≡ true → is_constructed i ≡ false → IsContents i c
not_primitive i c form is_off = absurd cc

abbrev pub parts_of : (v : Value) (depth : ℕ) (x : List ℕ) → EncodesAt depth x v → (i : ℕ) × (c : List ℕ) × Parts depth x i c
parts_of (primitive i c) depth x (deep, accepted, form, allowed, bounded, e) = (i, c, record { deep = deep; accepted = accepted; bounded = bounded; text_is = e; allowed = λ _. allowed })
parts_of (constructed i vs) depth x (deep, accepted, form, (c, _, bounded, e)) = (i, c, record { deep = deep; accepted = accepted; bounded = bounded; text_is = e; allowed = not_primitive i c form })

pub front_of : (depth : ℕ) (text x rest : List ℕ) (i : ℕ) (c : List ℕ) → text ≡ x ++ rest → Parts depth x i c → Front text i c rest
front_of depth text x rest i c e p = subst (λ (t : List ℕ). Front t i c rest) (sym (e ∙ ap (λ (y : List ℕ). y ++ rest) p.text_is)) (front i c rest p.bounded)

-- the outermost value itself
own : (depth : ℕ) (text x rest : List ℕ) (i : ℕ) (c : List ℕ) → Front text i c rest → Parts depth x i c → (other : Rule) → Breaks other depth text → ⊥
own depth text x rest i c f p TagForm (_, r) = let e = f.identifier in let a = p.accepted in let b : is_refused i ≡ true = rw (← e) r in absurd cc
own depth text x rest i c f p LengthForm b = f.lengths_are.form b
own depth text x rest i c f p TooLong (w, ge) = let lt = f.lengths_are.bounded in omega arith
own depth text x rest i c f p Truncated b = b (f.lengths_are.whole, f.within)
own depth text x rest i c f p TooDeep b = let d = p.deep in omega arith
own depth text x rest i c f p Content (is_off, not_allowed) = not_allowed (rw (f.identifier, f.contents_is) (p.allowed (rw (← f.identifier) is_off)))
own depth text x rest i c f p Trailing b = b

mutual
  pub clean_in : {depth : ℕ} {text : List ℕ} {at : ℕ} {level : ℕ} {r : List ℕ} → StartsIn depth text at level r → (v : Value) (x rest : List ℕ) → text ≡ x ++ rest → EncodesAt depth x v → (other : Rule) → Breaks other level r → ⊥
  clean_in {depth} {text} itself v x rest e sp other b =
      let p = parts_of v depth x sp in
      own depth text x rest p.0 p.1 (front_of depth text x rest p.0 p.1 e p.2) p.2 other b
  clean_in {depth} {text} (inside is_on whole within among) (primitive i c) x rest e sp other b =
      let p = parts_of (primitive i c) depth x sp in
      let f = front_of depth text x rest i c e p.2 in
      let is_off = sp.2 in
      let is_on' : is_constructed i ≡ true = rw (← f.identifier) is_on in
      absurd cc
  clean_in {depth} {text} (inside is_on whole within among) (constructed i vs) x rest e sp other b =
      let p = parts_of (constructed i vs) depth x sp in
      let f = front_of depth text x rest i sp.3.0 e p.2 in
      clean_among among vs (rw f.contents_is sp.3.1) other b

  pub clean_among : {depth : ℕ} {text : List ℕ} {at : ℕ} {level : ℕ} {r : List ℕ} → StartsAmong depth text at level r → (vs : Values) → EncodesAllAt depth text vs → (other : Rule) → Breaks other level r → ⊥
  clean_among {depth} {text} (first some s) none e other b = absurd (omega (arith, ap length e))
  clean_among {depth} {text} (first some s) (more v vs) (x, rest, e, sp, sps) other b = clean_in s v x rest e sp other b
  clean_among {depth} {text} (later whole within s) none e other b = absurd (omega (arith, whole.0, ap length e))
  clean_among {depth} {text} (later whole within s) (more v vs) (x, rest, e, sp, sps) other b =
      let p = parts_of v depth x sp in
      let f = front_of depth text x rest p.0 p.1 e p.2 in
      clean_among s vs (rw f.rest_is sps) other b
