-- A text spells at most one value, and no encoding begins another.
use Rattle.std.proofs.Common.{◌≡◌, ℕ, ◌+◌, List, ◌++◌, sym, ap, ◌∙◌, true, false}
use Rattle.der.specs.Value.{Value, primitive, constructed, Values, none, more}
use Rattle.der.specs.Identifier.{is_constructed}
use Rattle.der.specs.Encoding.{encoding_of, EncodesAt, EncodesAllAt}
use Rattle.der.proofs.Clean.{Parts, parts_of, front_of}
use Rattle.der.proofs.Parts.{none_left}

mutual
  pub one_encoding : (v : Value) (d e : ℕ) (a b : List ℕ) → EncodesAt d a v → EncodesAt e b v → a ≡ b
  one_encoding (primitive i c) d e a b p q = p.5 ∙ sym q.5
  one_encoding (constructed i vs) d e a b p q =
      p.3.3 ∙ ap (λ (c : List ℕ). encoding_of i c) (one_encoding_all vs (d + 1) (e + 1) p.3.0 q.3.0 p.3.1 q.3.1) ∙ sym q.3.3

  pub one_encoding_all : (vs : Values) (d e : ℕ) (a b : List ℕ) → EncodesAllAt d a vs → EncodesAllAt e b vs → a ≡ b
  one_encoding_all none d e a b p q = p ∙ sym q
  one_encoding_all (more v vs) d e a b p q =
      p.2 ∙ ap (λ (x : List ℕ). x ++ p.1) (one_encoding v d e p.0 q.0 p.3 q.3) ∙ ap (λ (y : List ℕ). q.0 ++ y) (one_encoding_all vs d e p.1 q.1 p.4 q.4) ∙ sym q.2

-- the outermost identifier, contents and rest of a text are one
pub record SameFront (i j : ℕ) (c k x y a b : List ℕ) : Type 0 where
  pub identifier : i ≡ j
  pub contents : c ≡ k
  pub rest : x ≡ y
  pub encoded : a ≡ b

same_front : (d e : ℕ) (text a b x y : List ℕ) (i j : ℕ) (c k : List ℕ) → text ≡ a ++ x → text ≡ b ++ y → Parts d a i c → Parts e b j k → SameFront i j c k x y a b
same_front d e text a b x y i j c k p q s t =
    let f = front_of d text a x i c p s in
    let g = front_of e text b y j k q t in
    let same_i : i ≡ j = sym f.identifier ∙ g.identifier in
    let same_c : c ≡ k = sym f.contents_is ∙ g.contents_is in
    record { identifier = same_i; contents = same_c; rest = sym f.rest_is ∙ g.rest_is; encoded = s.text_is ∙ ap (λ (n : ℕ). encoding_of n c) same_i ∙ ap (λ (z : List ℕ). encoding_of j z) same_c ∙ sym t.text_is }

mutual
  pub one_value : (v w : Value) (d e : ℕ) (text a b x y : List ℕ) → text ≡ a ++ x → text ≡ b ++ y → EncodesAt d a v → EncodesAt e b w → (a ≡ b) × (x ≡ y) × (v ≡ w)
  one_value (primitive i c) (primitive j k) d e text a b x y p q s t =
      let f = same_front d e text a b x y i j c k p q (parts_of (primitive i c) d a s).2 (parts_of (primitive j k) e b t).2 in
      (f.encoded, f.rest, ap (λ (n : ℕ). primitive n c) f.identifier ∙ ap (λ (z : List ℕ). primitive j z) f.contents)
  one_value (primitive i c) (constructed j ws) d e text a b x y p q s t =
      let f = same_front d e text a b x y i j c t.3.0 p q (parts_of (primitive i c) d a s).2 (parts_of (constructed j ws) e b t).2 in
      let off = s.2 in
      let on : is_constructed i ≡ true = rw (f.identifier) t.2 in
      absurd cc
  one_value (constructed i vs) (primitive j k) d e text a b x y p q s t =
      let f = same_front d e text a b x y i j s.3.0 k p q (parts_of (constructed i vs) d a s).2 (parts_of (primitive j k) e b t).2 in
      let on = s.2 in
      let off : is_constructed i ≡ false = rw (f.identifier) t.2 in
      absurd cc
  one_value (constructed i vs) (constructed j ws) d e text a b x y p q s t =
      let f = same_front d e text a b x y i j s.3.0 t.3.0 p q (parts_of (constructed i vs) d a s).2 (parts_of (constructed j ws) e b t).2 in
      (f.encoded, f.rest, ap (λ (n : ℕ). constructed n vs) f.identifier ∙ ap (λ (z : Values). constructed j z) (one_value_all vs ws (d + 1) (e + 1) s.3.0 s.3.1 (rw (f.contents) t.3.1)))

  pub one_value_all : (vs ws : Values) (d e : ℕ) (text : List ℕ) → EncodesAllAt d text vs → EncodesAllAt e text ws → vs ≡ ws
  one_value_all none ws d e text s t = sym (none_left e text ws s t)
  one_value_all (more v vs) none d e text s t = none_left d text (more v vs) t s
  one_value_all (more v vs) (more w ws) d e text s t =
      let o = one_value v w d e text s.0 t.0 s.1 t.1 s.2 t.2 s.3 t.3 in
      ap (λ (u : Value). more u vs) o.2 ∙ ap (λ (us : Values). more w us) (one_value_all vs ws d e s.1 s.4 (rw (o.1) t.4))
