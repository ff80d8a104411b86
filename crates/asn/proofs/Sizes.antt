-- The octets of an encodable value are its encoding, and no others are.
use Rattle.std.proofs.Common.{◌≡◌, ℕ, ◌+◌, List, ◌++◌, length, refl, ap, ◌∙◌, arith}
use Rattle.std.proofs.lemmas.List.{length-append}
use Rattle.der.specs.Value.{Value, primitive, constructed, Values, none, more}
use Rattle.der.specs.Length.{length_octets}
use Rattle.der.specs.Encoding.{encoding_of, EncodesAt, EncodesAllAt}
use Rattle.asn.specs.Size.{size_around, size_of, size_of_all, octets_of, octets_of_all, IsEncodableAt, AreEncodableAt}

around : (i : ℕ) (c : List ℕ) → length (encoding_of i c) ≡ size_around (length c)
around i c = omega (arith, length-append (length_octets (length c)) c)

mutual
  pub length-octets_of : (v : Value) → length (octets_of v) ≡ size_of v
  length-octets_of (primitive i c) = around i c
  length-octets_of (constructed i vs) = around i (octets_of_all vs) ∙ ap size_around (length-octets_of_all vs)

  pub length-octets_of_all : (vs : Values) → length (octets_of_all vs) ≡ size_of_all vs
  length-octets_of_all none = refl
  length-octets_of_all (more v vs) = omega (arith, length-append (octets_of v) (octets_of_all vs), length-octets_of v, length-octets_of_all vs)

mutual
  pub encodes : (v : Value) (d : ℕ) → IsEncodableAt d v → EncodesAt d (octets_of v) v
  encodes (primitive i c) d e = (e.0, e.1, e.2, e.3, e.4, refl)
  encodes (constructed i vs) d (h, are, lt) =
      (h.0, h.1, h.2, (octets_of_all vs, encodes_all vs (d + 1) are, rw (length-octets_of_all vs) lt, refl))

  pub encodes_all : (vs : Values) (d : ℕ) → AreEncodableAt d vs → EncodesAllAt d (octets_of_all vs) vs
  encodes_all none d are = refl
  encodes_all (more v vs) d are = (octets_of v, octets_of_all vs, refl, encodes v d are.0, encodes_all vs d are.1)

mutual
  pub encodable : (v : Value) (d : ℕ) (x : List ℕ) → EncodesAt d x v → IsEncodableAt d v × (x ≡ octets_of v)
  encodable (primitive i c) d x e = ((e.0, e.1, e.2, e.3, e.4), e.5)
  encodable (constructed i vs) d x (deep, accepted, form, (c, are, lt, e)) =
      let all = encodable_all vs (d + 1) c are in
      let size : length c ≡ size_of_all vs = ap length all.1 ∙ length-octets_of_all vs in
      (((deep, accepted, form), all.0, rw (← size) lt), e ∙ ap (λ (w : List ℕ). encoding_of i w) all.1)

  pub encodable_all : (vs : Values) (d : ℕ) (x : List ℕ) → EncodesAllAt d x vs → AreEncodableAt d vs × (x ≡ octets_of_all vs)
  encodable_all none d x e = (tt, e)
  encodable_all (more v vs) d x (front, rest, e, sp, sps) =
      let here = encodable v d front sp in
      let others = encodable_all vs d rest sps in
      ((here.0, others.0), e ∙ ap (λ (w : List ℕ). w ++ rest) here.1 ∙ ap (λ (w : List ℕ). octets_of v ++ w) others.1)

pub length-encoding : (v : Value) (d : ℕ) (x : List ℕ) → EncodesAt d x v → length x ≡ size_of v
length-encoding v d x e = ap length (encodable v d x e).1 ∙ length-octets_of v

pub length-encodings : (vs : Values) (d : ℕ) (x : List ℕ) → EncodesAllAt d x vs → length x ≡ size_of_all vs
length-encodings vs d x e = ap length (encodable_all vs d x e).1 ∙ length-octets_of_all vs
