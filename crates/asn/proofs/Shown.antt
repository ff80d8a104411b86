-- What a value shows of the value that its octets are the encoding of.
use Rattle.std.proofs.Common.{◌≡◌, ℕ, List, [], sym, ◌∙◌, true, false, Some, None}
use Rattle.std.proofs.lemmas.List.{append-nil}
use Rattle.der.specs.Value.{Value, primitive, constructed}
use Rattle.der.specs.Identifier.{is_constructed}
use Rattle.der.specs.Encoding.{EncodesAt}
use Rattle.der.proofs.Laws.{Front, parts_of, front_of}
use Rattle.asn.specs.Shows.{Shows, ShowsInside}
use Rattle.asn.specs.declared.tlv.Tlv.{Tlv}
use Rattle.asn.specs.declared.tlv.Cursor.{Cursor}
use Rattle.asn.proofs.Inside.{body_of}

-- identifier and contents of an encoding
pub words_of : (depth : ℕ) (x : List ℕ) (v : Value) (e : EncodesAt depth x v) → let p = parts_of v depth x e in Front x p.0 p.1 []
words_of depth x v e = let p = parts_of v depth x e in front_of depth x x [] p.0 p.1 (sym (append-nil x)) p.2

pub shows_it : (depth : ℕ) (v : Value) (tlv : Tlv) → EncodesAt depth tlv.whole.now v → Shows depth v tlv
shows_it depth (primitive i c) tlv e =
    let f = words_of depth tlv.whole.now (primitive i c) e in
    let named = tlv.tag_is ∙ f.identifier in
    (named, rw named e.2, body_of tlv ∙ f.contents_is)
shows_it depth (constructed i vs) tlv e =
    let f = words_of depth tlv.whole.now (constructed i vs) e in
    let named = tlv.tag_is ∙ f.identifier in
    (named, rw named e.2, rw (body_of tlv, f.contents_is) e.3.1)

-- the form of the identifier octet says whether there are values inside
pub shows_none : (depth : ℕ) (v : Value) (tlv : Tlv) → Shows depth v tlv → is_constructed tlv.tag ≡ false → ShowsInside depth v None
shows_none depth (primitive i c) tlv s form = tt
shows_none depth (constructed i vs) tlv s form = let on = s.1 in absurd cc

pub shows_some : (depth : ℕ) (v : Value) (tlv : Tlv) (cursor : Cursor) → Shows depth v tlv → is_constructed tlv.tag ≡ true → cursor.octets.now ≡ tlv.body.now → ShowsInside depth v (Some cursor)
shows_some depth (primitive i c) tlv cursor s form same = let off = s.1 in absurd cc
shows_some depth (constructed i vs) tlv cursor s form same = rw same s.2
