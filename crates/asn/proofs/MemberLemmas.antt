-- The members of a value, as places, are the encodings of the values inside, one for one.
use Rattle.std.proofs.Common.{◌≡◌, ℕ, ◌+◌, ◌<◌, ◌≤◌, List, [], ◌∷◌, ◌++◌, length, drop, refl, sym, ap, ◌∙◌, arith, true, false, subst}
use Rattle.std.proofs.lemmas.List.{append-nil, take_at, length-drop, length-take-le}
use Rattle.der.specs.Value.{Value, Values, primitive, constructed, none, more}
use Rattle.der.specs.Length.{header_len, contents_len, contents_of, end_of}
use Rattle.der.specs.Encoding.{EncodesAt, EncodesAllAt}
use Rattle.der.proofs.Laws.{parts_of, front_of, read_front, encoded_long}
use Rattle.asn.specs.Part.{contents}
use Rattle.asn.specs.Place.{Place, body, body_place, ends, front, behind, values}
use Rattle.asn.specs.Members.{members_at}
use Rattle.asn.specs.Layout.{AreMembersAt, IsValueAt}
use Rattle.asn.specs.Size.{octets_of_all}
use Rattle.asn.proofs.PlaceLemmas.{values_none, values_more}
use Rattle.asn.proofs.Sizes.{encodable_all}

contents_size : (text : List ℕ) → end_of text ≤ length text → header_len text + length (contents_of text) ≡ end_of text
contents_size text within = omega (arith, length-take-le (contents_len text) (drop (header_len text) text) (omega (arith, length-drop (header_len text) text)))

-- the first value of a text, and what is behind it
pub front_is : (depth : ℕ) (text x rest : List ℕ) (at : ℕ) (v : Value) → text ≡ x ++ rest → EncodesAt depth x v → front (record { octets = text; at = at }) ≡ record { octets = x; at = at }
unfolding front
front_is depth text x rest at v e sp =
    let r = read_front depth text x rest v e sp in
    ap (λ (o : List ℕ). record { octets = o; at = at }) (rw (r.1, e) (take_at x rest (length x) refl))

pub behind_is : (depth : ℕ) (text x rest : List ℕ) (at : ℕ) (v : Value) → text ≡ x ++ rest → EncodesAt depth x v → behind (record { octets = text; at = at }) ≡ record { octets = rest; at = at + length x }
unfolding behind
behind_is depth text x rest at v e sp =
    let r = read_front depth text x rest v e sp in
    ap (λ (o : List ℕ). record { octets = o; at = at + end_of text }) r.0 ∙ ap (λ (n : ℕ). record { octets = rest; at = at + n }) r.1

pub no_end : (text : List ℕ) (at : ℕ) → 0 < length text → ends (record { octets = text; at = at }) ≡ false
unfolding ends
no_end [] at some = absurd (omega arith)
no_end (o ∷ os) at some = refl

pub an_end : (text : List ℕ) (at : ℕ) → text ≡ [] → ends (record { octets = text; at = at }) ≡ true
unfolding ends
an_end text at e = rw e refl

pub are_members : (vs : Values) (depth : ℕ) (text : List ℕ) (at : ℕ) → EncodesAllAt depth text vs → AreMembersAt depth at vs (values (record { octets = text; at = at }))
are_members none depth text at are = subst (AreMembersAt depth at none) (sym (values_none text at (an_end text at are))) tt
are_members (more v vs) depth text at (x, rest, e, sp, sps) =
    let long = encoded_long depth text x rest v e sp in
    let more_is = values_more text at (no_end text at (omega (arith, long.0, long.1))) in
    let parts_are = more_is ∙ ap (λ (p : Place). p ∷ values (behind (record { octets = text; at = at }))) (front_is depth text x rest at v e sp)
    ∙ ap (λ (p : Place). record { octets = x; at = at } ∷ values p) (behind_is depth text x rest at v e sp) in
    subst (AreMembersAt depth at (more v vs)) (sym parts_are) (refl, sp, are_members vs depth rest (at + length x) sps)

pub holds : (depth : ℕ) (v : Value) (place : Place) → EncodesAt depth place.octets v → IsValueAt depth v place
unfolding contents members_at body_place
holds depth (primitive i c) place sp =
    let f = front_of depth place.octets place.octets [] i c (sym (append-nil place.octets)) (parts_of (primitive i c) depth place.octets sp).2 in
    (f.identifier, sp.2, f.contents_is)
holds depth (constructed i vs) place sp =
    let f = front_of depth place.octets place.octets [] i sp.3.0 (sym (append-nil place.octets)) (parts_of (constructed i vs) depth place.octets sp).2 in
    let r = read_front depth place.octets place.octets [] (constructed i vs) (sym (append-nil place.octets)) sp in
    let size : place.at + header_len place.octets + length (contents_of place.octets) ≡ place.at + length place.octets = omega (arith, contents_size place.octets f.within, r.1) in
    (f.identifier, sp.2, are_members vs (depth + 1) (contents_of place.octets) (place.at + header_len place.octets) (rw f.contents_is sp.3.1), size)

-- the contents of a constructed value are the encodings of the values inside
pub contents_held : (depth i : ℕ) (vs : Values) (place : Place) → EncodesAt depth place.octets (constructed i vs) → body place ≡ octets_of_all vs
unfolding contents
contents_held depth i vs place sp =
    let f = front_of depth place.octets place.octets [] i sp.3.0 (sym (append-nil place.octets)) (parts_of (constructed i vs) depth place.octets sp).2 in
    f.contents_is ∙ (encodable_all vs (depth + 1) sp.3.0 sp.3.1).1
