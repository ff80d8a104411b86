-- The members of a part of a source are parts of the source.
use Rattle.std.proofs.Common.{◌≡◌, ℕ, ◌+◌, List, [], ◌∷◌, ◌++◌, length, take, drop, sym, ap, ◌∙◌, arith, append_assoc, subst}
use Rattle.std.proofs.lemmas.List.{append-nil, length-append, length-drop, length-take-le, take-append-drop, take_all}
use Rattle.der.specs.Value.{Value, Values, constructed, none, more}
use Rattle.der.specs.Length.{header_len, contents_len, contents_of}
use Rattle.der.specs.Encoding.{EncodesAt, EncodesAllAt}
use Rattle.der.proofs.Laws.{parts_of, front_of, read_front, encoded_long}
use Rattle.asn.specs.Part.{IsPartOf}
use Rattle.asn.specs.Place.{Place, body_place, values, behind}
use Rattle.asn.specs.Members.{members, members_at}
use Rattle.asn.specs.Layout.{AreParts}
use Rattle.asn.proofs.PlaceLemmas.{values_none, values_more}
use Rattle.asn.proofs.MemberLemmas.{front_is, behind_is, no_end, an_end}

-- the first and the second piece of a part
pub first_part : (source : List ℕ) (at : ℕ) (text x rest : List ℕ) → text ≡ x ++ rest → IsPartOf source at text → IsPartOf source at x
first_part source at text x rest e p = record {
  before = p.before;
  behind = rest ++ p.behind;
  joined = p.joined ∙ ap (λ (t : List ℕ). (p.before ++ t) ++ p.behind) e ∙ ap (λ (t : List ℕ). t ++ p.behind) (sym (append_assoc p.before x rest)) ∙ append_assoc (p.before ++ x) rest p.behind;
  place = p.place;
}

pub second_part : (source : List ℕ) (at : ℕ) (text x rest : List ℕ) → text ≡ x ++ rest → IsPartOf source at text → IsPartOf source (at + length x) rest
second_part source at text x rest e p = record {
  before = p.before ++ x;
  behind = p.behind;
  joined = p.joined ∙ ap (λ (t : List ℕ). (p.before ++ t) ++ p.behind) e ∙ ap (λ (t : List ℕ). t ++ p.behind) (sym (append_assoc p.before x rest));
  place = omega (arith, length-append p.before x, p.place);
}

are_parts : (vs : Values) (depth : ℕ) (text : List ℕ) (at : ℕ) (source : List ℕ) → EncodesAllAt depth text vs → IsPartOf source at text → AreParts source (values (record { octets = text; at = at }))
are_parts none depth text at source are p = subst (AreParts source) (sym (values_none text at (an_end text at are))) tt
are_parts (more v vs) depth text at source (x, rest, e, sp, sps) p =
    let long = encoded_long depth text x rest v e sp in
    let more_is = values_more text at (no_end text at (omega (arith, long.0, long.1))) in
    let parts_are = more_is ∙ ap (λ (q : Place). q ∷ values (behind (record { octets = text; at = at }))) (front_is depth text x rest at v e sp)
    ∙ ap (λ (q : Place). record { octets = x; at = at } ∷ values q) (behind_is depth text x rest at v e sp) in
    subst (AreParts source) (sym parts_are) (first_part source at text x rest e p, are_parts vs depth rest (at + length x) source sps (second_part source at text x rest e p))

-- the contents of an encoding, a part of it
pub contents_part : (source : List ℕ) (depth at : ℕ) (x : List ℕ) (v : Value) → EncodesAt depth x v → IsPartOf source at x → IsPartOf source (at + header_len x) (contents_of x)
contents_part source depth at x v sp p =
    let r = read_front depth x x [] v (sym (append-nil x)) sp in
    let w = parts_of v depth x sp in
    let f = front_of depth x x [] w.0 w.1 (sym (append-nil x)) w.2 in
    let all : contents_of x ≡ drop (header_len x) x = take_all (contents_len x) (drop (header_len x) x) (omega (arith, length-drop (header_len x) x, r.1)) in
    let cut : x ≡ take (header_len x) x ++ contents_of x = sym (take-append-drop (header_len x) x) ∙ ap (λ (y : List ℕ). take (header_len x) x ++ y) (sym all) in
    let size : length (take (header_len x) x) ≡ header_len x = length-take-le (header_len x) x (omega (arith, f.within)) in
    subst (λ (n : ℕ). IsPartOf source (at + n) (contents_of x)) size (second_part source at x (take (header_len x) x) (contents_of x) cut p)

-- the members of a primitive value are none that anyone asks for; those of a constructed one are parts
pub members_are_parts : (source : List ℕ) (depth i : ℕ) (vs : Values) (place : Place) → IsPartOf source place.at place.octets → EncodesAt depth place.octets (constructed i vs) → AreParts source (members place).values
unfolding members_at body_place
members_are_parts source depth i vs place p sp =
    let f = front_of depth place.octets place.octets [] i sp.3.0 (sym (append-nil place.octets)) (parts_of (constructed i vs) depth place.octets sp).2 in
    are_parts vs (depth + 1) (contents_of place.octets) (place.at + header_len place.octets) source (rw f.contents_is sp.3.1)
    (contents_part source depth place.at place.octets (constructed i vs) sp p)
