-- What a text that begins with an encoding consists of: the value's octets, the values inside, the values behind.
use Rattle.std.proofs.Common.{◌≡◌, ℕ, ◌+◌, ◌<◌, ◌≤◌, List, [], ◌++◌, length, get_or, drop, refl, ap, arith, true, false}
use Rattle.std.proofs.lemmas.List.{length-drop, length-append}
use Rattle.der.specs.Value.{Value, primitive, constructed, Values, none, more}
use Rattle.der.specs.Identifier.{is_constructed}
use Rattle.der.specs.Length.{contents_of, end_of}
use Rattle.der.specs.Encoding.{EncodesAt, EncodesAllAt}
use Rattle.der.proofs.Headers.{two_octets}
use Rattle.der.proofs.Clean.{parts_of, front_of}

-- the front's facts, for any way to read it
pub read_front : (depth : ℕ) (text x rest : List ℕ) (v : Value) → text ≡ x ++ rest → EncodesAt depth x v → (drop (end_of text) text ≡ rest) × (end_of text ≡ length x)
read_front depth text x rest v e sp =
    let p = parts_of v depth x sp in
    let f = front_of depth text x rest p.0 p.1 e p.2 in
    (f.rest_is, omega (arith, f.within, length-drop (end_of text) text, ap length f.rest_is, ap length e, length-append x rest))

-- a primitive value
pub built_primitive : (depth : ℕ) (text x rest : List ℕ) (v : Value) → text ≡ x ++ rest → EncodesAt depth x v → is_constructed (get_or text 0 0) ≡ false → primitive (get_or text 0 0) (contents_of text) ≡ v
built_primitive depth text x rest (primitive i c) e sp form =
    let f = front_of depth text x rest i c e (parts_of (primitive i c) depth x sp).2 in
    rw (f.identifier, f.contents_is) refl
built_primitive depth text x rest (constructed i vs) e sp form =
    let f = front_of depth text x rest i sp.3.0 e (parts_of (constructed i vs) depth x sp).2 in
    let is_on = sp.2 in
    let is_off : is_constructed i ≡ false = rw (← f.identifier) form in
    absurd cc

-- a constructed value, by what its contents spells
pub inner_encoded : (depth : ℕ) (text x rest : List ℕ) (v : Value) → text ≡ x ++ rest → EncodesAt depth x v → is_constructed (get_or text 0 0) ≡ true → (vs : Values) × EncodesAllAt (depth + 1) (contents_of text) vs × (constructed (get_or text 0 0) vs ≡ v)
inner_encoded depth text x rest (primitive i c) e sp form =
    let f = front_of depth text x rest i c e (parts_of (primitive i c) depth x sp).2 in
    let is_off = sp.2 in
    let is_on : is_constructed i ≡ true = rw (← f.identifier) form in
    absurd cc
inner_encoded depth text x rest (constructed i vs) e sp form =
    let f = front_of depth text x rest i sp.3.0 e (parts_of (constructed i vs) depth x sp).2 in
    (vs, rw (f.contents_is) sp.3.1, rw (f.identifier) refl)

-- the values behind the first
pub rest_encoded : (depth : ℕ) (text : List ℕ) (vs : Values) → 0 < length text → EncodesAllAt depth text vs → (v : Value) × (others : Values) × (x : List ℕ) × (rest : List ℕ) × (text ≡ x ++ rest) × EncodesAt depth x v × EncodesAllAt depth (drop (end_of text) text) others × (vs ≡ more v others)
rest_encoded depth text none some e = absurd (omega (arith, ap length e))
rest_encoded depth text (more v vs) some (x, rest, e, sp, sps) =
    (v, vs, x, rest, e, sp, rw ((read_front depth text x rest v e sp).0) sps, refl)

pub encoded_long : (depth : ℕ) (text x rest : List ℕ) (v : Value) → text ≡ x ++ rest → EncodesAt depth x v → (2 ≤ length x) × (length x ≤ length text)
encoded_long depth text x rest v e sp = (omega (arith, (read_front depth text x rest v e sp).1, two_octets text), omega (arith, ap length e, length-append x rest))

pub none_left : (depth : ℕ) (text : List ℕ) (vs : Values) → text ≡ [] → EncodesAllAt depth text vs → vs ≡ none
none_left depth text none is_empty are = refl
none_left depth text (more v vs) is_empty (x, rest, e, sp, sps) = absurd (let l = encoded_long depth text x rest v e sp in omega (arith, l.0, l.1, ap length is_empty))
