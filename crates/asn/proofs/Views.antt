-- Values as parts of a text.
use Rattle.std.proofs.Common.{◌≡◌, ℕ, ◌+◌, ◌-◌, ◌<◌, ◌≤◌, List, [], ◌++◌, length, get_or, take, drop, refl, sym, ap, ◌∙◌, arith, true}
use Rattle.std.proofs.lemmas.List.{length-drop, append-nil, take_at, drop_at, take_all, length-take}
use Rattle.der.specs.declared.header.Header.{Header}
use Rattle.der.specs.Value.{Value, Values, constructed, none, more}
use Rattle.der.specs.Identifier.{is_constructed}
use Rattle.der.specs.Length.{header_len, contents_len, contents_of}
use Rattle.der.specs.Encoding.{EncodesAt, EncodesAllAt}
use Rattle.der.specs.Header.{SaysHeader}
use Rattle.asn.specs.Part.{BeginsEncoded, AreEncoded}
use Rattle.der.proofs.Laws.{parts_of, front_of, read_front, rest_encoded, inner_encoded}
use Rattle.asn.proofs.Splits.{end_is}

pub begins_with_one : (text : List ℕ) (depth : ℕ) (v : Value) → EncodesAt depth text v → BeginsEncoded text
begins_with_one text depth v sp = (depth, v, text, [], sym (append-nil text), sp)

pub begins_with_first : (text : List ℕ) → 0 < length text → AreEncoded text → BeginsEncoded text
begins_with_first text some (depth, vs, are) = let r = rest_encoded depth text vs some are in (depth, r.0, r.2, r.3, r.4, r.5)

-- the octets of the first value, and those behind
pub whole_is : (text x rest : List ℕ) (depth : ℕ) (v : Value) (header : Header) → SaysHeader text header → text ≡ x ++ rest → EncodesAt depth x v → (take (header.len + header.contents) text ≡ x) × (drop (header.len + header.contents) text ≡ rest)
whole_is text x rest depth v header h e sp =
    let n : header.len + header.contents ≡ length x = sym (end_is text header h) ∙ (read_front depth text x rest v e sp).1 in
    (rw (e, n) (take_at x rest (length x) refl), rw (e, n) (drop_at x rest (length x) refl))

-- a value's own words are those of the text that it begins
pub same_words : (text x rest : List ℕ) (depth : ℕ) (v : Value) → text ≡ x ++ rest → EncodesAt depth x v → (get_or text 0 0 ≡ get_or x 0 0) × (header_len text ≡ header_len x) × (drop (header_len x) x ≡ contents_of x) × (contents_of text ≡ contents_of x)
same_words text x rest depth v e sp =
    let p = parts_of v depth x sp in
    let here = front_of depth text x rest p.0 p.1 e p.2 in
    let alone = front_of depth x x [] p.0 p.1 (sym (append-nil x)) p.2 in
    let end = (read_front depth x x [] v (sym (append-nil x)) sp).1 in (
      here.identifier ∙ sym alone.identifier,
      sym here.lengths_are.len_is ∙ alone.lengths_are.len_is,
      sym (take_all (contents_len x) (drop (header_len x) x) (omega (arith, end, length-drop (header_len x) x))),
      here.contents_is ∙ sym alone.contents_is,
    )

pub inside_constructed : (depth : ℕ) (x : List ℕ) (v : Value) → EncodesAt depth x v → is_constructed (get_or x 0 0) ≡ true → (vs : Values) × ((i : ℕ) × (v ≡ constructed (get_or x 0 0) vs)) × EncodesAllAt (depth + 1) (contents_of x) vs
inside_constructed depth x v sp form = let i = inner_encoded depth x x [] v (sym (append-nil x)) sp form in (i.0, (get_or x 0 0, sym i.2), i.1)

pub body_len : (x : List ℕ) (depth : ℕ) (v : Value) → EncodesAt depth x v → length x - length (contents_of x) ≡ header_len x
body_len x depth v sp =
    let w = same_words x x [] depth v (sym (append-nil x)) sp in
    let end = (read_front depth x x [] v (sym (append-nil x)) sp).1 in
    omega (arith, ap length w.2, length-drop (header_len x) x, end)

pub contents_shorter : (x : List ℕ) → length (contents_of x) ≤ length x
contents_shorter x = omega (arith, length-take (contents_len x) (drop (header_len x) x), length-drop (header_len x) x)

pub next_values : (depth : ℕ) (text whole behind : List ℕ) (vs : Values) → 0 < length text → EncodesAllAt depth text vs
    → ((depth : ℕ) (v : Value) (front rest : List ℕ) → text ≡ front ++ rest → EncodesAt depth front v → (whole ≡ front) × (behind ≡ rest))
    → (v : Value) × (others : Values) × (vs ≡ more v others) × EncodesAt depth whole v × EncodesAllAt depth behind others
next_values depth text whole behind none some e parts = absurd (omega (arith, ap length e))
next_values depth text whole behind (more v vs) some (x, rest, e, sp, sps) parts =
    let p = parts depth v x rest e sp in
    (v, vs, refl, rw (p.0) sp, rw (p.1) sps)
