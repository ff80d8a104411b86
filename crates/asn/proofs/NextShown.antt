-- What the next value shows of the values that a text is the encodings of.
use Rattle.std.proofs.Common.{◌≡◌, ℕ, ◌<◌, List, [], ◌++◌, length, ap, arith, Some, None}
use Rattle.der.specs.Value.{Value, Values, none, more}
use Rattle.der.specs.Encoding.{EncodesAt, EncodesAllAt}
use Rattle.der.proofs.Laws.{encoded_long}
use Rattle.asn.specs.Shows.{ShowsNext}
use Rattle.asn.specs.declared.tlv.Tlv.{Tlv}
use Rattle.asn.specs.declared.tlv.Cursor.{Cursor}
use Rattle.asn.proofs.Shown.{shows_it}

pub shows_none_next : (depth : ℕ) (vs : Values) (text : List ℕ) (left : Cursor) → EncodesAllAt depth text vs → text ≡ [] → ShowsNext depth vs None left
shows_none_next depth none text left are e = tt
shows_none_next depth (more v vs) text left (x, rest, j, sp, sps) e = absurd (let l = encoded_long depth text x rest v j sp in omega (arith, l.0, l.1, ap length e))

pub shows_next : (depth : ℕ) (vs : Values) (text : List ℕ) (tlv : Tlv) (left : Cursor) (behind : List ℕ) → left.octets.now ≡ behind → 0 < length text → EncodesAllAt depth text vs
    → ((depth : ℕ) (v : Value) (front rest : List ℕ) → text ≡ front ++ rest → EncodesAt depth front v → (tlv.whole.now ≡ front) × (behind ≡ rest))
    → ShowsNext depth vs (Some tlv) left
shows_next depth none text tlv left behind same some are parts = absurd (omega (arith, ap length are))
shows_next depth (more v vs) text tlv left behind same some (x, rest, e, sp, sps) parts =
    let p = parts depth v x rest e sp in
    let here : EncodesAt depth tlv.whole.now v = rw (p.0) sp in
    (here, shows_it depth v tlv here, rw (same, p.1) sps)
