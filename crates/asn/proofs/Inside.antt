-- Where the contents of a value stand.
use Rattle.std.proofs.Common.{[], sym, ◌≡◌, ◌+◌, ◌-◌, ◌<◌, arith, ℕ, List, length, ap, ◌∙◌}
use Rattle.std.proofs.Math.Logic.{∥∥₁_elim}
use Rattle.std.proofs.Props.{props}
use Rattle.std.proofs.lemmas.List.{append-nil}
use Rattle.der.specs.Length.{header_len, contents_of, contents_limit}
use Rattle.asn.specs.Part.{contents}
use Rattle.asn.specs.declared.tlv.Tlv.{Tlv}
use Rattle.asn.specs.Place.{Place, seen_tlv, body_place}
use Rattle.der.proofs.Laws.{two_octets, parts_of, front_of}
use Rattle.asn.proofs.Views.{body_len}

pub body_of : (tlv : Tlv) → tlv.body.now ≡ contents_of tlv.whole.now
unfolding contents
body_of tlv = tlv.body_is

contents_at : (tlv : Tlv) → tlv.at + (length tlv.whole.now - length tlv.body.now) ≡ tlv.at + header_len tlv.whole.now
contents_at tlv =
    ap (λ (n : ℕ). tlv.at + n)
    (ap (λ (x : List ℕ). length tlv.whole.now - length x) (body_of tlv) ∙ ∥∥₁_elim tlv.encoded (hlevel props) (λ b. body_len tlv.whole.now b.0 b.1 b.2))

abbrev pub contents_place : Tlv → Place
contents_place tlv = record { octets = tlv.body.now; at = tlv.at + (length tlv.whole.now - length tlv.body.now) }

pub inside_is : (tlv : Tlv) → contents_place tlv ≡ body_place (seen_tlv tlv)
unfolding body_place
inside_is tlv =
    ap (λ (w : List ℕ). record { octets = w; at = tlv.at + (length tlv.whole.now - length tlv.body.now) }) (body_of tlv)
    ∙ ap (λ (k : ℕ). record { octets = contents_of tlv.whole.now; at = k }) (contents_at tlv)

-- the contents stand where the offset says
pub stands_inside : (tlv : Tlv) (at : ℕ) → at ≡ (body_place (seen_tlv tlv)).at → record { octets = tlv.body.now; at = at } ≡ body_place (seen_tlv tlv)
unfolding body_place
stands_inside tlv at e =
    ap (λ (k : ℕ). record { octets = tlv.body.now; at = k }) e
    ∙ ap (λ (w : List ℕ). record { octets = w; at = tlv.at + header_len tlv.whole.now }) (body_of tlv)

pub body_shorter : (tlv : Tlv) → length tlv.body.now < length tlv.whole.now
body_shorter tlv =
    ∥∥₁_elim tlv.encoded (hlevel props) (λ b.
    let l = body_len tlv.whole.now b.0 b.1 b.2 in
    let two = two_octets tlv.whole.now in
    rw (body_of tlv) (omega arith))

pub body_bounded : (tlv : Tlv) → length tlv.body.now < contents_limit
body_bounded tlv =
    ∥∥₁_elim tlv.encoded (hlevel props) (λ b.
    let p = parts_of b.1 b.0 tlv.whole.now b.2 in
    let f = front_of b.0 tlv.whole.now tlv.whole.now [] p.0 p.1 (sym (append-nil tlv.whole.now)) p.2 in
    rw (body_of tlv, f.contents_is) p.2.bounded)
