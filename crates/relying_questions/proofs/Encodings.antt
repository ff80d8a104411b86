-- The encoding of a value has an identifier and a length.
use Rattle.std.proofs.Common.{◌≤◌, length, sym}
use Rattle.std.proofs.Math.Logic.{∥∥₁_elim}
use Rattle.std.proofs.Props.{props}
use Rattle.std.proofs.lemmas.List.{append-nil}
use Rattle.asn.specs.declared.tlv.Tlv.{Tlv}
use Rattle.der.proofs.Laws.{encoded_long}

pub is_some : (value : Tlv) → 2 ≤ length value.whole.now
is_some value =
    ∥∥₁_elim value.encoded (hlevel props) (λ is. (encoded_long is.0 value.whole.now value.whole.now _ is.1 (sym (append-nil value.whole.now)) is.2).0)
