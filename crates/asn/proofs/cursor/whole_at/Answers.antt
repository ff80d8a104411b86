use Rattle.std.proofs.Common.{◌≡◌, ◌∙◌, ap, List, ℕ, [], sym}
use Rattle.std.proofs.Math.Logic.{∥∥₁_elim, ∥∥₁_map}
use Rattle.std.proofs.Props.{props}
use Rattle.std.proofs.lemmas.List.{append-nil}
use Rattle.asn.proofs.Shown.{shows_it}
use Rattle.asn.proofs.Views.{begins_with_one}
use Rattle.asn.proofs.cursor.whole_at.Goals as goal

pub front_of-requires-clause-encoded : goal.front_of-requires-clause-encoded
front_of-requires-clause-encoded c = ∥∥₁_map c.requires.encoded (λ b. begins_with_one c.args.octets.now 1 b.0 b.1)

pub returns-clause-place : goal.returns-clause-place
returns-clause-place c =
    let octets = c.args.octets.now in
    let same : c.front_of.result.0.whole.now ≡ octets = ∥∥₁_elim c.requires.encoded (hlevel props) (λ b. (c.front_of.ensures.value 1 b.0 octets [] (sym (append-nil octets)) b.1).0) in
    ap (λ (w : List ℕ). record { octets = w; at = c.front_of.result.0.at }) same
    ∙ ap (λ (k : ℕ). record { octets = octets; at = k }) c.front_of.ensures.splits.value_at

pub returns-clause-shows : goal.returns-clause-shows
returns-clause-shows c = λ value encodes.
    let octets = c.args.octets.now in
    shows_it 1 value c.front_of.result.0 (rw (c.front_of.ensures.value 1 value octets [] (sym (append-nil octets)) encodes).0 encodes)
