use Rattle.std.proofs.Common.{◌∙◌, ◌≡◌, ◌+◌, List, ℕ, ◌∷◌, sym, arith, length, ap, refl}
use Rattle.std.proofs.Math.Logic.{∥∥₁_map}
use Rattle.std.proofs.lemmas.List.{length-append}
use Rattle.asn.specs.Members.{members_at}
use Rattle.asn.specs.Place.{Place, seen_tlv, behind, values}
use Rattle.asn.proofs.PlaceLemmas.{values_none, values_more}
use Rattle.asn.proofs.Splits.{ends_is, empty_is, some_left}
use Rattle.asn.proofs.Views.{begins_with_first, next_values}
use Rattle.asn.proofs.NextShown.{shows_none_next, shows_next}
use Rattle.asn.proofs.tlv.Cursor.next.Goals as goal

pub returns-then-end-clause-step : goal.returns-then-end-clause-step
unfolding members_at
returns-then-end-clause-step c = values_none c.args.self.now.octets.now c.args.self.now.at (sym c.end.ensures.ends ∙ c.if-end.true)

pub returns-then-end-clause-shows : goal.returns-then-end-clause-shows
returns-then-end-clause-shows c = λ depth vs are.
    let old = c.args.self.now in
    shows_none_next depth vs old.octets.now old are (empty_is old.octets.now c.end.result (c.end.ensures.ends ∙ ends_is old.octets.now old.at) c.if-end.true)

pub front_of-requires-clause-encoded : goal.front_of-requires-clause-encoded
front_of-requires-clause-encoded c =
    let old = c.args.self.now in
    let some = some_left old.octets.now c.end.result (c.end.ensures.ends ∙ ends_is old.octets.now old.at) c.if-end.false in
    ∥∥₁_map old.encoded (λ b. begins_with_first old.octets.now some b)

pub invariant_of-self : goal.invariant_of-self
invariant_of-self c =
    let old = c.args.self.now in
    let some = some_left old.octets.now c.end.result (c.end.ensures.ends ∙ ends_is old.octets.now old.at) c.if-end.false in
    record {
      encoded = ∥∥₁_map old.encoded (λ b. let n = next_values b.0 old.octets.now c.front_of.result.0.whole.now c.front_of.result.1.now b.1 some b.2 c.front_of.ensures.value in (b.0, n.1, n.4));
      fits = omega (arith, old.fits, ap length c.front_of.ensures.splits.octets, length-append c.front_of.result.0.whole.now c.front_of.result.1.now);
    }

pub returns-clause-step : goal.returns-clause-step
unfolding members_at
returns-clause-step c =
    let old = c.args.self.now in
    let more = values_more old.octets.now old.at (sym c.end.ensures.ends ∙ c.if-end.false) in
    let e = more ∙ ap (λ (p : Place). p ∷ values (behind (record { octets = old.octets.now; at = old.at }))) (sym c.front_of.ensures.first)
    ∙ ap (λ (p : Place). seen_tlv c.front_of.result.0 ∷ values p) (sym c.front_of.ensures.others) in
    let n : old.at + length old.octets.now ≡ (old.at + length c.front_of.result.0.whole.now) + length c.front_of.result.1.now = omega (arith, ap length c.front_of.ensures.splits.octets, length-append c.front_of.result.0.whole.now c.front_of.result.1.now) in
    ap (λ (vs : List Place). record { values = vs; end = old.at + length old.octets.now }) e ∙ ap (λ (k : ℕ). record { values = seen_tlv c.front_of.result.0 ∷ values (record { octets = c.front_of.result.1.now; at = old.at + length c.front_of.result.0.whole.now }); end = k }) n

pub returns-clause-shows : goal.returns-clause-shows
returns-clause-shows c = λ depth vs are.
    let old = c.args.self.now in
    let some = some_left old.octets.now c.end.result (c.end.ensures.ends ∙ ends_is old.octets.now old.at) c.if-end.false in
    shows_next depth vs old.octets.now c.front_of.result.0 _ c.front_of.result.1.now refl some are c.front_of.ensures.value
