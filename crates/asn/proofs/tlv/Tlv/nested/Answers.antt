use Rattle.std.proofs.Common.{ℕ, Ok, Result, sym, ap, ◌∙◌, arith}
use Rattle.der.specs.declared.fault.Rule.{Rule}
use Rattle.asn.specs.Place.{Place}
use Rattle.asn.specs.Outermost.{first_fault_in, placed, nested}
use Rattle.asn.proofs.Inside.{stands_inside}
use Rattle.asn.proofs.tlv.Tlv.nested.Goals as goal

pub whole_at-requires-clause-encoded : goal.whole_at-requires-clause-encoded
whole_at-requires-clause-encoded c = ∣ c.in-Ok.ensures.whole ∣₁

pub whole_at-requires-clause-fits : goal.whole_at-requires-clause-fits
whole_at-requires-clause-fits c = omega (arith, c.args.self.now.fits, c.body_at-base.ensures.end)

pub overflow_add-result : goal.overflow_add-result
overflow_add-result c = omega (arith, c.args.self.now.fits, c.body_at-base.ensures.end, c.in-Err.ensures.within)

pub returns-in-Ok : goal.returns-in-Ok
unfolding nested
returns-in-Ok c =
    let tlv = c.args.self.now in
    let base = c.body_at-base.result in
    ap (λ (q : Place). placed (first_fault_in q.octets) q) (sym (stands_inside tlv base c.body_at-base.ensures.place)) ∙ ap (λ (r : Result (Unit {0}) (Rule × ℕ)). placed r (record { octets = tlv.body.now; at = base })) c.in-Ok.ensures.fault ∙ ap (λ (q : Place). Ok q) (sym c.whole_at.ensures.place)

pub returns-in-Err : goal.returns-in-Err
unfolding nested
returns-in-Err c =
    let tlv = c.args.self.now in
    let base = c.body_at-base.result in
    ap (λ (q : Place). placed (first_fault_in q.octets) q) (sym (stands_inside tlv base c.body_at-base.ensures.place)) ∙ ap (λ (r : Result (Unit {0}) (Rule × ℕ)). placed r (record { octets = tlv.body.now; at = base })) c.in-Err.ensures.fault
