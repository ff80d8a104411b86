use Rattle.std.proofs.Common.{◌≡◌, true, false, ap, sym, ◌∙◌}
use Rattle.std.proofs.lemmas.Slice.Eq.{bytes_eq-Decides}
use Rattle.asn.specs.Place.{seen_tlv}
use Rattle.asn.specs.Members.{Members, left}
use Rattle.cert_points.proofs.NamesAmong.{not_first}
use Rattle.cert_points.proofs.general_names.GeneralNames.has.Goals as goal

pub loop-value-preserved : goal.loop-value-preserved
loop-value-preserved c =
    let kept = c.loop-value.invariant in
    let differs : c.in-Some.value.whole.now ≡ c.args.name.now → ⊥ = λ same. let never : true ≡ false = sym ((bytes_eq-Decides c.in-Some.value.whole.now c.args.name.now).1 same) ∙ sym c.eq.ensures ∙ c.if-eq.false in absurd cc in
    let next = not_first (left c.loop-value.members).values (left c.next.new.self).values (seen_tlv c.in-Some.value) c.args.name.now (ap (λ (m : Members). m.values) c.in-Some.ensures.step) differs in
    (λ has. kept.0 (next.1 has), λ has. next.0 (kept.1 has))
