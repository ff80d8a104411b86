use Rattle.std.proofs.Common.{ℕ, subst, sym, arith}
use Rattle.asn.specs.Part.{IsPartOf}
use Rattle.capi_values.specs.Parts.{IsPart}
use Rattle.capi_values.proofs.Contents.{body_stands, no_bits, bits_stand, bits_are}
use Rattle.capi_values.proofs.part.Part.bits.Goals as goal

pub overflow_add-body_at : goal.overflow_add-body_at
overflow_add-body_at c = omega (arith, c.body_at-in-len1-up.ensures.end, c.args.value.fits, c.in-len1-up.len_at_least)

pub returns-in-empty-clause-part : goal.returns-in-empty-clause-part
returns-in-empty-clause-part c = λ text stands.
    let value = c.args.value in
    let there = subst (λ (k : ℕ). IsPartOf text k value.body.now) (sym c.body_at.ensures.place) (body_stands text value stands) in
    subst (IsPart text c.at.result) (no_bits value c.in-empty.len_below) (c.at.ensures.part text there)

pub returns-in-len1-up-clause-part : goal.returns-in-len1-up-clause-part
returns-in-len1-up-clause-part c = λ text stands.
    let value = c.args.value in
    subst (IsPart text c.at-in-len1-up.result) (bits_are value)
    (c.at-in-len1-up.ensures.part text (bits_stand text value c.body_at-in-len1-up.result c.body_at-in-len1-up.ensures.place c.in-len1-up.len_at_least stands))
