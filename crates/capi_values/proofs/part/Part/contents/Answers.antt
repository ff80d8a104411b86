use Rattle.std.proofs.Common.{ℕ, subst, sym}
use Rattle.asn.specs.Part.{IsPartOf}
use Rattle.capi_values.specs.Parts.{IsPart}
use Rattle.capi_values.proofs.Contents.{body_stands, body_is}
use Rattle.capi_values.proofs.part.Part.contents.Goals as goal

pub returns-clause-part : goal.returns-clause-part
returns-clause-part c = λ text stands.
    let value = c.args.value in
    let at : ℕ → Type 0 = λ k. IsPartOf text k value.body.now in
    subst (IsPart text c.at.result) (body_is value) (c.at.ensures.part text (subst at (sym c.body_at.ensures.place) (body_stands text value stands)))
