use Rattle.std.proofs.Common.{arith, ◌≡◌, ◌+◌, List, ℕ, get_or, sym, ap, ◌∙◌, subst, true, refl}
use Rattle.std.proofs.Math.Logic.{∥∥₁_map}
use Rattle.der.specs.Identifier.{is_constructed}
use Rattle.der.specs.Encoding.{EncodesAllAt}
use Rattle.asn.specs.Members.{members_at}
use Rattle.asn.proofs.Views.{inside_constructed}
use Rattle.asn.proofs.Inside.{body_of, body_shorter, body_bounded, stands_inside}
use Rattle.asn.proofs.Shown.{shows_none, shows_some}
use Rattle.asn.proofs.tlv.Tlv.inside.Goals as goal

pub invariant_of-result : goal.invariant_of-result
invariant_of-result c =
    let tlv = c.args.self.now in
    let form : is_constructed (get_or tlv.whole.now 0 0) ≡ true = ap is_constructed (sym tlv.tag_is) ∙ sym c.is_constructed_form.ensures ∙ c.if-is_constructed_form.true in
    record {
      encoded = ∥∥₁_map tlv.encoded (λ b. let i = inside_constructed b.0 tlv.whole.now b.1 b.2 form in (b.0 + 1, i.0, subst (λ (x : List ℕ). EncodesAllAt (b.0 + 1) x i.0) (sym (body_of tlv)) i.2));
      fits = omega (arith, tlv.fits, c.body_at.ensures.end);
    }

pub returns-then-is_constructed_form-clause-place : goal.returns-then-is_constructed_form-clause-place
returns-then-is_constructed_form-clause-place c = stands_inside c.args.self.now c.body_at.result c.body_at.ensures.place

pub returns-then-is_constructed_form-clause-left : goal.returns-then-is_constructed_form-clause-left
returns-then-is_constructed_form-clause-left c = ap members_at (stands_inside c.args.self.now c.body_at.result c.body_at.ensures.place)

pub returns-then-is_constructed_form-clause-shows : goal.returns-then-is_constructed_form-clause-shows
returns-then-is_constructed_form-clause-shows c = λ depth value encodes. shows_some depth value c.args.self.now _ encodes (sym c.is_constructed_form.ensures ∙ c.if-is_constructed_form.true) refl

pub returns-else-is_constructed_form-clause-shows : goal.returns-else-is_constructed_form-clause-shows
returns-else-is_constructed_form-clause-shows c = λ depth value encodes. shows_none depth value c.args.self.now encodes (sym c.is_constructed_form.ensures ∙ c.if-is_constructed_form.false)

pub returns-then-is_constructed_form-clause-shorter : goal.returns-then-is_constructed_form-clause-shorter
returns-then-is_constructed_form-clause-shorter c = body_shorter c.args.self.now

pub returns-then-is_constructed_form-clause-bounded : goal.returns-then-is_constructed_form-clause-bounded
returns-then-is_constructed_form-clause-bounded c = body_bounded c.args.self.now
