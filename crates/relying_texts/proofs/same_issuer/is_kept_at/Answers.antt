use Rattle.std.proofs.Common.{◌&&◌, sym, ap, ◌∙◌}
use Rattle.names.specs.NameKey.{name_key}
use Rattle.relying_texts.specs.View.{identity_seen, is_published_at, points_of}
use Rattle.relying_texts.proofs.SameIssuers.{kept_at}
use Rattle.relying_texts.proofs.same_issuer.is_kept_at.Goals as goal

pub returns-then-is_same_issuer : goal.returns-then-is_same_issuer
returns-then-is_same_issuer c =
    let names = points_of c.args.list.now in
    let point = c.args.point.now in
    c.is_published_at.ensures
    ∙ sym (ap (λ b. b && is_published_at names point) (sym c.is_same_issuer.ensures ∙ c.if-is_same_issuer.true))
    ∙ kept_at (identity_seen c.args.one.now) (identity_seen c.args.other.now) (λ behind after e. let ends = c.key_laws.ensures.ends c.args.one.now.subject c.args.other.now.subject behind after e in (ap name_key ends.0, ends.1)) names point

pub returns-else-is_same_issuer : goal.returns-else-is_same_issuer
returns-else-is_same_issuer c =
    let names = points_of c.args.list.now in
    let point = c.args.point.now in
    c.if-is_same_issuer.false
    ∙ sym (ap (λ b. b && is_published_at names point) (sym c.is_same_issuer.ensures ∙ c.if-is_same_issuer.false))
    ∙ kept_at (identity_seen c.args.one.now) (identity_seen c.args.other.now) (λ behind after e. let ends = c.key_laws.ensures.ends c.args.one.now.subject c.args.other.now.subject behind after e in (ap name_key ends.0, ends.1)) names point
