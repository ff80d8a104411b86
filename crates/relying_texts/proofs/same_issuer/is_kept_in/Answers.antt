use Rattle.std.proofs.Common.{◌≡◌, false, rules, sym, ◌∙◌}
use Rattle.statements_facts.specs.Statement.{at_point, kept_for, same_issuer, same_scope}
use Rattle.relying_texts.specs.View.{identity_seen, points_of}
use Rattle.relying_texts.proofs.Slots.{none_in_scope}
use Rattle.relying_texts.proofs.same_issuer.is_kept_in.Goals as goal

pub returns-else-eq : goal.returns-else-eq
returns-else-eq c =
    let apart : same_scope c.args.list.now.scope c.args.scope ≡ false = search rules in
    c.if-eq.false
    ∙ sym (none_in_scope (λ issuer. same_issuer issuer (at_point c.args.point.now (identity_seen c.args.other.now))) (kept_for (points_of c.args.list.now) (identity_seen c.args.one.now)) _ apart)
