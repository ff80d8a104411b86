use Rattle.std.proofs.Common.{◌≡◌, ◌∙◌, sym, ap, subst, not}
use Rattle.std.proofs.lemmas.Bool.{false≢true}
use Rattle.names_identity.specs.Host.{IsHost, without_final_dot}
use Rattle.names_hosts.proofs.HostTexts.{no_dot_last, no_dot_dropped}
use Rattle.names_hosts.proofs.hosts.is_host.Goals as goal

pub returns-then-not-ends_in_dot : goal.returns-then-not-ends_in_dot
returns-then-not-ends_in_dot c =
    let text = c.args.text.now in
    let same : without_final_dot text ≡ text =
    no_dot_dropped text (sym c.ends_in_dot.ensures ∙ c.if-not-ends_in_dot.true) in (
      λ t. subst IsHost same (c.host.ensures.accepts.1 (sym c.is_ok.ensures.value ∙ t)),
      λ h. c.is_ok.ensures.value ∙ c.host.ensures.accepts.0 (subst IsHost (sym same) h),
    )

pub returns-else-not-ends_in_dot : goal.returns-else-not-ends_in_dot
returns-else-not-ends_in_dot c = (
  λ t. absurd (false≢true (sym (ap not c.if-not-ends_in_dot.false) ∙ t)),
  λ h. absurd (no_dot_last c.args.text.now (sym c.ends_in_dot.ensures ∙ c.if-not-ends_in_dot.false) h),
)
