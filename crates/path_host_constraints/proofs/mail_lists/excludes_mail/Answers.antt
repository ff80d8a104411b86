use Rattle.std.proofs.Common.{refl, sym, true≢false}
use Rattle.names_hosts.specs.Mail.{mail_text, IsAmongMail}
use Rattle.path_host_constraints.proofs.Loops.{left_out, has_here}
use Rattle.path_host_constraints.proofs.mail_lists.excludes_mail.Goals as goal

pub returns-then-covers : goal.returns-then-covers
returns-then-covers c = (
  λ t. c.loop-index.invariant.1
      (has_here IsAmongMail c.args.indexes.now c.loop-index.index-index c.index-item.result (mail_text c.args.name.now) c.loop-index-test.true c.index-item.is
      (c.if-covers.ensures.decides.0 refl)),
  λ has. refl,
)

pub loop-index-preserved : goal.loop-index-preserved
loop-index-preserved c =
    left_out IsAmongMail c.args.indexes.now c.loop-index.index-index c.index-item.result (mail_text c.args.name.now) c.loop-index-test.true c.index-item.is
    (λ has. true≢false (sym (c.if-covers.ensures.decides.1 has))) c.loop-index.invariant
