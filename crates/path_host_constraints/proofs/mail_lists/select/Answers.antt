use Rattle.std.proofs.Common.{arith}
use Rattle.names_hosts.specs.Mail.{mail_names, IsAmongMail, IsMailInside}
use Rattle.path_host_constraints.proofs.Loops.{selects_more_at}
use Rattle.path_host_constraints.proofs.MailBases.{mail_nests}
use Rattle.path_host_constraints.proofs.mail_lists.select.Goals as goal

pub loop-base-preserved : goal.loop-base-preserved
loop-base-preserved c = record {
  selects =
      selects_more_at mail_names c.args.list.now c.loop-base.base-index _ c.loop-base-test.true
      IsAmongMail IsMailInside (mail_nests c.mail_laws.ensures.inside c.mail_laws.ensures.nested) c.args.within.now c.args.except.now _ _ c.in_ok-take_if.ensures.takes c.loop-base.invariant.selects;
  fewer = let more = c.take_if.ensures.fewer in let before = c.loop-base.invariant.fewer in omega arith;
}
