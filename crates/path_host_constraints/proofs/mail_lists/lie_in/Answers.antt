use Rattle.std.proofs.Common.{◌∙◌, sym}
use Rattle.std.proofs.lemmas.Bool.{false≢true}
use Rattle.names_hosts.specs.Mail.{mail_names}
use Rattle.path_host_constraints.proofs.Loops.{is_one_at}
use Rattle.path_host_constraints.proofs.mail_lists.lie_in.Goals as goal

pub returns-then-not-holds : goal.returns-then-not-holds
returns-then-not-holds c = (
  λ never. absurd (false≢true never),
  λ all. absurd (false≢true (sym c.if-not-holds.true ∙ c.holds.ensures.decides.1 (all _ (is_one_at mail_names c.args.bases.now c.loop-base.base-index _ c.loop-base-test.true)))),
)
