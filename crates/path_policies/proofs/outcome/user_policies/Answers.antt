use Rattle.std.proofs.Common.{ap, sym, ◌∙◌, ◌||◌}
use Rattle.path_policies.specs.Lists.{is_picked}
use Rattle.path_policies.specs.Sets.{has}
use Rattle.path_policies.proofs.Same.{or_false}
use Rattle.path_policies.proofs.outcome.user_policies.Goals as goal

pub returns : goal.returns
returns c policy =
    rw (sym c.is_among.ensures ∙ c.if-is_among.false)
    (c.in_ok-insert_user_policies.ensures policy
    ∙ ap (λ b. is_picked c.args.asked.now (λ one. has c.args.authority one || c.contains-all.result) policy || b) (c.new-policies.ensures policy)
    ∙ or_false (is_picked c.args.asked.now (λ one. has c.args.authority one || c.contains-all.result) policy)
    ∙ ap (λ all. is_picked c.args.asked.now (λ one. has c.args.authority one || all) policy) c.contains-all.ensures)
