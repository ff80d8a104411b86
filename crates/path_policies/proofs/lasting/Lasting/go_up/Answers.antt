use Rattle.std.proofs.Common.{ap, not, false, ◌∙◌, ◌||◌}
use Rattle.path_policies.specs.Lists.{same, is_listed}
use Rattle.path_policies.specs.Seen.{seen_policy_certificate}
use Rattle.path_policies.specs.Sets.{has, lasts}
use Rattle.path_policies.specs.Steps.{states}
use Rattle.path_policies.proofs.Going.{named_goes}
use Rattle.path_policies.proofs.lasting.Lasting.go_up.Goals as goal

pub returns : goal.returns
returns c policy =
    named_goes c.stated.result.now (has c.args.self.now.exceptions) c.args.self.now.others policy c.args.allows_any (states (seen_policy_certificate c.args.certificate.now) policy)
    (lasts c.extend.new.self policy) (is_listed c.in_ok-named.named.items policy) (has c.new.result policy)
    c.if-allows_any.false (c.stated.ensures policy)
    (c.in_ok-extend.ensures policy ∙ ap (λ list. is_listed list policy || not (same (has c.new.result policy) false)) c.as_slice.ensures.value)
    (c.new.ensures policy) (c.in_ok-named.ensures policy)
