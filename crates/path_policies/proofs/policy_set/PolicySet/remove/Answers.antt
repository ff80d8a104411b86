use Rattle.std.proofs.Common.{ap, sym, ◌∙◌, cond, false}
use Rattle.std.specs.Cmp.Lexicographic.{texts_ties}
use Rattle.std.specs.Str.{bytes_eq}
use Rattle.path_policies.specs.Sets.{has}
use Rattle.path_policies.proofs.Members.{cond_false}
use Rattle.path_policies.proofs.policy_set.PolicySet.remove.Goals as goal

pub returns : goal.returns
returns c other =
    c.remove.ensures.updates.0 (record { ref_ptr = c.args.policy.ref_ptr; now = other })
    ∙ ap (λ b. cond b false (has c.args.self.now other)) (sym (texts_ties c.args.policy.now other))
    ∙ cond_false (bytes_eq c.args.policy.now other) (has c.args.self.now other)
