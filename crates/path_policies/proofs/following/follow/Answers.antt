use Rattle.std.proofs.Common.{ap, ◌∙◌, ◌||◌}
use Rattle.path_policies.specs.Lists.{is_listed}
use Rattle.path_policies.specs.Seen.{seen_policy_certificate}
use Rattle.path_policies.specs.Sets.{has}
use Rattle.path_policies.specs.Steps.{states}
use Rattle.path_policies.proofs.Adding.{followed_of, first_of}
use Rattle.path_policies.proofs.following.follow.Goals as goal

pub returns-clause-valid : goal.returns-clause-valid
returns-clause-valid c policy =
    followed_of c.stated-stated.result.now (has c.args.policies.now) policy c.args.allows_any (states (seen_policy_certificate c.args.certificate.now) policy)
    (has c.insert_all.new.set policy) (is_listed c.in_ok-first.first.items policy) (has c.keep_stated.new.policies policy)
    (c.in_ok-insert_all.ensures policy ∙ ap (λ list. is_listed list policy || has c.keep_stated.new.policies policy) c.as_slice.ensures.value)
    (c.in_ok-first.ensures policy) (c.in_ok-keep_stated.ensures policy) (c.stated-stated.ensures policy)

pub returns-clause-first : goal.returns-clause-first
returns-clause-first c policy =
    first_of c.stated-stated.result.now (has c.args.policies.now) policy (states (seen_policy_certificate c.args.certificate.now) policy)
    (is_listed c.in_ok-first.first.items policy) (c.in_ok-first.ensures policy) (c.stated-stated.ensures policy)
