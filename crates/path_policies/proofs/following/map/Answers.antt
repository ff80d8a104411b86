use Rattle.std.proofs.Common.{ap, ◌∙◌, ◌||◌, ◌&&◌, not}
use Rattle.path_policies.specs.Query.{any_policy}
use Rattle.path_policies.specs.Lists.{is_listed, is_mapped_by, is_subject_of, is_picked_issuer}
use Rattle.path_policies.specs.Sets.{has}
use Rattle.path_policies.proofs.Adding.{inhibited_of, mapped_of, first_mapped_of}
use Rattle.path_policies.proofs.following.map.Goals as goal

pub returns-then-inhibited-clause-expected : goal.returns-then-inhibited-clause-expected
returns-then-inhibited-clause-expected c policy =
    inhibited_of c.args.certificate.now.extensions.mappings.items (has c.args.policies.now) policy c.args.inhibited (has c.remove_mapped.new.set policy)
    c.if-inhibited.true
    (c.remove_mapped.ensures policy ∙ ap (λ list. not (is_mapped_by list policy) && has c.args.policies.now policy) c.as_slice-mappings.ensures.value)

pub returns-clause-expected : goal.returns-clause-expected
returns-clause-expected c policy =
    mapped_of c.args.certificate.now.extensions.mappings.items (has c.args.policies.now) policy c.args.inhibited (has c.map_valid.new.policies policy)
    c.if-inhibited.false
    (c.in_ok-map_valid.ensures policy
    ∙ ap (λ list. is_subject_of list (λ issuer. has c.args.policies.now issuer || has c.args.policies.now any_policy) policy
    || (not (is_mapped_by list policy) && has c.args.policies.now policy)) c.as_slice-mappings.ensures.value)

pub returns-clause-first : goal.returns-clause-first
returns-clause-first c policy =
    first_mapped_of c.args.certificate.now.extensions.mappings.items (has c.args.policies.now) policy c.args.inhibited (is_listed c.in_ok-first.first.items policy)
    c.if-inhibited.false
    (c.in_ok-first.ensures policy
    ∙ ap (λ list. is_picked_issuer list (λ issuer. not (has c.args.policies.now issuer)) policy && has c.args.policies.now any_policy) c.as_slice-mappings.ensures.value)
