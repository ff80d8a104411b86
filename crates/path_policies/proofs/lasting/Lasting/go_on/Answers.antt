use Rattle.std.proofs.Common.{ap, false, ◌∙◌, ◌||◌, if◌then◌else◌}
use Rattle.path_policies.specs.Lists.{is_listed, is_mapped_by, is_issuer_of}
use Rattle.path_policies.specs.Sets.{lasts}
use Rattle.path_policies.proofs.Going.{inhibited_goes, mapped_goes}
use Rattle.path_policies.proofs.lasting.Lasting.go_on.Goals as goal

pub returns-then-inhibited : goal.returns-then-inhibited
returns-then-inhibited c policy =
    inhibited_goes c.args.certificate.now.extensions.mappings.items (lasts c.args.self.now) policy c.args.inhibited (lasts c.end_mapped.new.self policy) c.if-inhibited.true
    (c.in_ok-end_mapped.ensures policy ∙ ap (λ list. if is_mapped_by list policy then false else lasts c.args.self.now policy) c.as_slice-mappings.ensures.value)

pub returns : goal.returns
returns c policy =
    mapped_goes c.args.certificate.now.extensions.mappings.items (lasts c.args.self.now) policy c.args.inhibited (lasts c.extend.new.self policy) (is_listed c.in_ok-issuers.issuers.items policy)
    c.if-inhibited.false
    (c.in_ok-extend.ensures policy
    ∙ ap (λ list. is_listed list policy || lasts c.end_mapped-2.new.self policy) c.as_slice.ensures.value
    ∙ ap (λ b. is_listed c.in_ok-issuers.issuers.items policy || b)
    (c.in_ok-end_mapped-2.ensures policy ∙ ap (λ list. if is_mapped_by list policy then false else lasts c.args.self.now policy) c.as_slice-mappings.ensures.value))
    (c.in_ok-issuers.ensures policy ∙ ap (λ list. is_issuer_of list (lasts c.args.self.now) policy) c.as_slice-mappings.ensures.value)
