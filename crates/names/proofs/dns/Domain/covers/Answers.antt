use Rattle.std.proofs.Common.{◌∙◌, sym, ap}
use Rattle.names.specs.Dns.{is_in_domain}
use Rattle.names.proofs.DomainLaws.{decided}
use Rattle.names.proofs.dns.Domain.covers.Goals as goal

pub returns-in-Within-clause-decides : goal.returns-in-Within-clause-decides
unfolding is_in_domain
returns-in-Within-clause-decides c = decided c.args.name.now c.args.self.now c.ends_in.result (c.ends_in.ensures ∙ sym (ap (is_in_domain c.args.name.now) c.in-Within.is))

pub returns-in-Below-clause-decides : goal.returns-in-Below-clause-decides
unfolding is_in_domain
returns-in-Below-clause-decides c = decided c.args.name.now c.args.self.now c.ends_in_more.result (c.ends_in_more.ensures ∙ sym (ap (is_in_domain c.args.name.now) c.in-Below.is))
