use Rattle.std.proofs.Common.{rules}
use Rattle.names.proofs.DnsNames.{below_dot}
use Rattle.names.proofs.dns.Domain.of_base.Goals as goal

pub returns-in-Some-eq46-default-clause-accepts : goal.returns-in-Some-eq46-default-clause-accepts
returns-in-Some-eq46-default-clause-accepts c = λ domain h.
    let name = c.in-Some-eq46-default in
    let is_name = c.is_dns_name.ensures.decides.1 (below_dot c.args.base.now name.name.now name.field-0-0.now name.ensures.cases.0 name.field-0-0-test domain h) in
    search rules
