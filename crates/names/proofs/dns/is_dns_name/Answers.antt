use Rattle.std.proofs.Common.{arith}
use Rattle.names.proofs.DnsNames.{by_labels}
use Rattle.names.proofs.dns.is_dns_name.Goals as goal

pub returns-then-name-le-MAX_NAME_LEN-clause-decides : goal.returns-then-name-le-MAX_NAME_LEN-clause-decides
returns-then-name-le-MAX_NAME_LEN-clause-decides c = by_labels c.args.name.now c.has_labels.result (omega arith) c.has_labels.ensures
