use Rattle.std.proofs.Common.{rules}
use Rattle.names_hosts.proofs.UriTexts.{port_test}
use Rattle.names_hosts.proofs.uris.is_port.Goals as goal

pub returns-then-colon-eq58 : goal.returns-then-colon-eq58
returns-then-colon-eq58 c =
    let text = c.args.text.now in
    let digits = c.in-Some.digits.now in
    port_test text digits c.in-Some.colon.now c.has_digits.result c.in-Some.ensures.cases.0 (search rules) c.has_digits.ensures
