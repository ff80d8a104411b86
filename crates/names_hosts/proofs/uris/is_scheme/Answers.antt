use Rattle.std.proofs.Common.{rules}
use Rattle.names_hosts.proofs.UriTexts.{scheme_test}
use Rattle.names_hosts.proofs.uris.is_scheme.Goals as goal

pub returns-then-is_ascii_alphabetic : goal.returns-then-is_ascii_alphabetic
returns-then-is_ascii_alphabetic c =
    scheme_test c.args.text.now c.in-Some.rest.now c.in-Some.first.now c.has_scheme_octets.result c.in-Some.ensures.cases.0 (search rules)
    c.has_scheme_octets.ensures
