use Rattle.std.proofs.Common.{sym, subst}
use Rattle.std.proofs.lemmas.Bool.{both_ways}
use Rattle.names_hosts.specs.Uri.{IsFullyQualified, IsPortPart}
use Rattle.names_hosts.proofs.UriTexts.{port_cut, some_if}
use Rattle.names_hosts.proofs.uris.before_port.Goals as goal

pub returns-then-not-is_port-clause-accepts : goal.returns-then-not-is_port-clause-accepts
returns-then-not-is_port-clause-accepts c = λ host h.
    let same = port_cut c.args.rest.now host c.cut.result.0.now c.cut.result.1.now h c.cut.ensures in
    absurd (both_ways _ c.if-not-is_port.true (c.is_port.ensures.1 (subst IsPortPart (sym same.1) h.is_port)))

pub returns-clause-accepts : goal.returns-clause-accepts
returns-clause-accepts c = λ host h.
    let same = port_cut c.args.rest.now host c.cut.result.0.now c.cut.result.1.now h c.cut.ensures in
    rw (c.then_some.ensures) (some_if c.is_fully_qualified.result c.cut.result.0 host
    (c.is_fully_qualified.ensures.1 (subst IsFullyQualified (sym same.0) h.is_host)) same.0)
