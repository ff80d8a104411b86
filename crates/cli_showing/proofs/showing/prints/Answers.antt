use Rattle.cert.specs.Certificate.{seen_certificate}
use Rattle.cli_showing.proofs.Under.{fails_under, prints_under}
use Rattle.cli_showing.proofs.showing.prints.Goals as goal

pub returns-clause-prints : goal.returns-clause-prints
returns-clause-prints g c =
    prints_under (g.S.Source.holds c.args.source.now) c.args.issuer.now c.args.kind c.args.file.now (seen_certificate c.in_ok-signer.signer)
    (c.in_ok-octets.octets.items, c.in_ok-octets.ensures.reads, rw c.as_slice.ensures.value at c.in_ok-signer.ensures.reads)
    c.args.with_parts c.prints_under.result c.prints_under.ensures.prints

pub returns-clause-fails : goal.returns-clause-fails
returns-clause-fails g c =
    fails_under (g.S.Source.holds c.args.source.now) c.args.issuer.now c.args.kind c.args.file.now (seen_certificate c.in_ok-signer.signer)
    (c.in_ok-octets.octets.items, c.in_ok-octets.ensures.reads, rw c.as_slice.ensures.value at c.in_ok-signer.ensures.reads)
    c.prints_under.result c.prints_under.ensures.fails
