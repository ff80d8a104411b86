use Rattle.std.proofs.Common.{map}
use Rattle.cert.specs.Certificate.{seen_certificate}
use Rattle.path_search.proofs.Tails.{lacks_below, lacks_not}
use Rattle.path_search.proofs.tail.Tail.lacks.Goals as goal

pub returns-then-ne : goal.returns-then-ne
returns-then-ne c =
    lacks_below (seen_certificate c.args.self.now.target.now) c.args.octets.now (map seen_certificate c.args.self.now.bag.now) c.args.self.now.above.now
    c.has_above.result c.has_above.ensures c.ne.result c.ne.ensures c.if-ne.true

pub returns-else-ne : goal.returns-else-ne
returns-else-ne c =
    lacks_not (seen_certificate c.args.self.now.target.now) c.args.octets.now (map seen_certificate c.args.self.now.bag.now) c.args.self.now.above.now
    c.ne.result c.ne.ensures c.if-ne.false
