use Rattle.std.proofs.Common.{map}
use Rattle.cert.specs.Certificate.{seen_certificate}
use Rattle.path_search.proofs.Tails.{top_is}
use Rattle.path_search.proofs.tail.Tail.top.Goals as goal

pub returns-in-Some : goal.returns-in-Some
returns-in-Some c =
    top_is (seen_certificate c.args.self.now.target.now) (map seen_certificate c.args.self.now.bag.now) c.args.self.now.above.now
    c.in-Some.place.now _ c.in-Some.ensures.value c.at.ensures
