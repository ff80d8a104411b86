use Rattle.std.proofs.Common.{rules, map}
use Rattle.cert.specs.Certificate.{seen_certificate}
use Rattle.path_search.proofs.Tails.{counted}
use Rattle.path_search.proofs.tail.Tail.count_others.Goals as goal

pub returns : goal.returns
returns c =
    counted (seen_certificate c.args.self.now.target.now) (map seen_certificate c.args.self.now.bag.now) c.args.self.now.above.now
    c.count.result (search rules)
