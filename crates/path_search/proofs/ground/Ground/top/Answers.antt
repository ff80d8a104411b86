use Rattle.std.proofs.Common.{length}
use Rattle.path_search.proofs.Walking.{top_last}
use Rattle.path_search.proofs.ground.Ground.top.Goals as goal

pub returns-in-Some : goal.returns-in-Some
returns-in-Some c = top_last (length c.args.self.now.search.now.bag.now) c.args.above.now c.in-Some.place.now c.in-Some.ensures.value
