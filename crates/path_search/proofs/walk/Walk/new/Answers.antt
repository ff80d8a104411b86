use Rattle.std.proofs.Common.{refl}
use Rattle.path_issuers.specs.View.{seen_search}
use Rattle.path_issuers.specs.Links.{seen_links}
use Rattle.path_search.proofs.Walks.{stands_first}
use Rattle.path_search.proofs.walk.Walk.new.Goals as goal

pub returns : goal.returns
returns c = λ accepts are. record {
  search = refl;
  links = are;
  stands = stands_first accepts (seen_search c.args.search.now) (seen_links c.args.links) are c.in_ok-first_tails.field-0 c.new-queue.result
      c.in_ok-first_tails.ensures c.new-queue.ensures;
}
