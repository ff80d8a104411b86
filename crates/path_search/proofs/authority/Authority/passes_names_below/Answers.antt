use Rattle.std.proofs.Common.{map}
use Rattle.cert.specs.Certificate.{seen_certificate}
use Rattle.path_search.specs.Authority.{AdmitNamesIn}
use Rattle.path_search.proofs.Tails.{hold_below, both_decide, first_decides}
use Rattle.path_search.proofs.authority.Authority.passes_names_below.Goals as goal

pub returns-then-admits_names_in : goal.returns-then-admits_names_in
returns-then-admits_names_in c =
    both_decide c.admits_names_in.result c.admits_names_above.result c.admits_names_in.ensures c.admits_names_above.ensures
    (hold_below (AdmitNamesIn c.args.check c.args.self.now) (seen_certificate c.args.tail.now.target.now)
    (map seen_certificate c.args.tail.now.bag.now) c.args.tail.now.above.now)
    c.if-admits_names_in.true

pub returns-else-admits_names_in : goal.returns-else-admits_names_in
returns-else-admits_names_in c =
    first_decides c.admits_names_in.result c.admits_names_in.ensures
    (hold_below (AdmitNamesIn c.args.check c.args.self.now) (seen_certificate c.args.tail.now.target.now)
    (map seen_certificate c.args.tail.now.bag.now) c.args.tail.now.above.now)
    c.if-admits_names_in.false
