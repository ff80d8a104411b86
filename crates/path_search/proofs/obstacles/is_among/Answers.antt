use Rattle.std.proofs.Common.{eqb}
use Rattle.std.proofs.lemmas.List.Elements.{Decides-contains, contains_decides}
use Rattle.path_search.proofs.Explaining.{eqb_decides}
use Rattle.path_search.proofs.obstacles.is_among.Goals as goal

pub returns : goal.returns
returns c =
    Decides-contains c.args.places.now c.args.place c.contains.result
    (contains_decides eqb eqb_decides c.args.places.now c.args.place c.contains.result c.contains.ensures.cases)
