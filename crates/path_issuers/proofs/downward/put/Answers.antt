use Rattle.std.proofs.Common.{ℕ}
use Rattle.std.specs.Global.{Vec}
use Rattle.std.proofs.lemmas.List.{map-set}
use Rattle.path_issuers.proofs.downward.put.Goals as goal

pub returns-in-Some : goal.returns-in-Some
returns-in-Some c = map-set (λ (list : Vec ℕ). list.items) c.args.lists.now.items c.args.place c.args.list
