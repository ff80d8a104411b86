use Rattle.std.proofs.Common.{length, ap, arith}
use Rattle.names_distinguished.proofs.RunParts.{entries_short}
use Rattle.names_distinguished.proofs.rdn.Rdn.count.Goals as goal

pub overflow_add-count : goal.overflow_add-count
overflow_add-count c =
    let fits = entries_short c.args.self.now in
    let more = ap length c.in-Some.ensures in
    omega arith
