use Rattle.std.proofs.Common.{rules, ◌≡◌, length}
use Rattle.der_stream.proofs.Fronts.{reads_once}
use Rattle.der_stream.proofs.front.read_on.Goals as goal

pub returns-clause-read : goal.returns-clause-read
returns-clause-read g c =
    let n : c.len-filled.result ≡ length c.args.octets.now.items = search rules in
    let e = c.in_ok-count.ensures in
    reads_once _ _ c.args.octets.now c.truncate.new.self c.read_more.new.octets.items c.in_ok-count.count
    (rw (← n) e.front) (rw (← n) e.read) (rw (← n) c.truncate.ensures.items)
