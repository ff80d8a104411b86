use Rattle.std.proofs.Common.{[], take, arith}
use Rattle.std.proofs.lemmas.List.{length-take}
use Rattle.std.specs.Io.KnownBytes.{Consumes}
use Rattle.der_stream.proofs.Streams.{filled_more, all_read, cut_contents}
use Rattle.der_stream.proofs.reading.read_contents.Goals as goal

pub returns-in-0-clause-err : goal.returns-in-0-clause-err
returns-in-0-clause-err g c = λ limit first fits read.
    let i = c.loop-filled.invariant in
    let all = take c.loop-filled.filled c.loop-filled.octets.items in
    let none : Consumes (g.R.Read.remaining c.loop-filled.source) (g.R.Read.remaining c.read_more.new.source) [] = rw c.in-0.is at c.in_ok-count.ensures.read in
    let end = c.in_ok-count.ensures.end c.in-0.is in
    rw c.refused.ensures
    (cut_contents c.args.octets.now.items c.args.len c.requires limit _ _ all i.front (omega (arith, length-take c.loop-filled.filled c.loop-filled.octets.items)) fits
    (all_read _ _ _ _ c.args.octets.now.items all i.front read i.read none) end)

pub loop-filled-preserved : goal.loop-filled-preserved
loop-filled-preserved g c =
    let i = c.loop-filled.invariant in
    let e = c.in_ok-count.ensures in
    let more = filled_more _ _ _ c.args.octets.now.items c.loop-filled.octets.items c.read_more.new.octets.items c.loop-filled.filled c.in_ok-count.count e.front i.front i.read e.read in
    record { filled = omega (arith, e.fits); within = e.within; front = more.0; read = more.1 }
