use Rattle.der_stream.proofs.Fronts.{reads_on}
use Rattle.der_stream.proofs.front.fill.Goals as goal

pub loop-source-preserved : goal.loop-source-preserved
loop-source-preserved g c =
    let i = c.loop-source.invariant in
    let e = c.in_ok-read_on.ensures in
    record {
      read = reads_on _ _ _ c.args.octets.now c.loop-source.octets c.read_on.new.octets i.read e.read;
      within = λ _. e.within;
    }
