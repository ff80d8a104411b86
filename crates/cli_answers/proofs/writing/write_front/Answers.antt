use Rattle.cli_answers.proofs.Fronts.{more_of_rest, more_within, no_more}
use Rattle.cli_answers.proofs.writing.write_front.Goals.{in-Ok, in-Err+else-ne}
use Rattle.cli_answers.proofs.writing.write_front.Goals as goal

pub loop-preserved : goal.loop-preserved
loop-preserved g c = elim c.match-write.branch [
  | in-Ok w ↦ record {
    within = more_within c.args.text.now c.loop.done w.in-Ok.n c.match-write.done w.done-is c.loop.invariant.within w.in-Ok.ensures.bound;
    taken = more_of_rest (g.W.Write.contents c.args.writer.now) (g.W.Write.contents c.loop.writer) (g.W.Write.contents c.write.new.self)
        c.args.text.now c.loop.done w.in-Ok.n c.match-write.done w.done-is c.loop.invariant.taken w.in-Ok.ensures.bytes;
  }
  | in-Err+else-ne w ↦ record {
    within = rw w.done-is c.loop.invariant.within;
    taken = no_more (g.W.Write.contents c.args.writer.now) (g.W.Write.contents c.loop.writer) (g.W.Write.contents c.write.new.self)
        c.args.text.now c.loop.done c.match-write.done w.done-is c.loop.invariant.taken w.in-Err.ensures.bytes;
  }
]
