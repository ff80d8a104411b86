use Rattle.std.proofs.Common.{◌∙◌, ap, arith}
use Rattle.sqlite.specs.Files.{file_state}
use Rattle.relying.proofs.Progress.{one_further, answered_further, stops_at, all_done, all_answered, all_survive, leaves_further}
use Rattle.relying.proofs.running.run_all.Goals as goal

pub returns-in-Err-clause-stops : goal.returns-in-Err-clause-stops
returns-in-Err-clause-stops g c =
    let l = c.loop-index.invariant in
    stops_at _ _ c.args.events.now c.loop-index.index _ c.loop-index.answers.items c.take_event.new.answers.items c.args.node.store.conn c.loop-index.node.store.conn c.in-Err.fault
    c.loop-index-test.true l.5 l.6 l.7 c.in-Err.ensures.same c.in-Err.ensures.restarts c.take_event.ensures.settled c.in-Err.ensures.fails c.in-Err.ensures.cause

pub loop-index-preserved : goal.loop-index-preserved
loop-index-preserved g c =
    let l = c.loop-index.invariant in (
      c.in-Ok.ensures.verifier ∙ l.0,
      c.in-Ok.ensures.profile ∙ l.1,
      omega (arith, l.2, c.take_event.ensures.len),
      omega (arith, l.3, c.take_event.ensures.capacity),
      λ clean. l.4 (c.in-Ok.ensures.clean clean),
      λ clean. one_further c.args.node.store.profile (g.V.Verifier.accepts c.args.node.verifier) c.args.events.now c.loop-index.index _ c.loop-index.answers.items c.take_event.new.answers.items _ _ _ c.loop-index.node.store.profile (g.V.Verifier.accepts c.loop-index.node.verifier)
          c.loop-index-test.true (l.5 (c.in-Ok.ensures.clean clean)) l.1 (ap g.V.Verifier.accepts l.0) (c.in-Ok.ensures.happens clean),
      λ clean. leaves_further c.args.node.store.profile (g.V.Verifier.accepts c.args.node.verifier) c.args.events.now c.loop-index.index _ c.loop-index.answers.items c.take_event.new.answers.items _ _ _ c.loop-index.node.store.profile (g.V.Verifier.accepts c.loop-index.node.verifier)
          c.loop-index-test.true l.7 (l.5 (c.in-Ok.ensures.clean clean)) (l.6 (c.in-Ok.ensures.clean clean)) l.1 (ap g.V.Verifier.accepts l.0) (c.in-Ok.ensures.happens clean),
      answered_further c.args.node.store.profile (g.V.Verifier.accepts c.args.node.verifier) c.args.events.now c.loop-index.index _ c.loop-index.answers.items c.take_event.new.answers.items c.loop-index.node.store.profile (g.V.Verifier.accepts c.loop-index.node.verifier)
          c.loop-index-test.true l.7 l.1 (ap g.V.Verifier.accepts l.0) c.in-Ok.ensures.added,
    )

pub returns-clause-ran : goal.returns-clause-ran
returns-clause-ran g c clean = all_done _ _ c.args.events.now c.loop-index.index c.loop-index.answers.items _ _ (omega arith) (c.loop-index.invariant.5 clean)

pub returns-clause-survives : goal.returns-clause-survives
returns-clause-survives g c =
    all_survive _ _ c.args.events.now c.loop-index.index c.loop-index.answers.items (file_state c.args.node.store.conn) (file_state c.loop-index.node.store.conn) (omega arith) c.loop-index.invariant.6

pub returns-clause-answers : goal.returns-clause-answers
returns-clause-answers g c = all_answered _ _ c.args.events.now c.loop-index.index c.loop-index.answers.items (omega arith) c.loop-index.invariant.7
