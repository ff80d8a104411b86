use Rattle.path_issuers.specs.View.{seen_search}
use Rattle.relying_questions.proofs.Marking.{mark_within, next_mark}
use Rattle.relying_questions.proofs.issuers.mark_issuers.Goals as goal

pub index_mut-requires : goal.index_mut-requires
index_mut-requires c =
    mark_within (seen_search c.args.search.now) c.args.pairs.now c.loop-pair.pair-index _ c.text_of.result c.loop-pair.marks.len c.loop-pair.marks.items
    c.loop-pair-test.true c.text_of.ensures c.loop-pair.marks.ok.0 c.requires c.loop-pair.invariant

pub loop-pair-preserved : goal.loop-pair-preserved
loop-pair-preserved c =
    next_mark (seen_search c.args.search.now) c.args.pairs.now c.loop-pair.pair-index _ c.text_of.result c.loop-pair.marks.items
    c.loop-pair-test.true c.text_of.ensures c.requires c.loop-pair.invariant
