use Rattle.std.proofs.Common.{◌<◌, ◌∙◌, arith, length, map}
use Rattle.std.proofs.lemmas.List.{length-map}
use Rattle.capi_values.specs.Questions.{question_of}
use Rattle.capi_values.proofs.Asking.{get_map, one_written}
use Rattle.capi_values.proofs.questions.write.Goals as goal

pub loop-index-preserved : goal.loop-index-preserved
loop-index-preserved c =
    let asked = c.args.asked.now in
    let old = c.args.questions.now in
    let new = c.loop-index.questions in
    let i = c.loop-index.index in
    let below : i < length asked = omega (arith, c.loop-index-test.true, c.min-fitting.ensures) in
    let room : i < length new = omega (arith, c.loop-index-test.true, c.min-fitting.ensures, c.loop-index.invariant.long) in
    let within : i < length (map question_of asked) = omega (arith, below, length-map asked question_of) in
    one_written i (map question_of asked) old new c.of.result c.loop-index.invariant within room
    (c.of.ensures ∙ get_map question_of asked i _ c.of.result below)
