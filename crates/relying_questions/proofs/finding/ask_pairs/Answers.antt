use Rattle.std.proofs.Common.{◌+◌, ◌++◌, drop, get_or, map, ap₂, ◌∙◌}
use Rattle.std.proofs.lemmas.List.Elements.{Contains-get_or}
use Rattle.path_issuers.specs.View.{seen_search}
use Rattle.path_issuers.specs.declared.question.Issuer.TheVariants.{Anchor}
use Rattle.path_issuers.specs.declared.question.SearchQuestion.{SearchQuestion}
use Rattle.relying_questions.specs.FindingQuestions.{asked_of_pair}
use Rattle.relying_questions.specs.Issuers.{IssuersAreThere}
use Rattle.relying_questions.specs.Places.{SearchStands}
use Rattle.relying_questions.specs.Questions.{of_certificate}
use Rattle.relying_questions.specs.Seen.{seen_all, seen_question}
use Rattle.relying_questions.proofs.Adding.{map_push, next_left, one_mapped}
use Rattle.relying_questions.proofs.Kept.{kept_one}
use Rattle.relying_questions.proofs.finding.ask_pairs.Goals as goal

pub loop-pair-preserved : goal.loop-pair-preserved
loop-pair-preserved c =
    let s = seen_search c.args.search.now in
    let pairs = c.args.pairs.now in
    let i = c.loop-pair.pair-index in
    let d : SearchQuestion = record { issuer = Anchor 0; certificate = 0 } in
    let pair = get_or pairs i d in
    let old = c.args.asked.now.items in
    let sofar = c.loop-pair.asked.items in
    let new = c.push.new.self.items in
    let asked = c.of_certificate.result in
    let items = c.in_ok-push.ensures.items in
    let is = c.of_certificate.ensures.question ∙ ap₂ of_certificate c.issuer_at-issuer.ensures.certificate c.certificate_at-certificate.ensures.certificate in (
      one_mapped (asked_of_pair s) (seen_all sofar) (seen_all new) pair (drop i pairs) (drop (i + 1) pairs) (seen_all old ++ map (asked_of_pair s) pairs)
          (next_left pairs i d c.loop-pair-test.true) (map_push seen_question sofar new asked (asked_of_pair s pair) items is) c.loop-pair.invariant.0,
      kept_one (λ texts. SearchStands texts s × IssuersAreThere s pairs) old sofar new asked c.loop-pair.invariant.1 items
          (λ texts holds. c.of_certificate.ensures.places texts
          (c.issuer_at-issuer.ensures.places texts holds.0 (holds.1 pair (Contains-get_or pairs i d c.loop-pair-test.true)))
          (c.certificate_at-certificate.ensures.places texts holds.0)),
    )
