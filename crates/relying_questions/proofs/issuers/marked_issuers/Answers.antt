use Rattle.std.proofs.Common.{◌≡◌, ◌+◌, ◌++◌, ap, drop, subst, sym, ◌∙◌}
use Rattle.path_issuers.specs.Questions.{IsThere, issuer_at}
use Rattle.path_issuers.specs.View.{seen_search}
use Rattle.relying_questions.specs.Issuers.{issuer_in}
use Rattle.relying_questions.specs.Places.{ArePlaced, IsPlaced, placed_certificate, placed_certificates}
use Rattle.relying_questions.proofs.Adding.{map_push}
use Rattle.relying_questions.proofs.Kept.{pushed}
use Rattle.relying_questions.proofs.Marking.{listed_from, mark_left, none_listed, one_listed}
use Rattle.relying_questions.proofs.issuers.marked_issuers.Goals.{then-marked+in_ok-push, else-marked}
use Rattle.relying_questions.proofs.issuers.marked_issuers.Goals as goal

pub loop-number-preserved : goal.loop-number-preserved
loop-number-preserved c =
    let s = seen_search c.args.search.now in
    let marks = c.args.marks.now in
    let n = c.loop-number.number in
    let sofar = c.loop-number.issuers.items in
    elim c.if-marked.branch [
      | then-marked+in_ok-push w ↦
          let new_is = ap (λ issuers. issuers.items) w.issuers-is ∙ w.in_ok-push.ensures.items in
          let is = w.issuer_at.ensures.certificate ∙ ap (issuer_at s) w.issuer_in.ensures in (
            one_listed s (placed_certificates sofar) (placed_certificates c.if-marked.issuers.items) (listed_from s 0 marks) n (drop n marks) (drop (n + 1) marks)
                (mark_left marks n _ c.loop-number-test.true w.if-marked.true)
                (map_push placed_certificate sofar c.if-marked.issuers.items w.issuer_at.result (issuer_at s (issuer_in s n)) new_is is) c.loop-number.invariant.0,
            λ texts stands there. subst (ArePlaced texts) (sym new_is)
                (pushed (IsPlaced texts) sofar w.issuer_at.result (c.loop-number.invariant.1 texts stands there)
                (w.issuer_at.ensures.places texts stands (subst (IsThere s) (sym w.issuer_in.ensures) (there n w.if-marked.true)))),
          )
      | else-marked w ↦
          let same = ap (λ issuers. issuers.items) (sym w.issuers-is) in (
            subst (λ items. placed_certificates items ++ listed_from s (n + 1) (drop (n + 1) marks) ≡ listed_from s 0 marks) same
                (none_listed s (placed_certificates sofar) (listed_from s 0 marks) n (drop n marks) (drop (n + 1) marks)
                (mark_left marks n _ c.loop-number-test.true w.if-marked.false) c.loop-number.invariant.0),
            λ texts stands there. subst (ArePlaced texts) same (c.loop-number.invariant.1 texts stands there),
          )
    ]
