use Rattle.std.proofs.Common.{◌∙◌, ◌∷◌, [], ap, inl, map, refl, sym}
use Rattle.std.proofs.lemmas.Result.{err_from_is_err_and}
use Rattle.cli_answers.specs.SearchText.{search_status}
use Rattle.cli_answers.specs.Status.{verdict_status}
use Rattle.cli_showing.specs.Shown.{ArePrintsUnder, IsShownText, IsTreeText}
use Rattle.cli_steps.specs.Found.{found_text}
use Rattle.cli_steps.specs.SearchPrints.{AreSearchPrints, IsFailureOfSearchPrints}
use Rattle.cli.proofs.Ending.{text_unwritten, text_written}
use Rattle.cli.proofs.execution.answer.Goals.{in-Tree+in_ok-write_answer-in-Tree, in-Show+in_ok-write_answer-in-Show, in-Prints+in_ok-write_answer-in-Prints, in-SearchPrints+in_ok-write_answer-in-SearchPrints, in-Deliver+in_ok-deliver-in-Deliver}
use Rattle.cli.proofs.execution.answer.Goals as goal

pub returns-in_err-deliver-in-Deliver-clause-fails : goal.returns-in_err-deliver-in-Deliver-clause-fails
returns-in_err-deliver-in-Deliver-clause-fails g c =
    let p = err_from_is_err_and c.from_residual-in_err-deliver-in-Deliver.result c.from_residual-in_err-deliver-in-Deliver.ensures.1 in
    rw (p.1, p.2, c.in-Deliver.is) c.in_err-deliver-in-Deliver.ensures.fails

pub returns-in_err-check-in-Check-clause-fails : goal.returns-in_err-check-in-Check-clause-fails
returns-in_err-check-in-Check-clause-fails g c =
    let p = err_from_is_err_and c.from_residual-in_err-check-in-Check.result c.from_residual-in_err-check-in-Check.ensures.1 in
    rw (p.1, p.2, c.in-Check.is) c.in_err-check-in-Check.ensures.fails

pub returns-in_err-compare-in-Compare-clause-fails :
    goal.returns-in_err-compare-in-Compare-clause-fails
returns-in_err-compare-in-Compare-clause-fails g c =
    let p = err_from_is_err_and c.from_residual-in_err-compare-in-Compare.result c.from_residual-in_err-compare-in-Compare.ensures.1 in
    rw (p.1, p.2, c.in-Compare.is) c.in_err-compare-in-Compare.ensures.fails

pub returns-in-Err-explain-clause-fails : goal.returns-in-Err-explain-clause-fails
returns-in-Err-explain-clause-fails g c = rw c.in-Explain.is (rw c.as_slice-in-Explain.ensures.value at c.in-Err-explain.ensures.fails)

pub returns-in-Err-clause-fails : goal.returns-in-Err-clause-fails
returns-in-Err-clause-fails g c = rw c.in-List.is c.in-Err.ensures.fails

pub returns-in-Err-session-clause-fails : goal.returns-in-Err-session-clause-fails
returns-in-Err-session-clause-fails g c = rw c.in-Session.is (inl c.in-Err-session.ensures.fails)

pub returns-in_err-write_answer-in-SearchPrints-clause-fails :
    goal.returns-in_err-write_answer-in-SearchPrints-clause-fails
returns-in_err-write_answer-in-SearchPrints-clause-fails g c =
    let p = err_from_is_err_and c.from_residual-in_err-write_answer-in-SearchPrints.result c.from_residual-in_err-write_answer-in-SearchPrints.ensures.1 in
    let holds = g.S.Source.holds c.args.source.now in
    let issuers = c.in-SearchPrints.issuers.now ∷ [] in
    let among = map (λ w. w.now) c.in-SearchPrints.among.items in
    rw (p.1, p.2, c.in-SearchPrints.is)
    (text_unwritten (AreSearchPrints holds issuers among c.in-SearchPrints.with_parts c.in-SearchPrints.file.now) (IsFailureOfSearchPrints holds issuers among c.in-SearchPrints.file.now)
    c.search_prints-text.result (g.O.Write.contents c.args.out.now) (g.O.Write.contents c.write_answer-in-SearchPrints.new.out) _
    (rw c.as_slice.ensures.value at c.search_prints-text.ensures.prints) (rw c.as_slice.ensures.value at c.search_prints-text.ensures.fails)
    c.in_err-write_answer-in-SearchPrints.ensures.fails)

pub returns-in_err-find-in-Find-clause-fails : goal.returns-in_err-find-in-Find-clause-fails
returns-in_err-find-in-Find-clause-fails g c =
    let p = err_from_is_err_and c.from_residual-in_err-find-in-Find.result c.from_residual-in_err-find-in-Find.ensures.1 in
    rw (p.1, p.2, c.in-Find.is) c.in_err-find-in-Find.ensures.fails

pub returns-in-Find-clause-done : goal.returns-in-Find-clause-done
returns-in-Find-clause-done g c =
    let (answer, same, is, written) = c.in_ok-find-in-Find.ensures.found in
    rw c.in-Find.is (found_text answer, (answer, is, c.search_status.ensures ∙ ap search_status (sym same), refl), written)

pub returns-in_err-checked-in-CheckWithPolicies-clause-fails : goal.returns-in_err-checked-in-CheckWithPolicies-clause-fails
returns-in_err-checked-in-CheckWithPolicies-clause-fails g c =
    let p = err_from_is_err_and c.from_residual-in_err-checked-in-CheckWithPolicies.result c.from_residual-in_err-checked-in-CheckWithPolicies.ensures.1 in
    rw (p.1, p.2, c.in-CheckWithPolicies.is) c.in_err-checked-in-CheckWithPolicies.ensures.fails

pub returns-in-CheckWithPolicies-clause-done : goal.returns-in-CheckWithPolicies-clause-done
returns-in-CheckWithPolicies-clause-done g c =
    let (told, same, is, written) = c.in_ok-checked-in-CheckWithPolicies.ensures.checked in
    rw c.in-CheckWithPolicies.is (told.lines.items, (told, is, c.verdict_status-in-CheckWithPolicies.ensures ∙ ap verdict_status (sym same), refl), written)

-- the text was made, and written
pub returns-clause-done : goal.returns-clause-done
returns-clause-done g c =
    let holds = g.S.Source.holds c.args.source.now in
    let old = g.O.Write.contents c.args.out.now in
    elim c.match-line.branch [
      | in-Tree+in_ok-write_answer-in-Tree w ↦
          let (text, is, written) = text_written (IsTreeText holds w.in-Tree.file.now) w.tree.result old _ w.tree.ensures.shows w.in_ok-write_answer-in-Tree.ensures.done in
          rw (w.out-is, w.in-Tree.is) (text, (refl, is), written)
      | in-Show+in_ok-write_answer-in-Show w ↦
          let (text, is, written) = text_written (IsShownText holds w.in-Show.kind w.in-Show.with_details w.in-Show.file.now) w.show.result old _ w.show.ensures.shows w.in_ok-write_answer-in-Show.ensures.done in
          rw (w.out-is, w.in-Show.is) (text, (refl, is), written)
      | in-Prints+in_ok-write_answer-in-Prints w ↦
          let (text, is, written) = text_written (ArePrintsUnder holds w.in-Prints.issuer.now w.in-Prints.kind w.in-Prints.with_parts w.in-Prints.file.now) w.prints.result old _ w.prints.ensures.prints w.in_ok-write_answer-in-Prints.ensures.done in
          rw (w.out-is, w.in-Prints.is) (text, (refl, is), written)
      | in-SearchPrints+in_ok-write_answer-in-SearchPrints w ↦
          let (text, is, written) = text_written (AreSearchPrints holds (w.in-SearchPrints.issuers.now ∷ []) (map (λ f. f.now) w.in-SearchPrints.among.items) w.in-SearchPrints.with_parts w.in-SearchPrints.file.now) w.search_prints-text.result old _
          (rw w.as_slice.ensures.value at w.search_prints-text.ensures.prints) w.in_ok-write_answer-in-SearchPrints.ensures.done in
          rw (w.out-is, w.in-SearchPrints.is) (text, (refl, is), written)
      | in-Deliver+in_ok-deliver-in-Deliver w ↦
          rw (w.out-is, w.in-Deliver.is) (_, (refl, (w.in_ok-deliver-in-Deliver.field-0, w.in_ok-deliver-in-Deliver.ensures.delivered, refl)), w.in_ok-deliver-in-Deliver.ensures.written)
    ]
