use Rattle.std.proofs.Common.{subst, sym}
use Rattle.std.proofs.lemmas.Result.{IfOk-weaker}
use Rattle.path_issuers.specs.View.{seen_search}
use Rattle.relying_questions.specs.Issuers.{AreMarks, issuers_marked}
use Rattle.relying_questions.proofs.Marking.{issuers_listed, marked_are_there}
use Rattle.relying_questions.proofs.issuers.issuers_of.Goals as goal

pub returns-clause-certificates : goal.returns-clause-certificates
returns-clause-certificates c =
    let s = seen_search c.args.search.now in
    let pairs = c.args.pairs.now in
    let are = subst (AreMarks s pairs) (sym c.as_slice.ensures.value) c.in_ok-marks.ensures in
    IfOk-weaker c.marked_issuers.result _ _
    (λ issuers is. record { issuers = issuers_marked s c.as_slice.result.now; are_issuers = issuers_listed s pairs c.as_slice.result.now c.requires are; are_certificates = is })
    c.marked_issuers.ensures.certificates

pub returns-clause-places : goal.returns-clause-places
returns-clause-places c =
    let s = seen_search c.args.search.now in
    let pairs = c.args.pairs.now in
    let are = subst (AreMarks s pairs) (sym c.as_slice.ensures.value) c.in_ok-marks.ensures in
    IfOk-weaker c.marked_issuers.result _ _ (λ issuers places texts stands. places texts stands (marked_are_there s pairs c.as_slice.result.now c.requires are))
    c.marked_issuers.ensures.places
