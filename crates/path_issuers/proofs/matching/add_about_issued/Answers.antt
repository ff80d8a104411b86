use Rattle.std.proofs.Common.{ℕ, List, ap, map}
use Rattle.path_issuers.specs.Asking.{about_issued, question_about}
use Rattle.path_issuers.specs.declared.asking.Sought.TheVariants.{IssuedBy}
use Rattle.path_issuers.proofs.Joining.{joined_another}
use Rattle.path_issuers.proofs.matching.add_about_issued.Goals as goal

pub loop-place-preserved : goal.loop-place-preserved
loop-place-preserved c =
    let ask = question_about (IssuedBy c.loop-place.place) in
    joined_another (about_issued c.args.naming.now) c.args.questions.now.items c.loop-place.questions.items c.add_each.new.questions.items
    (map ask c.named_by-places.result.now) c.loop-place.place c.loop-place.invariant c.in_ok-add_each.ensures
    (ap (λ (places : List ℕ). map ask places) c.named_by-places.ensures)
