use Rattle.std.proofs.Common.{ℕ, List, ap, map}
use Rattle.path_issuers.specs.Asking.{about_anchors, question_about}
use Rattle.path_issuers.specs.declared.asking.Sought.TheVariants.{AnchorsOf}
use Rattle.path_issuers.proofs.Joining.{joined_another}
use Rattle.path_issuers.proofs.matching.add_about_anchors.Goals as goal

pub loop-below-preserved : goal.loop-below-preserved
loop-below-preserved c =
    let ask = question_about (AnchorsOf c.loop-below.below) in
    joined_another (about_anchors c.args.naming.now) c.args.questions.now.items c.loop-below.questions.items c.add_each.new.questions.items
    (map ask c.anchors_naming-places.result.now) c.loop-below.below c.loop-below.invariant c.in_ok-add_each.ensures
    (ap (λ (places : List ℕ). map ask places) c.anchors_naming-places.ensures)
