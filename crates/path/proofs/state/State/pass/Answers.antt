use Rattle.std.proofs.Common.{refl, ap, ◌∙◌}
use Rattle.path.specs.Keeping.{lesser}
use Rattle.path.proofs.Passing.{keeps_passed}
use Rattle.path.proofs.state.State.pass.Goals as goal

pub invariant_of-self-2 : goal.invariant_of-self-2
invariant_of-self-2 g c =
    keeps_passed c.self.view_is _ _ c.self.inside.room _ c.self.invariant c.requires.below c.requires.served c.requires.length
    _ c.certificate-certificate.ensures
    _ refl c.path_length.result c.lesser_of-self-inside.result c.path_length.ensures
    (c.lesser_of-self-inside.ensures ∙ ap (λ room. lesser room c.path_length.result) c.room_behind.ensures)
    _ c.in_ok-narrow.ensures.ok
    c.insert_forms_of.new.self c.insert_forms_of.ensures
