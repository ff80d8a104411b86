use Rattle.std.proofs.Common.{refl, sym, ◌∙◌}
use Rattle.std.proofs.lemmas.Bool.{false≢true}
use Rattle.path.proofs.Deciding.{asked, within_at, not_last}
use Rattle.path.proofs.state.State.is_within_path_length.Goals as goal

pub returns-else-is_last : goal.returns-else-is_last
returns-else-is_last g c =
    asked c.has_room.result (not_last _ _ c.requires (λ e. false≢true (sym c.if-is_last.false ∙ c.is_last.ensures.1 e)))
    (within_at c.self.view_is _ _ _ _ c.self.invariant _ c.certificate.ensures c.requires c.has_room.result _ refl c.has_room.ensures)
