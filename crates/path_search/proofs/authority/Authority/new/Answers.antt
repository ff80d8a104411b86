use Rattle.path_search.proofs.Answering.{answers}
use Rattle.path_search.proofs.authority.Authority.new.Goals as goal

pub invariant_of-result : goal.invariant_of-result
invariant_of-result c = answers _ _ _ c.none-constraints.ensures c.in_ok-narrow.ensures.ok _ _ c.new-forms.ensures c.insert_forms_of.ensures
