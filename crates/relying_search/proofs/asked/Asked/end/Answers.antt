use Rattle.std.proofs.Common.{refl, subst, sym, ap, ◌∙◌}
use Rattle.relying_search.specs.Asked.{found_first}
use Rattle.relying_search.specs.Finding.{IsFinding}
use Rattle.relying_search.proofs.Standing.{ended, was_asked}
use Rattle.relying_search.proofs.asked.Asked.end.Goals as goal

pub returns-clause-ends : goal.returns-clause-ends
returns-clause-ends c = λ accepts held s last count budget stands none.
    subst (λ finding. IsFinding accepts held s budget finding) (sym (c.found_first.ensures ∙ ap found_first c.take.ensures.value))
    (ended c.search_laws.ensures.ordered c.verdict_laws.ensures.valid c.verdict_laws.ensures.one accepts held s last count budget c.args.self.now c.args.self.now.first refl stands none)

pub returns-clause-asked : goal.returns-clause-asked
returns-clause-asked c = was_asked c.args.self.now c.found_first.result c.args.self.now.first refl (c.found_first.ensures ∙ ap found_first c.take.ensures.value)
