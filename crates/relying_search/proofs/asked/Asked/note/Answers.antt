use Rattle.std.proofs.Common.{refl, subst, sym, true≢false}
use Rattle.path_search.specs.Answer.{seen_candidate}
use Rattle.relying_search.specs.Finding.{HasVerdict}
use Rattle.relying_search.proofs.Standing.{first_clear, found_clear, noted}
use Rattle.relying_search.proofs.asked.Asked.note.Goals as goal

pub returns-then-is_valid-clause-notes : goal.returns-then-is_valid-clause-notes
returns-then-is_valid-clause-notes c = λ accepts held s last count stands next has budget.
    found_clear accepts held s budget _ c.args.verdict (c.if-is_valid.ensures.0 refl)
    (first_clear c.search_laws.ensures.ordered c.verdict_laws.ensures.valid c.verdict_laws.ensures.one accepts held s last count c.args.self.now _ stands next
    (subst (HasVerdict accepts held s (seen_candidate c.args.path)) (c.if-is_valid.ensures.0 refl) has))

pub returns-clause-notes : goal.returns-clause-notes
returns-clause-notes c = λ accepts held s last count stands next has.
    noted c.search_laws.ensures.ordered c.verdict_laws.ensures.valid c.verdict_laws.ensures.one accepts held s last count c.args.self.now _ c.args.path c.args.verdict c.args.self.now.first refl c.keep.ensures stands next has
    (λ e. true≢false (sym (c.if-is_valid.ensures.1 e)))
