use Rattle.relying.proofs.Agreeing.{never_differ}
use Rattle.relying.proofs.comparing.compare.Goals as goal

pub returns-clause-never : goal.returns-clause-never
returns-clause-never g c clean other_clean = never_differ c.comparison_laws.ensures.never _ _ _ _ _ _ c.compare_with_files.result (c.compare_with_files.ensures.looks clean other_clean)
