use Rattle.std.proofs.Common.{not, ap, ◌∙◌}
use Rattle.store.proofs.Again.{reopens}
use Rattle.store.proofs.handle.Store.into_files.Goals as goal

pub returns-in-Ok-clause-reopens : goal.returns-in-Ok-clause-reopens
returns-in-Ok-clause-reopens g c = reopens c.args.self.conn c.in-Ok.files (c.is_autocommit-settled.ensures.settled (c.is_autocommit-settled.ensures.value ∙ ap not c.args.self.idle)) c.in-Ok.ensures.copied
