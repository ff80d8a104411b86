use Rattle.std.proofs.Common.{inl}
use Rattle.test_program.proofs.lasting.LastingStoreStoresStoreDisks.open_or_make_store.Goals as goal

pub returns-in-Ok-clause-found : goal.returns-in-Ok-clause-found
returns-in-Ok-clause-found c = inl (tt, c.in-Ok.ensures.store)
