use Rattle.cli_store.proofs.machine.MachineStoresStoreFileFrom.open_store.Given as goal

abbrev pub decreases-tries : goal.decreases-tries
decreases-tries g l = l.left
