use Rattle.test_program.proofs.Runs.{checks, compares, delivers, delivers_then_checks}
use Rattle.test_program.proofs.laws.shelf_laws.Goals as goal

pub returns : goal.returns
returns c = record { checks = checks; compares = compares; delivers = delivers; follows = delivers_then_checks }
