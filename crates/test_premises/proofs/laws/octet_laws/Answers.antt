use Rattle.test_premises.proofs.Premises.{all_premises_hold}
use Rattle.test_premises.proofs.laws.octet_laws.Goals as goal

pub returns : goal.returns
returns c = record { all_hold = all_premises_hold }
