use Rattle.relying_texts.proofs.Runs.{statements_make_a_run}
use Rattle.relying_texts.proofs.deliveries.delivery_laws.Goals as goal

pub returns : goal.returns
returns c = record { run = statements_make_a_run }
