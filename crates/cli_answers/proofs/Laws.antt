-- What others may cite.
pub use Rattle.cli_answers.proofs.Fronts.{front_behind, front_of_each, front_of_more, none, whole}
