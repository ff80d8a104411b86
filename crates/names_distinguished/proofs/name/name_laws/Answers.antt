use Rattle.names_distinguished.proofs.Matching.{matching_is_exact, within_is_exact}
use Rattle.names_distinguished.proofs.NameLaws.{name_is_exact}
use Rattle.names_distinguished.proofs.NameValues.{name_has_layout}
use Rattle.names_distinguished.proofs.NameEntries.{compared_by_layout}
use Rattle.names_distinguished.proofs.name.name_laws.Goals as goal

pub returns : goal.returns
returns c = record { matching = matching_is_exact; within = within_is_exact; layout = name_is_exact; value = name_has_layout; compared = compared_by_layout }
