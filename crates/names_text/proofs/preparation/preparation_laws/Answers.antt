use Rattle.names_text.proofs.PreparationLaws.{idempotent, case_is_ignored, end_spaces_are_dropped, space_runs_are_one_space, inner_spaces_stay, words_stay}
use Rattle.names_text.proofs.preparation.preparation_laws.Goals as goal

pub returns : goal.returns
returns c = record { idempotent = idempotent; case = case_is_ignored; ends = end_spaces_are_dropped; runs = space_runs_are_one_space; inner = inner_spaces_stay; words = words_stay }
