use Rattle.names.proofs.Ranges.{range_test_is_exact, range_inside_is_sound, shared_ranges_are_nested}
use Rattle.names.proofs.ip.range_laws.Goals as goal

pub returns : goal.returns
returns c = record { test = range_test_is_exact; sound = range_inside_is_sound; nested = shared_ranges_are_nested }
