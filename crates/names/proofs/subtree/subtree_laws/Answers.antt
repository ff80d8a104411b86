use Rattle.names.proofs.Subtrees.{subtree_test_is_exact, inside_is_sound, shared_is_nested, form_is_kept, form_is_processed, form_test_is_exact}
use Rattle.names.proofs.subtree.subtree_laws.Goals as goal

pub returns : goal.returns
returns c = record { test = subtree_test_is_exact; sound = inside_is_sound; nested = shared_is_nested; form = form_is_kept; processed = form_is_processed; has_form = form_test_is_exact }
