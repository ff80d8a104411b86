use Rattle.std.proofs.Common.{rules}
use Rattle.names_text.proofs.PreparedText.{first_written, next_written}
use Rattle.names_text.proofs.preparation.prepared_text.Goals as goal

pub loop-word-init : goal.loop-word-init
loop-word-init c = first_written c.args.text.now _ _ c.extend_from_slice.new.self.items c.in-Some.ensures (search rules)

pub loop-word-preserved : goal.loop-word-preserved
loop-word-preserved c = next_written c.args.text.now _ _ _ _ _ c.loop-word.invariant c.in-Some-next_word.ensures (search rules)
