use Rattle.std.proofs.Common.{refl}
use Rattle.test_program.proofs.Clean.{clean}
use Rattle.test_program.proofs.shelf.memory_is_clean.Goals as goal

pub returns : goal.returns
returns c = clean (λ disk. refl) c.args.conn.now
