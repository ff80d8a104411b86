use Rattle.names_distinguished.specs.Repetition.{kinds_of, pointed}
use Rattle.names_distinguished.proofs.Pointers.{stepped}
use Rattle.names_distinguished.proofs.repetition.Pointer.first.Goals as goal

pub returns : goal.returns
unfolding pointed
returns c = stepped c.next-next.result (kinds_of c.args.run) (kinds_of c.next-next.new.self) c.next-next.ensures
