use Rattle.std.proofs.Common.{sym, ◌∙◌}
use Rattle.names_distinguished.specs.NameView.{entry_of}
use Rattle.names_distinguished.specs.Agreement.{entries_in, run_left}
use Rattle.names_distinguished.proofs.RunParts.{rising_more, rising_ends, rising_none}
use Rattle.names_distinguished.proofs.run.Run.behind.Goals as goal

pub returns-then-is_kind_before : goal.returns-then-is_kind_before
unfolding run_left
returns-then-is_kind_before c =
    sym (rising_more c.args.last.now (entries_in c.args.self.others) (entries_in c.in-Some.others) (entry_of c.in-Some.next) c.in-Some.ensures (sym c.is_kind_before.ensures ∙ c.if-is_kind_before.true))

pub returns-else-is_kind_before : goal.returns-else-is_kind_before
unfolding run_left
returns-else-is_kind_before c =
    sym (rising_ends c.args.last.now (entries_in c.args.self.others) (entries_in c.in-Some.others) (entry_of c.in-Some.next) c.in-Some.ensures (sym c.is_kind_before.ensures ∙ c.if-is_kind_before.false))

pub returns-in-None : goal.returns-in-None
unfolding run_left
returns-in-None c = sym (rising_none c.args.last.now (entries_in c.args.self.others) c.in-None.ensures)
