use Rattle.std.proofs.Common.{◌≡◌, ◌+◌, [], ◌∷◌, ◌++◌, None, Some, map, sym, subst, take}
use Rattle.cli_failures.specs.declared.failure.Failure.TheVariants.{NoMemory}
use Rattle.cli_operands.specs.PathFiles.{AreFilesRead}
use Rattle.cli_operands.proofs.Files.{one_read, one_unread}
use Rattle.cli_operands.proofs.path_files.read_files.Goals as goal

pub returns-in-Err : goal.returns-in-Err
returns-in-Err g c = one_unread c.args.profile c.args.most (g.S.Source.holds c.args.source.now) c.args.files.now c.loop-file.file-index _ c.loop-file.read.items c.in-Err.failure c.loop-file-test.true c.loop-file.invariant c.in-Err.ensures.fails

pub returns-then-is_err : goal.returns-then-is_err
returns-then-is_err g c =
    let same : c.push.new.self.items ≡ c.loop-file.read.items = rw c.if-is_err.ensures.negation at c.push.ensures.items in
    subst (λ read. AreFilesRead c.args.profile c.args.most (g.S.Source.holds c.args.source.now) (map (λ file. file.now) c.args.files.now) read (Some NoMemory)) (sym same)
    (one_unread c.args.profile c.args.most (g.S.Source.holds c.args.source.now) c.args.files.now c.loop-file.file-index (record { ref_ptr = (0, 0); now = [] }) c.loop-file.read.items NoMemory c.loop-file-test.true c.loop-file.invariant tt)

pub loop-file-preserved : goal.loop-file-preserved
loop-file-preserved g c =
    let grown : c.push.new.self.items ≡ c.loop-file.read.items ++ c.in-Ok.next ∷ [] = rw c.if-is_err.ensures.negation at c.push.ensures.items in
    subst (λ read. AreFilesRead c.args.profile c.args.most (g.S.Source.holds c.args.source.now) (map (λ file. file.now) (take (c.loop-file.file-index + 1) c.args.files.now)) read None) (sym grown)
    (one_read c.args.profile c.args.most (g.S.Source.holds c.args.source.now) c.args.files.now c.loop-file.file-index _ c.loop-file.read.items c.in-Ok.next c.loop-file-test.true c.loop-file.invariant c.in-Ok.ensures.reads)
