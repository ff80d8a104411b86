use Rattle.std.proofs.Common.{None, map, take}
use Rattle.cli_operands.specs.PathFiles.{AreFilesRead}
use Rattle.cli_operands.proofs.path_files.read_files.Given as goal

abbrev pub invariant-loop-file : goal.invariant-loop-file
invariant-loop-file g l = AreFilesRead l.profile l.most (g.S.Source.holds l.source) (map (λ file. file.now) (take l.file-index l.files)) l.read.items None
