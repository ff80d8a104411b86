use Rattle.std.proofs.Common.{map, take}
use Rattle.cert.specs.Certificate.{seen_certificate}
use Rattle.cli_operands.specs.PathFiles.{AreCertificatesOf}
use Rattle.cli_operands.proofs.path_files.certificates_of.Given as goal

abbrev pub invariant-loop-file : goal.invariant-loop-file
invariant-loop-file l = AreCertificatesOf (take l.file-index l.path.files.items) (map seen_certificate l.all.items)
