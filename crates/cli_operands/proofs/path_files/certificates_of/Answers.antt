use Rattle.std.proofs.Common.{◌≡◌, ◌<◌, ◌+◌, ◌++◌, ◌∙◌, List, ap, arith, get_or, length, map, sym, subst, take, take_all}
use Rattle.std.proofs.lemmas.List.{map-append}
use Rattle.std.proofs.lemmas.Result.{err_from_is_err_and}
use Rattle.cert.specs.Certificate.{Certificate, seen_certificate}
use Rattle.cli_operands.specs.PathFiles.{AreCertificatesOf}
use Rattle.cli_operands.specs.declared.path_file.PathFile.{PathFile}
use Rattle.cli_operands.proofs.Files.{fails_in_the_end, no_memory, path_longer, path_refused}
use Rattle.cli_operands.proofs.path_files.certificates_of.Goals as goal

pub returns-in_err-certificates-clause-fails : goal.returns-in_err-certificates-clause-fails
returns-in_err-certificates-clause-fails c =
    let p = err_from_is_err_and c.from_residual.result c.from_residual.ensures.1 in
    let is : c.file-item.result ≡ get_or c.args.path.now.files.items c.loop-file.file-index c.file-item.result = cc in
    let below : c.loop-file.file-index < length c.args.path.now.files.items = omega arith in
    rw (p.1, p.2) (path_refused c.args.path.now.files.items c.loop-file.file-index c.file-item.result below is c.args.path.now.unread (map seen_certificate c.loop-file.all.items) _ c.loop-file.invariant c.in_err-certificates.ensures.fails)

pub returns-then-is_err-clause-fails : goal.returns-then-is_err-clause-fails
returns-then-is_err-clause-fails c = no_memory c.args.path.now.files.items c.args.path.now.unread

pub loop-file-preserved : goal.loop-file-preserved
loop-file-preserved c =
    let is : c.file-item.result ≡ get_or c.args.path.now.files.items c.loop-file.file-index c.file-item.result = cc in
    let below : c.loop-file.file-index < length c.args.path.now.files.items = omega arith in
    let grown : c.append.new.self.items ≡ c.loop-file.all.items ++ c.in_ok-certificates.certificates.items = rw c.if-is_err.ensures.negation at c.append.ensures.items in
    let seen = ap (map seen_certificate) grown ∙ map-append seen_certificate c.loop-file.all.items c.in_ok-certificates.certificates.items in
    subst (λ (read : List Certificate). AreCertificatesOf (take (c.loop-file.file-index + 1) c.args.path.now.files.items) read) (sym seen)
    (path_longer c.args.path.now.files.items c.loop-file.file-index c.file-item.result below is (map seen_certificate c.loop-file.all.items) (map seen_certificate c.in_ok-certificates.certificates.items) c.loop-file.invariant c.in_ok-certificates.ensures.reads)

pub returns-in-Some-clause-fails : goal.returns-in-Some-clause-fails
returns-in-Some-clause-fails c =
    let done : AreCertificatesOf c.args.path.now.files.items (map seen_certificate c.loop-file.all.items) = subst (λ (files : List PathFile). AreCertificatesOf files (map seen_certificate c.loop-file.all.items)) (take_all c.loop-file.file-index c.args.path.now.files.items (omega arith)) c.loop-file.invariant in
    fails_in_the_end c.args.path.now.files.items c.args.path.now.unread (map seen_certificate c.loop-file.all.items) c.in-Some.failure done c.in-Some.is

pub returns-clause-reads : goal.returns-clause-reads
returns-clause-reads c =
    subst (λ (files : List PathFile). AreCertificatesOf files (map seen_certificate c.loop-file.all.items)) (take_all c.loop-file.file-index c.args.path.now.files.items (omega arith)) c.loop-file.invariant
