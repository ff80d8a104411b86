use Rattle.std.proofs.Common.{◌≡◌, [], ◌∷◌, ◌+◌, ◌++◌, ◌∙◌, ℕ, List, Result, Vec, Global, ap, arith, drop, length, map, suc, sym, subst, take}
use Rattle.std.proofs.lemmas.List.{map-append}
use Rattle.std.proofs.lemmas.Result.{err_from_is_err_and}
use Rattle.cert.specs.Certificate.{Certificate, seen_certificate}
use Rattle.cert.specs.declared.fault.CertRule.{CertRule}
use Rattle.der_stream.specs.Sequence.{joined}
use Rattle.cli_operands.specs.PathText.{AreTexts}
use Rattle.cli_operands.proofs.Certificates.{among, one_more, part_of, parted, place_more, texts_more}
use Rattle.cli_operands.proofs.certificate_values.read_certificates.Goals as goal

pub returns-in_err-certificate-clause-fails : goal.returns-in_err-certificate-clause-fails
returns-in_err-certificate-clause-fails c =
    let p = err_from_is_err_and c.from_residual.result c.from_residual.ensures.1 in
    let i = c.loop-value.value-index in
    let values = c.args.values.now in
    let text = λ (value : Vec ℕ Global). value.items in
    let told = rw (c.deref.ensures.value, c.loop-value.invariant.place) at c.in_err-certificate.ensures.fails in
    rw (p.1, p.2, parted text values i c.value-item.result c.loop-value-test.true c.value-item.is)
    (among c.args.profile (map text (take i values)) c.value-item.result.items (map text (drop (suc i) values)) c.args.file.now _ (map seen_certificate c.loop-value.certificates.items, c.loop-value.invariant.read) told)

pub overflow_add-start : goal.overflow_add-start
overflow_add-start c =
    let i = c.loop-value.value-index in
    let values = c.args.values.now in
    let text = λ (value : Vec ℕ Global). value.items in
    let before = map text (take i values) in
    let more = ap length (ap joined (one_more text values i c.value-item.result c.loop-value-test.true c.value-item.is)) in
    omega (arith, more, place_more before c.value-item.result.items, part_of text values (i + 1), c.loop-value.invariant.place, c.len-start.ensures, c.value-item.result.ok, c.requires)

pub loop-value-preserved : goal.loop-value-preserved
loop-value-preserved c =
    let i = c.loop-value.value-index in
    let values = c.args.values.now in
    let text = λ (value : Vec ℕ Global). value.items in
    let before = map text (take i values) in
    let read = c.loop-value.certificates.items in
    let one = c.in_ok-certificate.certificate in
    let more = one_more text values i c.value-item.result c.loop-value-test.true c.value-item.is in
    let grown : c.push.new.self.items ≡ read ++ one ∷ [] = rw c.if-is_err.ensures.negation at c.push.ensures.items in
    let seen : map seen_certificate c.push.new.self.items ≡ map seen_certificate read ++ seen_certificate one ∷ [] = ap (map seen_certificate) grown ∙ map-append seen_certificate read (one ∷ []) in
    let last : AreTexts c.args.profile (c.value-item.result.items ∷ []) (seen_certificate one ∷ []) = ap (λ (it : Result Certificate (CertRule × ℕ)). it ∷ []) (rw (← c.deref.ensures.value) c.in_ok-certificate.ensures.reads) in
    record {
      place = omega (arith, ap length (ap joined more), place_more before c.value-item.result.items, c.loop-value.invariant.place, c.len-start.ensures, c.value-item.result.ok);
      read = subst (λ (texts : List (List ℕ)). AreTexts c.args.profile texts (map seen_certificate c.push.new.self.items)) (sym more)
          (subst (λ (certificates : List Certificate). AreTexts c.args.profile (before ++ c.value-item.result.items ∷ []) certificates) (sym seen)
          (texts_more c.args.profile before (c.value-item.result.items ∷ []) (map seen_certificate read) (seen_certificate one ∷ []) c.loop-value.invariant.read last));
    }
