use Rattle.std.proofs.Common.{◌++◌, ◌+◌, refl, arith}
use Rattle.cert.specs.Certificate.{seen_certificate}
use Rattle.cert.specs.SubjectPublicKeyInfo.{seen_key_info}
use Rattle.statements_ocsp.specs.OcspResponse.{seen_response}
use Rattle.cli_printing.specs.FingerprintText.{both_lines}
use Rattle.cli_printing.proofs.Appending.{appends_both}
use Rattle.cli_printing.proofs.Delegates.{delegates_more, certs_short, handed}
use Rattle.cli_printing.proofs.fingerprint.write_delegates.Goals as goal

pub overflow_add-number : goal.overflow_add-number
overflow_add-number g c =
    let short = certs_short c.args.response.now.certs in
    let was = c.loop-certificate.invariant.counted in
    let given = (handed _ _ _ _ c.in-Some.is c.in_ok-certificate.ensures.found).1 in
    omega (arith, short, was, given)

pub loop-certificate-preserved : goal.loop-certificate-preserved
loop-certificate-preserved g c =
    let was = c.loop-certificate.invariant in
    let given = handed _ _ _ _ c.in-Some.is c.in_ok-certificate.ensures.found in
    let key_info = seen_key_info c.args.key_info.now in
    let response = seen_response c.args.response.now in
    let certificate = seen_certificate c.in-Some.certificate in
    let number = c.loop-certificate.number + 1 in
    record {
      text = was.text ++ both_lines c.args.with_parts key_info response number certificate;
      whole = delegates_more c.args.with_parts key_info response number _ was.text certificate _ _ given.0 was.whole;
      written = appends_both _ _ _ _ _ _ was.written c.in_ok-write_delegate.ensures refl;
      counted = (let less = given.1 in let counted = was.counted in omega (arith, less, counted));
    }
