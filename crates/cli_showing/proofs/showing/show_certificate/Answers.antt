use Rattle.std.proofs.Common.{rules, ◌≡◌, ◌∙◌, Ok, [], false}
use Rattle.cert.specs.Certificate.{certificate, seen_certificate}
use Rattle.cli_printing.specs.CertificateText.{certificate_text}
use Rattle.cli_showing.proofs.Detailed.{detailed}
use Rattle.cli_showing.proofs.showing.show_certificate.Goals as goal

pub returns-in-Ok-clause-shows : goal.returns-in-Ok-clause-shows
returns-in-Ok-clause-shows c =
    let read = seen_certificate c.in_ok-certificate.certificate in
    let is : certificate c.args.octets.now ≡ Ok read = search rules in
    let written : c.certificate_to.new.writer.items ≡ certificate_text read = search rules in
    let none : c.args.with_details ≡ false → c.as_slice.result.now ≡ [] = λ plain. c.as_slice.ensures.value ∙ c.in_ok-details.ensures.none plain in
    detailed (λ x. certificate c.args.octets.now ≡ Ok x) certificate_text read c.args.with_details c.certificate_to.new.writer.items c.as_slice.result.now c.with_lines.result is none written c.with_lines.ensures.joined
