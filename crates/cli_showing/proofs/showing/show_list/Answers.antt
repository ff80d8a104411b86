use Rattle.std.proofs.Common.{rules, ◌≡◌, ◌∙◌, Ok, [], false}
use Rattle.statements_crl.specs.CertificateList.{certificate_list_under, seen_list}
use Rattle.cli_printing.specs.CrlText.{crl_text}
use Rattle.cli_showing.proofs.Detailed.{detailed}
use Rattle.cli_showing.proofs.showing.show_list.Goals as goal

pub returns-in-Ok-clause-shows : goal.returns-in-Ok-clause-shows
returns-in-Ok-clause-shows c =
    let read = seen_list c.in_ok-list.list in
    let is : certificate_list_under c.args.profile c.args.octets.now ≡ Ok read = search rules in
    let written : c.crl_to.new.writer.items ≡ crl_text read = search rules in
    let none : c.args.with_details ≡ false → c.as_slice.result.now ≡ [] = λ plain. c.as_slice.ensures.value ∙ c.in_ok-details.ensures.none plain in
    detailed (λ x. certificate_list_under c.args.profile c.args.octets.now ≡ Ok x) crl_text read c.args.with_details c.crl_to.new.writer.items c.as_slice.result.now c.with_lines.result is none written c.with_lines.ensures.joined
