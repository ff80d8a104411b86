use Rattle.std.proofs.Common.{rules, ◌≡◌, ◌∙◌, Ok, [], false}
use Rattle.statements_ocsp.specs.OcspResponse.{ocsp_response, seen_response}
use Rattle.cli_printing.specs.ResponseText.{response_text}
use Rattle.cli_showing.proofs.Detailed.{detailed}
use Rattle.cli_showing.proofs.showing.show_response.Goals as goal

pub returns-in-Ok-clause-shows : goal.returns-in-Ok-clause-shows
returns-in-Ok-clause-shows c =
    let read = seen_response c.in_ok-response.response in
    let is : ocsp_response c.args.octets.now ≡ Ok read = search rules in
    let written : c.response_to.new.writer.items ≡ response_text read = search rules in
    let none : c.args.with_details ≡ false → c.as_slice.result.now ≡ [] = λ plain. c.as_slice.ensures.value ∙ c.in_ok-details.ensures.none plain in
    detailed (λ x. ocsp_response c.args.octets.now ≡ Ok x) response_text read c.args.with_details c.response_to.new.writer.items c.as_slice.result.now c.with_lines.result is none written c.with_lines.ensures.joined
