use Rattle.std.proofs.Common.{◌∙◌, ap, sym, Some}
use Rattle.cli_requests.proofs.Names.{is_text, no_text}
use Rattle.cli_requests.proofs.operand.text_of.Goals as goal

pub returns-in_ok-from_str-in-Ok : goal.returns-in_ok-from_str-in-Ok
returns-in_ok-from_str-in-Ok c =
    ap Some (c.in_ok-from_str-in-Ok.ensures.ok ∙ c.in-Ok.ensures.cases.0) ∙ sym (is_text c.args.octets.now c.in-Ok.ensures.cases.1)

pub returns-in-Err : goal.returns-in-Err
returns-in-Err c = sym (no_text c.args.octets.now c.in-Err.ensures.cases.0)
