use Rattle.std.proofs.Common.{◌≡◌, false, sym, rules}
use Rattle.cli_requests.specs.Requests.{is_passed_over}
use Rattle.cli_requests.proofs.Words.{on_no_text, on_text}
use Rattle.cli_requests.proofs.request.request_of.Goals as goal

pub returns-in-Ok-clause-reads : goal.returns-in-Ok-clause-reads
returns-in-Ok-clause-reads c =
    let written : is_passed_over c.args.line.now ≡ false = search rules in
    rw (on_text c.args.line.now written c.in-Ok.ensures.cases.1, sym c.in-Ok.ensures.cases.0) c.request_of_text.ensures.reads

pub returns-in-Err-clause-refuses : goal.returns-in-Err-clause-refuses
returns-in-Err-clause-refuses c =
    let written : is_passed_over c.args.line.now ≡ false = search rules in
    on_no_text c.args.line.now written c.in-Err.ensures.cases.0
