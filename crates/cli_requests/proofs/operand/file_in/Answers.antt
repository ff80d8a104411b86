use Rattle.std.proofs.Common.{◌≡◌, ◌∙◌, ap, rules, Some, None, option_map, string_bytes}
use Rattle.cli_requests.specs.Operands.{file_name, file_of, in_file, name_in}
use Rattle.cli_requests.proofs.operand.file_in.Goals as goal

pub returns-in_default : goal.returns-in_default
returns-in_default c = let read : None ≡ name_in c.args.word.now = search rules in ap file_of read

pub returns-in-Some-2 : goal.returns-in-Some-2
returns-in-Some-2 c =
    let read : Some c.in-Some.octets.items ≡ name_in c.args.word.now = search rules in
    let named : Some (string_bytes c.in-Some-2.name) ≡ file_name c.in-Some.octets.items = search rules in
    ap (option_map in_file) named ∙ ap file_of read

pub returns : goal.returns
returns c =
    let read : Some c.in-Some.octets.items ≡ name_in c.args.word.now = search rules in
    let named : None ≡ file_name c.in-Some.octets.items = search rules in
    ap (option_map in_file) named ∙ ap file_of read
