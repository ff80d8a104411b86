use Rattle.cli_requests.proofs.Names.{of_two}
use Rattle.cli_requests.proofs.operand.escaped.Goals as goal

pub returns-in-Ok : goal.returns-in-Ok
returns-in-Ok c = (of_two c.args.high c.args.low c.decode_to_slice.result c.decode_to_slice.new.out c.decode_to_slice.ensures.value).0 c.in-Ok.is

pub returns-in-Err : goal.returns-in-Err
returns-in-Err c = (of_two c.args.high c.args.low c.decode_to_slice.result c.decode_to_slice.new.out c.decode_to_slice.ensures.value).1 _ c.in-Err.is
