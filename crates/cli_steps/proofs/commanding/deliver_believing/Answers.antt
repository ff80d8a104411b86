use Rattle.std.proofs.Common.{inl, inr, refl}
use Rattle.std.proofs.lemmas.Result.{err_from_is_err_and}
use Rattle.cli_steps.proofs.Passed.{accepted_by, believes_file, further}
use Rattle.cli_steps.specs.Commands.{IsFailureBelieving, SaysBelieving}
use Rattle.cli_steps.specs.Passing.{HoldsStatement, IsRefusedFrom}
use Rattle.cli_steps.proofs.commanding.deliver_believing.Goals as goal

pub returns-in_err-prints : goal.returns-in_err-prints
returns-in_err-prints g c =
    let p = err_from_is_err_and c.from_residual.result c.from_residual.ensures.1 in
    rw (p.1, p.2) (inl (inl c.in_err-prints.ensures.fails, refl))

pub returns : goal.returns
returns g c =
    let holds = g.S.Source.holds c.args.source.now in
    let verifier = c.new-verifier.result in
    let believes = believes_file holds c.args.verdicts.now verifier c.in_ok-prints.prints.items c.in_ok-prints.ensures.reads c.new-verifier.ensures in
    further (λ facts. facts) (HoldsStatement holds (accepted_by verifier) c.args.issuer.now c.args.file.now) (SaysBelieving holds c.args.verdicts.now c.args.issuer.now c.args.file.now)
    (IsRefusedFrom holds (accepted_by verifier) c.args.issuer.now c.args.file.now) (IsFailureBelieving holds c.args.verdicts.now c.args.issuer.now c.args.file.now)
    g.R.TakeFacts.takes c.args.receiver.now c.deliver_to.new.receiver c.deliver_to.result
    (λ facts says. (accepted_by verifier, believes, says)) (λ failure refused. inr (accepted_by verifier, believes, refused))
    c.deliver_to.ensures
