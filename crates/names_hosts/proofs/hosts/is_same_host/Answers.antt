use Rattle.names_hosts.proofs.HostTexts.{same_host, same_folded}
use Rattle.names_hosts.proofs.hosts.is_same_host.Goals as goal

pub returns : goal.returns
returns c =
    let one = c.args.one.now in
    let other = c.args.other.now in (
      λ t. same_host one other (c.eq_ignore_ascii_case.ensures.test.0 t),
      λ e. c.eq_ignore_ascii_case.ensures.test.1 (same_folded one other e),
    )
