use Rattle.std.proofs.Common.{◌≡◌, ◌++◌, length, map}
use Rattle.std.specs.Prelude.{flat_map}
use Rattle.asn.specs.Members.{left}
use Rattle.cert_hosts.specs.Mailboxes.{mailbox_of, seen_mail}
use Rattle.cert_hosts.specs.OwnNames.{emails_of_rdn}
use Rattle.cert_hosts.proofs.subject.take_rdns.Given as goal

-- the mailboxes so far, and those of the values that are left
abbrev pub invariant-loop-rdn : goal.invariant-loop-rdn
invariant-loop-rdn l =
    seen_mail l.mail ++ map mailbox_of (flat_map emails_of_rdn (left l.rdns).values) ≡ seen_mail l.fn.mail ++ map mailbox_of (flat_map emails_of_rdn (left l.fn.rdns).values)

abbrev pub decreases-loop-rdn : goal.decreases-loop-rdn
decreases-loop-rdn l = length (left l.rdns).values
