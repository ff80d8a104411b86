use Rattle.std.proofs.Common.{◌≡◌, ◌++◌, length, map}
use Rattle.std.specs.Prelude.{flat_map}
use Rattle.asn.specs.Members.{left}
use Rattle.cert_hosts.specs.Mailboxes.{mailbox_of, seen_mail}
use Rattle.cert_hosts.specs.OwnNames.{email_of}
use Rattle.cert_hosts.proofs.subject.take_attributes.Given as goal

-- the mailboxes so far, and those of the values that are left
abbrev pub invariant-loop-attribute : goal.invariant-loop-attribute
invariant-loop-attribute l =
    seen_mail l.mail ++ map mailbox_of (flat_map email_of (left l.attributes).values) ≡ seen_mail l.fn.mail ++ map mailbox_of (flat_map email_of (left l.fn.attributes).values)

abbrev pub decreases-loop-attribute : goal.decreases-loop-attribute
decreases-loop-attribute l = length (left l.attributes).values
