use Rattle.std.proofs.Common.{rules, arith, refl}
use Rattle.std.proofs.lemmas.Bool.{false≢true}
use Rattle.names_identity.specs.Host.{is_host_octet}
use Rattle.names_identity.proofs.Positions.{all_pass, one_fails}
use Rattle.names_identity.proofs.HostLabels.{no_bad_label, number_at, no_number_at}
use Rattle.names_identity.proofs.hosts.check_host.Goals as goal

pub returns-in-Some-clause-accepts : goal.returns-in-Some-clause-accepts
returns-in-Some-clause-accepts c = (
  λ host. absurd (one_fails is_host_octet c.args.text.now c.in-Some.at (search rules) host.octets),
  λ f. absurd (false≢true f),
)

pub returns-in-Err-clause-accepts : goal.returns-in-Err-clause-accepts
returns-in-Err-clause-accepts c = (
  λ host. absurd (no_bad_label c.args.text.now c.in-Err.at host.labels c.in-Err.ensures.refuses),
  λ f. absurd (false≢true f),
)

pub returns-in-Err-clause-refuses : goal.returns-in-Err-clause-refuses
returns-in-Err-clause-refuses c = (all_pass is_host_octet c.args.text.now (search rules), c.in-Err.ensures.refuses)

pub returns-then-text-gt-MAX_HOST_LEN-clause-refuses : goal.returns-then-text-gt-MAX_HOST_LEN-clause-refuses
returns-then-text-gt-MAX_HOST_LEN-clause-refuses c =
    (all_pass is_host_octet c.args.text.now (search rules), c.in-Ok.ensures.last.labels, omega arith, refl)

pub returns-then-is_number-clause-accepts : goal.returns-then-is_number-clause-accepts
returns-then-is_number-clause-accepts c = (
  λ host. absurd (host.no_number c.in-Ok.last.0 (number_at c.args.text.now c.in-Ok.last.0 c.in-Ok.last.1.now c.in-Ok.ensures.last (search rules))),
  λ f. absurd (false≢true f),
)

pub returns-then-is_number-clause-refuses : goal.returns-then-is_number-clause-refuses
returns-then-is_number-clause-refuses c = (
  all_pass is_host_octet c.args.text.now (search rules),
  c.in-Ok.ensures.last.labels,
  omega arith,
  number_at c.args.text.now c.in-Ok.last.0 c.in-Ok.last.1.now c.in-Ok.ensures.last (search rules),
)

pub returns-clause-accepts : goal.returns-clause-accepts
returns-clause-accepts c = (
  λ host. refl,
  λ t. record {
    octets = all_pass is_host_octet c.args.text.now (search rules);
    labels = c.in-Ok.ensures.last.labels;
    short = omega arith;
    no_number = no_number_at c.args.text.now c.in-Ok.last.0 c.in-Ok.last.1.now c.in-Ok.ensures.last (search rules);
  },
)
