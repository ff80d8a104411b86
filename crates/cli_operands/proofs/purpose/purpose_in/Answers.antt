use Rattle.std.proofs.Common.{◌-◌, length, take, drop}
use Rattle.cli_operands.proofs.Arcs.{arcs_by, behind_two}
use Rattle.cli_operands.proofs.purpose.purpose_in.Goals as goal

pub returns-clause-contents : goal.returns-clause-contents
returns-clause-contents c =
    arcs_by c.args.arcs.now (take (length c.args.arcs.now - 2) (drop 2 c.args.arcs.now)) c.in_ok-octets_of.field-0.items c.in-Some.number c.if-arcs-lt2.false c.requires (behind_two c.args.arcs.now) c.in-Some.ensures.number c.in_ok-octets_of.ensures
