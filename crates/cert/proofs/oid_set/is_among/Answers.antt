use Rattle.std.proofs.Common.{◌∙◌, sym, ap}
use Rattle.std.specs.FinSet.{contains, contains-empty}
use Rattle.std.proofs.lemmas.List.{take_all}
use Rattle.cert.specs.OidSet.{oids_from}
use Rattle.cert.proofs.OidSets.{is_in_list, is_in_no_more}
use Rattle.cert.proofs.oid_set.is_among.Goals as goal

pub loop-other-init : goal.loop-other-init
loop-other-init c = contains-empty _ c.args.oid.now

pub returns-then-is_same : goal.returns-then-is_same
returns-then-is_same c = sym (is_in_list c.args.oid.now c.args.others.now c.loop-other.other-index _ c.loop-other-test.true (sym c.is_same.ensures ∙ c.if-is_same.true))

pub loop-other-preserved : goal.loop-other-preserved
loop-other-preserved c = is_in_no_more c.args.oid.now c.args.others.now c.loop-other.other-index _ c.loop-other-test.true c.loop-other.invariant (sym c.is_same.ensures ∙ c.if-is_same.false)

pub returns : goal.returns
returns c =
    sym (ap (λ oids. contains (oids_from oids) c.args.oid.now) (sym (take_all c.loop-other.other-index c.args.others.now c.loop-other-test.false)) ∙ c.loop-other.invariant)
