use Rattle.std.proofs.Common.{[], sym, subst}
use Rattle.cert_hosts.specs.declared.base.Base.{Base}
use Rattle.cert_hosts.specs.BaseLists.{seen_lists}
use Rattle.cert_hosts.specs.Bases.{seen_base}
use Rattle.cert_hosts.specs.Reading.{AreSaid, TellsWith, IsMalformedFor}
use Rattle.cert_hosts.proofs.Told.{one_more, first_malformed, none_said}
use Rattle.cert_hosts.proofs.base_lists.BaseLists.of_bases.Goals as goal

pub returns-in-Err-clause-refused : goal.returns-in-Err-clause-refused
returns-in-Err-clause-refused c =
    first_malformed c.args.bases.now c.loop-base.base-index c.base-item.result (seen_lists c.loop-base.told) c.in-Err.fault c.loop-base-test.true
    (subst (λ (b : Base). IsMalformedFor (seen_base b) c.in-Err.fault) c.base-item.is c.in-Err.ensures) c.loop-base.invariant

pub loop-base-init : goal.loop-base-init
loop-base-init c = subst (AreSaid []) (sym c.none-told.ensures) none_said

pub loop-base-preserved : goal.loop-base-preserved
loop-base-preserved c =
    one_more c.args.bases.now c.loop-base.base-index c.base-item.result (seen_lists c.loop-base.told) (seen_lists c.take.new.self) c.loop-base-test.true
    (subst (λ (b : Base). TellsWith (seen_base b) (seen_lists c.loop-base.told) (seen_lists c.take.new.self)) c.base-item.is c.in-Ok.ensures) c.loop-base.invariant
