use Rattle.std.proofs.Common.{refl, ◌++◌}
use Rattle.der.proofs.OneEncoding.{one_encoding, one_value}
use Rattle.der.proofs.OneFault.{one_fault}
use Rattle.der.proofs.Decide.{decide, refused_apart}
use Rattle.der.proofs.encoding.encoding_laws.Goals as goal

pub returns-clause-encoding : goal.returns-clause-encoding
returns-clause-encoding c = λ a b v p q. one_encoding v 1 1 a b p q

pub returns-clause-value : goal.returns-clause-value
returns-clause-value c = λ a b x y v w p q e. let o = one_value v w 1 1 (a ++ x) a b x y refl e p q in (o.0, o.2)

pub returns-clause-fault : goal.returns-clause-fault
returns-clause-fault c = one_fault

pub returns-clause-decided : goal.returns-clause-decided
returns-clause-decided c = record { one = decide; apart = refused_apart }
