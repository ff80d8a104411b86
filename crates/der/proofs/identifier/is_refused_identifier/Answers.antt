-- The table is held against the definition at each of the 256 octets, by computing.
use Rattle.std.proofs.Common.{arith, refl, nat_eq, get_or}
use Rattle.std.proofs.lemmas.Bool.{agree_below_at}
use Rattle.der.specs.declared.identifier.TheConstants.{SERVED}
use Rattle.der.specs.Identifier.{is_refused}
use Rattle.der.proofs.identifier.is_refused_identifier.Goals as goal

pub returns : goal.returns
returns c = agree_below_at (λ k. nat_eq (get_or SERVED k 0) 46) is_refused 256 c.args.identifier refl (omega arith)
