-- The limits of lists, and faults of names that were passed on.
use Rattle.std.proofs.Common.{◌≡◌, ◌<◌, ℕ, Result, Ok, Err}
use Rattle.std.specs.Prelude.{nat_lt}
use Rattle.std.proofs.lemmas.Bool.{ltb-true, lt-ltb}
use Rattle.asn.proofs.Laws.{check_ok, check_again}
use Rattle.names.specs.NameRule.{NameRule}
use Rattle.cert.specs.declared.fault.CertRule.TheVariants.{Limit}
use Rattle.cert.specs.Fault.{as_name}
use Rattle.cert.specs.Limit.{has_room}

pub as_name_ok : {A : Type 0} (r : Result A (NameRule × ℕ)) (x : A) → as_name r ≡ Ok x → r ≡ Ok x
as_name_ok (Ok y) x e = cc
as_name_ok (Err fault) x e = absurd cc

pub room_ok : (most count at : ℕ) (u : Unit {0}) → has_room most count at ≡ Ok u → count < most
unfolding has_room
room_ok most count at u e = ltb-true count most (check_ok (nat_lt count most) Limit at u e)

pub room_again : (most count at : ℕ) → count < most → has_room most count at ≡ Ok tt
unfolding has_room
room_again most count at less = check_again (nat_lt count most) Limit at (lt-ltb count most less)
