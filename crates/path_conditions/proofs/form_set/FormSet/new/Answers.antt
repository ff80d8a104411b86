use Rattle.std.proofs.Common.{◌≡◌, ℕ, false, refl, replicate, get_or, zero, suc}
use Rattle.path_conditions.proofs.form_set.FormSet.new.Goals as goal

none_of : (n k : ℕ) → get_or (replicate n false) k false ≡ false
none_of zero k = refl
none_of (suc n) zero = refl
none_of (suc n) (suc k) = none_of n k

pub returns : goal.returns
returns c number = none_of 256 number
