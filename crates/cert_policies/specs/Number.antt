-- The contents octets of an INTEGER (X.690, 8.3).
use Rattle.std.specs.Prelude.{ℕ, ◌==◌, ◌&&◌, nat_lt, nat_le, Bool, true, false, not, List, [], ◌∷◌}

-- There is an octet (8.3.1), and the first nine bits are neither all zero nor all one (8.3.2).
abbrev pub is_shortest : List ℕ → Bool
is_shortest [] = false
is_shortest (first ∷ []) = true
is_shortest (first ∷ second ∷ octets) = not (first == 0 && nat_lt second 128) && not (first == 255 && nat_le 128 second)
