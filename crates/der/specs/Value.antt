-- A value, apart from where its octets lie (X.690, 8.1.1).
use Rattle.std.specs.Prelude.{ℕ, List}

mutual
  -- an identifier octet, with its contents octets or with the values inside
  pub data Value : Type 0 where
    primitive : ℕ → List ℕ → Value
    constructed : ℕ → Values → Value

  pub data Values : Type 0 where
    none : Values
    more : Value → Values → Values
