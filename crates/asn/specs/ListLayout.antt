-- Lists of values: SEQUENCE OF and SET OF (X.690, 8.10 and 8.12).
use Rattle.std.specs.Prelude.{List, [], ◌∷◌}
use Rattle.der.specs.Value.{Value, Values, none, more}

-- the values of the list, one after the other
abbrev pub values_of : List Value → Values
values_of [] = none
values_of (value ∷ values) = more value (values_of values)

-- each of the values
abbrev pub AllValues : (Value → Type 0) → Values → Type 0
AllValues Is none = Unit {0}
AllValues Is (more value values) = Is value × AllValues Is values
