-- OBJECT IDENTIFIERs in dotted decimal (X.690, 8.19).
use Rattle.std.specs.Prelude.{ℕ, suc, ◌+◌, ◌-◌, ◌*◌, ◌%◌, Bool, nat_lt, List, [], ◌∷◌, ◌++◌, length, codes, if◌then◌else◌}
use Rattle.std.specs.List.{flat_map, list_any}
use Rattle.std.specs.Fmt.{decimal}
use Rattle.hex.specs.Hex.{encode_lower}

-- one octet more in front of the first number
abbrev pub with_arc_octet : ℕ → List (List ℕ) → List (List ℕ)
with_arc_octet octet [] = (octet ∷ []) ∷ []
with_arc_octet octet (number ∷ numbers) = (octet ∷ number) ∷ numbers

-- the numbers in the contents, each by its octets, of which the last one alone is below 128 (8.19.2)
abbrev pub numbers_in : List ℕ → List (List ℕ)
numbers_in [] = []
numbers_in (octet ∷ octets) =
    if nat_lt octet 128 then (octet ∷ []) ∷ numbers_in octets else with_arc_octet octet (numbers_in octets)

-- how many octets the first number has
abbrev pub number_size : List ℕ → ℕ
number_size [] = 0
number_size (octet ∷ octets) = if nat_lt octet 128 then 1 else suc (number_size octets)

-- the number whose octets begin with this one and go on with these: seven bits of each octet, the highest first
abbrev pub number_from : ℕ → List ℕ → ℕ
number_from number [] = number
number_from number (octet ∷ octets) = number_from (number * 128 + octet % 128) octets

abbrev pub octets_number : List ℕ → ℕ
octets_number octets = number_from 0 octets

-- the first number is that of two: 40 times the first of them, which is 2 at most, and the second (8.19.4)
abbrev pub first_two : ℕ → List ℕ
first_two number =
    if nat_lt number 40 then codes "0." ++ decimal number
    else (if nat_lt number 80 then codes "1." ++ decimal (number - 40) else codes "2." ++ decimal (number - 80))

abbrev pub dotted_number : List ℕ → List ℕ
dotted_number octets = 46 ∷ decimal (octets_number octets)

abbrev pub dotted : List (List ℕ) → List ℕ
dotted [] = []
dotted (first ∷ numbers) = first_two (octets_number first) ++ flat_map dotted_number numbers

-- a number of more than 63 bits
abbrev pub is_long : List ℕ → Bool
is_long octets = nat_lt 9 (length octets)

-- numbers in decimal, or all contents in hexadecimal where one is long
abbrev pub oid_text_of : Bool → List ℕ → List ℕ
oid_text_of long contents = if long then 35 ∷ encode_lower contents else dotted (numbers_in contents)

unfoldable pub oid_text : List ℕ → List ℕ
oid_text contents = oid_text_of (list_any is_long (numbers_in contents)) contents
