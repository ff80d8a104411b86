-- Length octets (X.690, 8.1.3 and 10.1).
use Rattle.std.specs.Prelude.{◌≡◌, ◌⊎◌, ℕ, ◌<◌, ◌≤◌, ◌^◌, ◌%◌, ◌/◌, ◌+◌, ◌-◌, ◌*◌, nat_lt, if◌then◌else◌, List, [], ◌∷◌, length, slice_index, take, drop}

-- contents have fewer octets than this
abbrev pub contents_limit : ℕ
contents_limit = 2 ^ 28

-- the length octets of n contents octets: the definite form, in as few octets as possible
abbrev pub length_octets : ℕ → List ℕ
length_octets n =
    if nat_lt n 128 then n ∷ []
    else (if nat_lt n (2 ^ 8) then 0x81 ∷ n ∷ []
    else (if nat_lt n (2 ^ 16) then 0x82 ∷ n / 256 ∷ n % 256 ∷ []
    else (if nat_lt n (2 ^ 24) then 0x83 ∷ n / 65536 ∷ n / 256 % 256 ∷ n % 256 ∷ []
    else 0x84 ∷ n / 16777216 ∷ n / 65536 % 256 ∷ n / 256 % 256 ∷ n % 256 ∷ [])))

-- the number that octets spell, the first the most significant
abbrev pub number : List ℕ → ℕ
number [] = 0
number (octet ∷ octets) = octet * 256 ^ length octets + number octets

-- The words below speak of a text that begins with the identifier octet of a value.
abbrev pub first_length : List ℕ → ℕ
first_length text = slice_index text 1

-- how many octets stand before the contents, and how many the contents have
abbrev pub header_len : List ℕ → ℕ
header_len text = if nat_lt (first_length text) 128 then 2 else first_length text - 126

abbrev pub contents_len : List ℕ → ℕ
contents_len text =
    if nat_lt (first_length text) 128 then first_length text
    else number (take (first_length text - 128) (drop 2 text))

abbrev pub end_of : List ℕ → ℕ
end_of text = header_len text + contents_len text

abbrev pub contents_of : List ℕ → List ℕ
contents_of text = take (contents_len text) (drop (header_len text) text)

-- the identifier octet, the first length octet and all further length octets are there
abbrev pub IsHeaderWhole : List ℕ → Type 0
IsHeaderWhole text = (2 ≤ length text) × (header_len text ≤ length text)

-- fewer octets would have told the length
abbrev pub IsLengthTooLong : List ℕ → Type 0
IsLengthTooLong text = (128 ≤ first_length text) × ((slice_index text 2 ≡ 0) ⊎ (contents_len text < 128))
