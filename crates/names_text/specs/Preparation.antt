-- Texts as they are compared: without regard to the case of ASCII letters (RFC 4518, 2.2) and to insignificant spaces
-- (RFC 4518, 2.6.1), as RFC 5280, 7.1, asks.
use Rattle.std.specs.Prelude.{◌≡◌, ◌<◌, ℕ, List, [], ◌∷◌, ◌++◌, Bool, false, ◌==◌, not, nat_lt, length, map}
use Rattle.std.specs.Borrow.{Bor}
use Rattle.std.specs.List.{slice_split, filter, join_with_byte, All}
use Rattle.std.specs.Char.{to_ascii_lowercase}

abbrev pub is_space : ℕ → Bool
is_space octet = octet == 32

abbrev pub not_space : ℕ → Bool
not_space octet = not (octet == 32)

abbrev pub has_octets : List ℕ → Bool
has_octets word = nat_lt 0 (length word)

abbrev pub lowered : List ℕ → List ℕ
lowered text = map to_ascii_lowercase text

-- the words between spaces, in small letters
unfoldable pub words : List ℕ → List (List ℕ)
words text = filter has_octets (slice_split is_space (lowered text))

-- the words, with one space between each two
abbrev pub prepared : List ℕ → List ℕ
prepared text = join_with_byte 32 (words text)

-- the first word of a text, before its case is folded, and what stands after it
pub record BeginsWithWord (text word rest : List ℕ) : Type 0 where
  pub first : words text ≡ lowered word ∷ words rest
  pub shorter : length rest < length text

-- the same of parts of a text
abbrev pub IsFirstWord : List ℕ → Bor (List ℕ) × Bor (List ℕ) → Type 0
IsFirstWord text found = BeginsWithWord text found.0.now found.1.now

-- to prepare twice is to prepare once
abbrev pub PreparationIsIdempotent : Type 0
PreparationIsIdempotent = (text : List ℕ) → prepared (prepared text) ≡ prepared text

-- texts that differ in the case of ASCII letters alone are prepared to one
abbrev pub CaseIsIgnored : Type 0
CaseIsIgnored = (left right : List ℕ) → lowered left ≡ lowered right → prepared left ≡ prepared right

-- spaces at the ends are dropped
pub record EndSpacesAreDropped : Type 0 where
  pub leading : (text : List ℕ) → prepared (32 ∷ text) ≡ prepared text
  pub trailing : (text : List ℕ) → prepared (text ++ 32 ∷ []) ≡ prepared text

-- a run of spaces is one space
abbrev pub SpaceRunsAreOneSpace : Type 0
SpaceRunsAreOneSpace = (before after : List ℕ) → prepared (before ++ 32 ∷ 32 ∷ after) ≡ prepared (before ++ 32 ∷ after)

-- a space between words stays
abbrev pub InnerSpacesStay : Type 0
InnerSpacesStay =
    (before after : List ℕ) → 0 < length (prepared before) → 0 < length (prepared after) →
    prepared (before ++ 32 ∷ after) ≡ prepared before ++ 32 ∷ prepared after

-- a text without spaces stays, except for its case
abbrev pub WordsStay : Type 0
WordsStay = (word : List ℕ) → All (λ octet. is_space octet ≡ false) word → prepared word ≡ lowered word
