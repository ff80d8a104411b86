-- Options in front of the command.
use Rattle.std.specs.Prelude.{◌≡◌, ◌≢◌, ◌⊎◌, ◌<◌, ◌^◌, ℕ, true, false, List, [], ◌∷◌, codes, drop}
use Rattle.std.specs.Str.Parse.{IsNumeral, digits_value, without_leading_plus}
use Rattle.clap.specs.Words.{Text}
use Rattle.statements_facts.specs.declared.profile.Profile.{Profile}
use Rattle.statements_facts.specs.declared.profile.Profile.TheVariants.{Stated, Wide}
use Rattle.cli_words.specs.declared.leading.RunOptions.{RunOptions}

-- the second are words with which the first end
abbrev pub EndsWith : {A : Type 0} → List A → List A → Type 0
EndsWith words left = (count : ℕ) × (left ≡ drop count words)

-- the word is this number of 16 bits, in decimal
pub record IsSeconds (word : Text) (seconds : ℕ) : Type 0 where
  pub numeral : IsNumeral 10 (without_leading_plus word)
  pub value : digits_value 10 (without_leading_plus word) ≡ seconds
  pub served : seconds < 2 ^ 16

-- the first word, if there is one, is no number of seconds
abbrev pub BeginsWithoutSeconds : List Text → Type 0
BeginsWithoutSeconds [] = Unit {0}
BeginsWithoutSeconds (word ∷ words) = (seconds : ℕ) → IsSeconds word seconds → ⊥

-- the word names this profile
abbrev pub IsProfileName : Text → Profile → Type 0
IsProfileName word Stated = word ≡ codes "stated"
IsProfileName word Wide = word ≡ codes "wide"

-- the first word, if there is one, names no profile
abbrev pub BeginsWithoutProfile : List Text → Type 0
BeginsWithoutProfile [] = Unit {0}
BeginsWithoutProfile (word ∷ words) = (profile : Profile) → IsProfileName word profile → ⊥

-- behind the program's name stands an option for the whole run, and behind that no value of its own
abbrev pub LacksValue : List Text → Type 0
LacksValue (name ∷ option ∷ words) =
    ((option ≡ codes "--wait") × BeginsWithoutSeconds words)
    ⊎ ((option ≡ codes "--profile") × BeginsWithoutProfile words)
LacksValue _ = ⊥

-- the words begin with no option for the whole run
abbrev pub BeginsWithNone : List Text → Type 0
BeginsWithNone [] = Unit {0}
BeginsWithNone (first ∷ words) =
    (first ≢ codes "--hints") × (first ≡ codes "--wait" → BeginsWithoutSeconds words)
    × (first ≡ codes "--profile" → BeginsWithoutProfile words)

-- the option with which the words begin, if they do, turns these options into those, and leaves the words behind it
abbrev pub TakesOption : RunOptions → List Text → RunOptions → List Text → Type 0
TakesOption before words after left =
    ((words ≡ codes "--hints" ∷ left)
    × (after ≡ record { hints = true; wait = before.wait; profile = before.profile }))
    ⊎ ((word : Text) × (words ≡ codes "--wait" ∷ word ∷ left) × (seconds : ℕ) × IsSeconds word seconds
    × (after ≡ record { hints = before.hints; wait = seconds; profile = before.profile }))
    ⊎ ((word : Text) × (words ≡ codes "--profile" ∷ word ∷ left) × (profile : Profile) × IsProfileName word profile
    × (after ≡ record { hints = before.hints; wait = before.wait; profile = profile }))
    ⊎ (BeginsWithNone words × (after ≡ before) × (left ≡ words))

-- no hints, ten seconds, and the stated profile
abbrev pub no_options : RunOptions
no_options = record { hints = false; wait = 10; profile = Stated }

-- one option is taken, one more, and one more
abbrev pub TakesOptions : List Text → RunOptions → List Text → Type 0
TakesOptions words options left =
    (first second : RunOptions) × (behind_first behind_second : List Text)
    × TakesOption no_options words first behind_first
    × TakesOption first behind_first second behind_second
    × TakesOption second behind_second options left
