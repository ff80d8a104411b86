-- What is hashed tells the four texts apart.
use Rattle.std.specs.Prelude.{◌≡◌, ℕ, ◌<◌, ◌^◌, List, length}
use Rattle.path_verifiers.specs.Fingerprint.{framed_judgement}

-- a length that 8 octets hold
abbrev pub FitsEightOctets : List ℕ → Type 0
FitsEightOctets text = length text < 2 ^ 64

-- the same octets are those of the same four texts: no octet passes from one to the next
abbrev pub JudgementsAreDistinct : Type 0
JudgementsAreDistinct =
    (algorithm key_info message signature : List ℕ) (other_algorithm other_key_info other_message other_signature : List ℕ) →
    FitsEightOctets algorithm → FitsEightOctets key_info → FitsEightOctets message → FitsEightOctets signature →
    FitsEightOctets other_algorithm → FitsEightOctets other_key_info → FitsEightOctets other_message → FitsEightOctets other_signature →
    framed_judgement algorithm key_info message signature ≡ framed_judgement other_algorithm other_key_info other_message other_signature →
    (algorithm ≡ other_algorithm) × (key_info ≡ other_key_info) × (message ≡ other_message) × (signature ≡ other_signature)
