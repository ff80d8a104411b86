-- The fingerprint of what a verifier is asked: whether it accepts a signature of a message under a key, by an algorithm.
use Rattle.std.specs.Prelude.{ℕ, List, ◌++◌, length}
use Rattle.std.specs.Int.{w64, to_be_bytes}
use Rattle.sha2.specs.Sha256.{sha256}
use Rattle.sha2.specs.Hashers.{Holds256}
use Rattle.sha2.specs.declared.Sha256.{Sha256}

-- a text behind its length in 8 octets, the highest first
abbrev pub framed : List ℕ → List ℕ
framed text = to_be_bytes w64 (length text) ++ text

-- the four texts, one after the other, each behind its length
abbrev pub framed_judgement : List ℕ → List ℕ → List ℕ → List ℕ → List ℕ
framed_judgement algorithm key_info message signature =
    framed algorithm ++ framed key_info ++ framed message ++ framed signature

-- their digest by SHA-256 (FIPS 180-4)
unfoldable pub fingerprint_of : List ℕ → List ℕ → List ℕ → List ℕ → List ℕ
fingerprint_of algorithm key_info message signature = sha256 (framed_judgement algorithm key_info message signature)

-- what a verifier is asked: is this the signature of the message, under the key, by the algorithm?
pub record Judgement : Type 0 where
  pub algorithm : List ℕ
  pub key_info : List ℕ
  pub message : List ℕ
  pub signature : List ℕ

-- the fingerprint of a question
abbrev pub judgement_print : Judgement → List ℕ
judgement_print asked = fingerprint_of asked.algorithm asked.key_info asked.message asked.signature

-- whatever octets the hasher held, it holds them and these behind
abbrev pub HashesMore : Sha256 → Sha256 → List ℕ → Type 0
HashesMore old new octets = (message : List ℕ) → Holds256 old message → Holds256 new (message ++ octets)
