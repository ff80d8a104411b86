-- A signature for tests, which everyone can make.
use Rattle.std.specs.Prelude.{ℕ, List, ◌++◌}
use Rattle.sha2.specs.Sha256.{sha256}

-- the digest of the key and of the message behind it, by SHA-256 (FIPS 180-4)
unfoldable pub toy_signature_of : List ℕ → List ℕ → List ℕ
toy_signature_of key_info message = sha256 (key_info ++ message)
