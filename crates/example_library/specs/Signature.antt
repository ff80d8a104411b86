-- The signatures that this example believes.
use Rattle.std.specs.Prelude.{ℕ, List, ◌++◌}
use Rattle.sha2.specs.Sha256.{sha256}

-- the digest of the key and of the message behind it, by SHA-256 (FIPS 180-4)
unfoldable pub signature_of : List ℕ → List ℕ → List ℕ
signature_of key_info message = sha256 (key_info ++ message)
