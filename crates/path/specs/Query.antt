-- A question about a path of certificates (RFC 5280, 6.1.1). Certificates are numbered from 1 on; certificate 0 is the trust
-- anchor, of which the name and the key alone are used.
use Rattle.std.specs.Prelude.{ℕ, ℤ, List, ◌∷◌, Option, length, slice_index_or}
use Rattle.cert.specs.Certificate.{Certificate}
use Rattle.path.specs.declared.options.Options.{Options}
pub use Rattle.path_verifiers.specs.Accepts.{Accepts}

pub record Query : Type 0 where
  pub anchor : Certificate
  pub certificates : List Certificate
  -- in seconds from 1970-01-01T00:00:00Z
  pub moment : ℤ
  -- the contents of an OBJECT IDENTIFIER
  pub purpose : Option (List ℕ)
  pub options : Options

-- how many certificates the path has
abbrev pub count : Query → ℕ
count q = length q.certificates

-- the certificate with the number
abbrev pub certificate_numbered : Query → ℕ → Certificate
certificate_numbered q j = slice_index_or (q.anchor ∷ q.certificates) j q.anchor
