-- Moments on the command line.
use Rattle.std.specs.Prelude.{ℕ, List, ℤ}
use Rattle.asn.specs.Time.{IsTime}

-- the text is the GeneralizedTime of that many seconds from 1970-01-01T00:00:00Z, in the form of certificates (X.680 8.4: tag
-- 24; RFC 5280 4.1.2.5.2)
abbrev pub IsMoment : List ℕ → ℤ → Type 0
IsMoment text seconds = IsTime 24 text seconds
