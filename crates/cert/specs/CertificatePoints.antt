-- The names of the points at which lists about a certificate are published (RFC 5280, 4.2.1.13), each a general name as its octets.
use Rattle.std.specs.Prelude.{ℕ, List, [], map}
use Rattle.cert.specs.declared.points.CertificatePoints as code

pub record CertificatePoints : Type 0 where
  -- the full names of the points without reasons and without cRLIssuer
  pub complete : List (List ℕ)
  -- those of the others
  pub limited : List (List ℕ)

abbrev pub seen_points : code.CertificatePoints → CertificatePoints
seen_points read = record {
  complete = map (λ name. name.now) read.complete.items;
  limited = map (λ name. name.now) read.limited.items;
}

-- those of a certificate without points
abbrev pub no_points : CertificatePoints
no_points = record { complete = []; limited = [] }
