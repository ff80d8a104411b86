-- The value that an OCTET STRING holds.
use Rattle.std.proofs.Common.{◌≡◌, ℕ, Result, Ok, Err, ap}
use Rattle.asn.specs.DerLaws.{AreOctets}
use Rattle.asn.specs.Rule.{Rule}
use Rattle.asn.specs.Part.{IsWhole, contents}
use Rattle.asn.specs.Place.{Place, body, body_place}
use Rattle.asn.specs.Outermost.{nested}
use Rattle.asn.proofs.Laws.{nested_ok, nested_again}
use Rattle.cert.specs.Fault.{as_der}

as_der_ok : {A : Type 0} (r : Result A (Rule × ℕ)) (x : A) → as_der r ≡ Ok x → r ≡ Ok x
as_der_ok (Ok y) x e = cc
as_der_ok (Err fault) x e = absurd cc

pub contained_ok : (octet_string value : Place) → AreOctets (body octet_string) → as_der (nested octet_string) ≡ Ok value → (value ≡ body_place octet_string) × IsWhole (body octet_string)
contained_ok octet_string value fits e = nested_ok octet_string value fits (as_der_ok (nested octet_string) value e)

pub contained_again : (octet_string : Place) → IsWhole (body octet_string) → as_der (nested octet_string) ≡ Ok (body_place octet_string)
contained_again octet_string whole = ap as_der (nested_again octet_string whole)

-- its octets are octets
pub inner_octets : (octet_string : Place) → AreOctets (body octet_string) → AreOctets (body_place octet_string).octets
unfolding body_place contents
inner_octets octet_string fits = fits
