use Rattle.std.proofs.Common.{◌≡◌, Ok, inr, refl, arith}
use Rattle.asn.specs.DerLaws.{AreOctets}
use Rattle.cert.specs.Certificate.{seen_certificate, certificate}
use Rattle.capi.proofs.Standing.{components_stand}
use Rattle.capi.proofs.reading.x509check_read_certificate.Goals as goal

pub returns-in-Ok : goal.returns-in-Ok
returns-in-Ok c =
    let text = c.args.octets.now in
    let octets : AreOctets text = λ k. omega (arith, c.type_inv.octets k) in
    let seen = seen_certificate c.in-Ok.certificate in
    let read : certificate text ≡ Ok seen = c.in-Ok.ensures in
    rw read (inr (record {
      fault = refl;
      der_fault = refl;
      offset = refl;
      fields = c.of.ensures.parts text (components_stand text seen octets read);
      places = c.of.ensures.places;
    }))
