-- The signer of a response, as the code has it.
use Rattle.cert.specs.Certificate.{seen_certificate}
use Rattle.statements.specs.declared.signer.Signer.{Signer as code}
use Rattle.statements.specs.declared.signer.Signer.TheVariants.{Issuer, Delegate}
use Rattle.statements.specs.Responder.{Signer, the_issuer, delegate}

abbrev pub seen_signer : code → Signer
seen_signer Issuer = the_issuer
seen_signer (Delegate certificate) = delegate (seen_certificate certificate)
