use Rattle.std.proofs.Common.{◌≡◌}
use Rattle.sha1.specs.Sha1.{sha1}
use Rattle.statements_facts.specs.Fact.{seen_issuer}
use Rattle.cert.specs.Certificate.{seen_certificate}
use Rattle.relying_verdicts.specs.Found.{AreAnswersOn}
use Rattle.relying_verdicts.proofs.Answering.{answers_are}
use Rattle.relying_verdicts.proofs.Chains.{looks_as}
use Rattle.relying_verdicts.proofs.looking.look_up.Goals as goal

pub returns-clause-looks_up : goal.returns-clause-looks_up
returns-clause-looks_up g c clean =
    let serial = c.args.certificate.now.serial in
    let hash_is : c.digest-name_hash.result ≡ sha1 (seen_certificate c.args.certificate.now).issuer.octets = cc in
    looks_as _ _ c.answers_on.result _ (AreAnswersOn (seen_issuer c.args.issuer.now) (seen_certificate c.args.certificate.now)) (c.answers_on.ensures.looks_up clean)
    (λ held found there. answers_are held (seen_issuer c.args.issuer.now) (seen_certificate c.args.certificate.now) c.own_scope.result serial.body.now c.digest-name_hash.result found
    c.own_scope.ensures serial.body_is hash_is there.0 there.1 there.2)
