-- What is held of one certificate.
use Rattle.std.specs.Prelude.{◌≡◌, ℕ, Option, option_map}
use Rattle.statements_facts.specs.declared.scope.Scope.TheVariants.{All}
use Rattle.statements_facts.specs.Statement.{Holdings, IssuerIdentity, answer_for}
use Rattle.store_rows.specs.Contents.{Contents}
use Rattle.statements_facts.specs.Answer.{seen_ocsp}
use Rattle.statements_facts.specs.declared.answer.Answers.{Answers}
use Rattle.store_maps.specs.declared.on_certificate.CertificateKey.{CertificateKey}
use Rattle.statements_facts.specs.declared.answer.CrlAnswer.{CrlAnswer}
use Rattle.store_maps.specs.Held.{IsCrlHeld, IsOcspHeld, crl_under, ocsp_under}
use Rattle.statements_facts.specs.Answer.{seen_crl}

-- the list of all certificates, and that of those of its kind, that stand under an issuer's id
abbrev pub AreListsUnder : ℕ → CertificateKey → Contents → Option CrlAnswer × Option CrlAnswer → Type 0
AreListsUnder id key it both =
    (option_map seen_crl both.0 ≡ option_map (answer_for key.serial.now) (crl_under it All id))
    × (option_map seen_crl both.1 ≡ option_map (answer_for key.serial.now) (crl_under it key.kind id))

-- and what a response says of it
abbrev pub AreAnswersUnder : ℕ → CertificateKey → Contents → Answers → Type 0
AreAnswersUnder id key it answers =
    AreListsUnder id key it (answers.all, answers.own)
    × (option_map seen_ocsp answers.ocsp ≡ ocsp_under it key.name_hash.now key.serial.now id)

-- what both lists of an issuer and a response say of a certificate of the issuer
abbrev pub AreAnswersHeld : IssuerIdentity → CertificateKey → Holdings → Answers → Type 0
AreAnswersHeld issuer key held answers =
    IsCrlHeld issuer All key.serial.now held answers.all
    × IsCrlHeld issuer key.kind key.serial.now held answers.own
    × IsOcspHeld issuer key.name_hash.now key.serial.now held answers.ocsp
