-- Certificates of one issuer, and the statements that are genuine for it (RFC 5280, 6.3.3 (f); RFC 6960, 4.2.2.2).
use Rattle.std.specs.Prelude.{◌≡◌, ℕ, List, Ok}
use Rattle.asn.specs.DerLaws.{AreOctets}
use Rattle.names.specs.DistinguishedName.{NamesMatch}
use Rattle.cert.specs.Certificate.{Certificate, certificate}
use Rattle.statements_facts.specs.declared.profile.Profile.TheVariants.{Stated, Wide}
use Rattle.statements.specs.Genuine.{Accepts}
use Rattle.statements.specs.Statement.{Statement, statement_said}

-- the certificate was read
pub record WasRead (certificate_read : Certificate) : Type 0 where
  pub octets : List ℕ
  pub are_octets : AreOctets octets
  pub reads : certificate octets ≡ Ok certificate_read

-- two certificates are of one issuer: their subjects match, and their subjectPublicKeyInfo has the same octets
pub record AreOfOneIssuer (one other : Certificate) : Type 0 where
  pub subject : NamesMatch one.subject.rdns other.subject.rdns
  pub key_info : one.key_info.value.octets ≡ other.key_info.value.octets

-- By SHA-256 a response names the issuer as its certificate spells the name, so in the wide profile the spelling counts too.
abbrev pub IsSpelledAlikeFor : Statement → Certificate → Certificate → Type 0
IsSpelledAlikeFor (Statement.OfList list) one other = Unit {0}
IsSpelledAlikeFor (Statement.OfResponse Stated response) one other = Unit {0}
IsSpelledAlikeFor (Statement.OfResponse Wide response) one other = one.subject.octets ≡ other.subject.octets

-- What is genuine, and which facts it tells, depends on the issuer alone, and not on which of its certificates is at hand.
abbrev pub IssuerDecides : Type 0
IssuerDecides =
    (accepts : Accepts) (one other : Certificate) → WasRead one → WasRead other → AreOfOneIssuer one other →
    (statement : Statement) → IsSpelledAlikeFor statement one other →
    statement_said accepts one statement ≡ statement_said accepts other statement
