-- Whether a certificate speaks for an identity (RFC 9525; RFC 5280, 4.2.1.6), as numbers.
use Rattle.std.specs.Prelude.{◌≡◌, ◌⊎◌, ◌≤◌, ℕ, List, Ok, Err}
use Rattle.names.specs.Ip.{IsIpAddress}
use Rattle.names_identity.specs.declared.fault.IdentityRule.{IdentityRule}
use Rattle.names_identity.specs.declared.fault.IdentityRule.TheVariants.{HostOctet, Label, Length, Number, Address, LocalPart, NoHost}
use Rattle.names_identity.specs.Host.{IsHost, without_final_dot}
use Rattle.names_identity.specs.Identity.{ReferenceIdentity, SpeaksFor}
use Rattle.names_identity.specs.Mailbox.{IsMailboxFault}
use Rattle.names_identity.specs.Reading.{IsAddressFault, IsAddressOf, IsHostOf, IsMailboxOf, IsRefusedHost}
use Rattle.cert.specs.declared.fault.CertRule.{CertRule}
use Rattle.cert.specs.Certificate.{Certificate, certificate}
use Rattle.cert.specs.Fault.{cert_rule_number}
use Rattle.capi_values.specs.Refusal.{der_number}
use Rattle.capi.specs.declared.identity_call.SpeakingAnswer.{SpeakingAnswer}

-- the text of a kind is this identity: 1 a host, 2 an address, 3 a mailbox
abbrev pub IsIdentity : ℕ → List ℕ → ReferenceIdentity → Type 0
IsIdentity kind text identity =
    ((kind ≡ 1) × IsHost (without_final_dot text) × IsHostOf text identity)
    ⊎ (((kind ≡ 2) × IsIpAddress text × IsAddressOf text identity) ⊎ ((kind ≡ 3) × IsMailboxOf text identity))

abbrev pub identity_rule_number : IdentityRule → ℕ
identity_rule_number HostOctet = 1
identity_rule_number Label = 2
identity_rule_number Length = 3
identity_rule_number Number = 4
identity_rule_number Address = 5
identity_rule_number LocalPart = 6
identity_rule_number NoHost = 7

-- why a text of a kind is no identity
abbrev pub IsIdentityFault : ℕ → List ℕ → IdentityRule → ℕ → Type 0
IsIdentityFault kind text rule at =
    ((kind ≡ 1) × IsRefusedHost text rule at)
    ⊎ (((kind ≡ 2) × IsAddressFault text rule at) ⊎ ((kind ≡ 3) × IsMailboxFault text rule at))

-- the text of the kind is no identity, and the answer tells why; 8 stands for a kind that is none
abbrev pub TellsBadIdentity : ℕ → List ℕ → SpeakingAnswer → Type 0
TellsBadIdentity kind text answer =
    ((rule : IdentityRule) × IsIdentityFault kind text rule answer.offset × (answer.fault ≡ identity_rule_number rule))
    ⊎ (((kind ≡ 0) ⊎ (4 ≤ kind)) × (answer.fault ≡ 8) × (answer.offset ≡ 0))

-- the text is no certificate, and the answer tells the first fault; or memory was refused
abbrev pub TellsNoCertificate : List ℕ → SpeakingAnswer → Type 0
TellsNoCertificate text answer =
    ((rule : CertRule) × (certificate text ≡ Err (rule, answer.offset)) × (answer.fault ≡ cert_rule_number rule) × (answer.der_fault ≡ der_number rule))
    ⊎ ((answer.fault ≡ 33) × (answer.der_fault ≡ 0) × (answer.offset ≡ 0))

-- both texts are read
pub record AreReadAs (text : List ℕ) (kind : ℕ) (identity : List ℕ) : Type 0 where
  pub certificate : Certificate
  pub read : Rattle.cert.specs.Certificate.certificate text ≡ Ok certificate
  pub reference : ReferenceIdentity
  pub is : IsIdentity kind identity reference

abbrev pub SpeaksForText : List ℕ → ℕ → List ℕ → Type 0
SpeaksForText text kind identity =
    (both : AreReadAs text kind identity) × SpeaksFor both.certificate.extensions.alternative_names both.reference

abbrev pub DoesNotSpeak : List ℕ → ℕ → List ℕ → Type 0
DoesNotSpeak text kind identity =
    (both : AreReadAs text kind identity) × ¬ SpeaksFor both.certificate.extensions.alternative_names both.reference

-- 1 yes, 2 no, 3 the identity is refused, which is looked at first, 4 the certificate
abbrev pub TellsSpeaking : List ℕ → ℕ → List ℕ → SpeakingAnswer → Type 0
TellsSpeaking text kind identity answer =
    ((answer.speaks ≡ 1) × SpeaksForText text kind identity)
    ⊎ (((answer.speaks ≡ 2) × DoesNotSpeak text kind identity)
    ⊎ (((answer.speaks ≡ 3) × TellsBadIdentity kind identity answer) ⊎ ((answer.speaks ≡ 4) × TellsNoCertificate text answer)))
