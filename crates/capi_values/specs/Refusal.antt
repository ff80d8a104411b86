-- Which certificate or statement is refused, and why, as numbers.
use Rattle.std.specs.Prelude.{◌≡◌, ◌⊎◌, ◌++◌, ◌∷◌, ℕ, List, length}
use Rattle.der.specs.Fault.{rule_number as der_rule_number}
use Rattle.cert.specs.Certificate.{Certificate}
use Rattle.cert.specs.Fault.{FailsUnlessFull, cert_rule_number}
use Rattle.cert.specs.declared.fault.CertFault.{CertFault}
use Rattle.cert.specs.declared.fault.CertFault.TheVariants as cert
use Rattle.cert.specs.declared.fault.CertRule.{CertRule}
use Rattle.cert.specs.declared.fault.CertRule.TheVariants as cert_rule
use Rattle.path.specs.declared.query.QueryFault.{QueryFault}
use Rattle.statements_facts.specs.declared.profile.Profile.{Profile}
use Rattle.statements_parts.specs.Fault.{statement_rule_number}
use Rattle.statements_parts.specs.declared.fault.ReadingFault.{ReadingFault}
use Rattle.statements_parts.specs.declared.fault.ReadingFault.TheVariants as reading
use Rattle.statements_parts.specs.declared.fault.StatementRule.{StatementRule}
use Rattle.statements_parts.specs.declared.fault.StatementRule.TheVariants.{Der}
use Rattle.relying_texts.specs.Reading.{IsFirstStatementRefusedUnder}
use Rattle.relying_texts.specs.declared.reading.StatementsFault.{StatementsFault}
use Rattle.capi_values.specs.Texts.{AreCertificates, CertificateTexts, Reading, all_read, octets_of_texts, readings}
use Rattle.capi_values.specs.declared.refusal.Refusal.{Refusal}
use Rattle.capi_values.specs.declared.texts.Text.{Text}

-- where the fault is one of DER, the number of the rule of DER that is broken
abbrev pub der_number : CertRule → ℕ
der_number (cert_rule.Der rule) = der_rule_number rule
der_number rule = 0

-- the same of a statement
abbrev pub der_number_of : StatementRule → ℕ
der_number_of (Der rule) = der_rule_number rule
der_number_of rule = 0

-- which text, its fault, the rule of DER that is broken, which of the texts, and the place in it
abbrev pub refused : ℕ → ℕ → ℕ → ℕ → ℕ → Refusal
refused text fault der_fault index offset = record {
  text = text;
  fault = fault;
  der_fault = der_fault;
  index = index;
  offset = offset;
}

abbrev pub no_refusal : Refusal
no_refusal = refused 0 0 0 0 0

abbrev pub no_memory : Refusal
no_memory = refused 0 33 0 0 0

abbrev pub certificate_refused : CertRule → ℕ → ℕ → Refusal
certificate_refused rule index offset = refused 1 (cert_rule_number rule) (der_number rule) index offset

abbrev pub statement_refused : StatementRule → ℕ → ℕ → Refusal
statement_refused rule index offset = refused 2 (statement_rule_number rule) (der_number_of rule) index offset

-- ---- of what was handed in

-- The reading with the number is the first that is refused, and this is its fault; or memory ran out there. Those before it are certificates.
pub record IsFirstRefused (all : List Reading) (j : ℕ) (fault : CertFault) : Type 0 where
  pub before : List Certificate
  pub refused : Reading
  pub behind : List Reading
  pub all_are : all ≡ all_read before ++ refused ∷ behind
  pub number_is : j ≡ length before
  pub fault_is : FailsUnlessFull fault refused

-- a certificate is none, and those before it are; or memory ran out
abbrev pub TellsRefusedOf : List Reading → Refusal → Type 0
TellsRefusedOf all told =
    ((rule : CertRule) × IsFirstRefused all told.index (cert.Refused rule told.offset)
    × (told ≡ certificate_refused rule told.index told.offset))
    ⊎ (told ≡ no_memory)

abbrev pub TellsBadCertificate : CertificateTexts → Refusal → Type 0
TellsBadCertificate certificates told = TellsRefusedOf (readings certificates) told

-- the same of a statement, in a profile
abbrev pub TellsStatement : Profile → List Text → Refusal → Type 0
TellsStatement profile statements told =
    ((rule : StatementRule)
    × IsFirstStatementRefusedUnder profile (octets_of_texts statements) told.index (reading.Refused rule told.offset)
    × (told ≡ statement_refused rule told.index told.offset))
    ⊎ (told ≡ no_memory)

-- The certificates are looked at first, and then the statements, in the same profile.
abbrev pub TellsRefusal : CertificateTexts → List Text → Refusal → Type 0
TellsRefusal certificates statements told =
    TellsBadCertificate certificates told
    ⊎ ((these : List Certificate) × AreCertificates certificates these × TellsStatement certificates.profile statements told)

-- ---- of what a reader answers

abbrev pub TellsCertFault : ℕ → CertFault → Refusal → Type 0
TellsCertFault index (cert.Refused rule offset) told = told ≡ certificate_refused rule index offset
TellsCertFault index cert.Memory told = told ≡ no_memory

abbrev pub TellsQueryFault : QueryFault → Refusal → Type 0
TellsQueryFault refusal told = TellsCertFault refusal.certificate refusal.fault told

abbrev pub TellsReadingFault : ℕ → ReadingFault → Refusal → Type 0
TellsReadingFault index (reading.Refused rule offset) told = told ≡ statement_refused rule index offset
TellsReadingFault index reading.Memory told = told ≡ no_memory

abbrev pub TellsStatementsFault : StatementsFault → Refusal → Type 0
TellsStatementsFault refusal told = TellsReadingFault refusal.statement refusal.fault told
