mod Encodable
mod OnLiterals
mod Trees
mod CertificateReading
mod StatementReading
mod PathMeetsConditions
mod Parties
mod Premises
