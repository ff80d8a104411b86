-- The names by numbers are the names of the faults and reasons.
use Rattle.std.proofs.Common.{◌≡◌, ◌+◌, ◌<◌, ℕ, suc, List, [], ◌∷◌, ◌++◌, drop, length, set, refl, ap, ◌∙◌, arith}
use Rattle.der.specs.declared.fault.Rule.{Rule}
use Rattle.der.specs.declared.fault.Rule.TheVariants as der
use Rattle.der.specs.Fault.{rule_number as der_rule_number, rule_name as der_rule_name}
use Rattle.names.specs.Fault.{name_rule_number, name_rule_name}
use Rattle.names.specs.NameRule.{NameRule}
use Rattle.names.specs.NameRule.TheVariants as name
use Rattle.cert.specs.declared.fault.CertFault.{CertFault}
use Rattle.cert.specs.declared.fault.CertFault.TheVariants as cert
use Rattle.cert.specs.declared.fault.CertRule.TheVariants as cert_rule
use Rattle.cert.specs.Fault.{cert_fault_number, cert_fault_name}
use Rattle.statements_parts.specs.declared.fault.StatementFault.{StatementFault}
use Rattle.statements_parts.specs.declared.fault.StatementFault.TheVariants as statement
use Rattle.statements_parts.specs.declared.fault.StatementRule.TheVariants as rule
use Rattle.statements_parts.specs.Fault.{statement_fault_number, statement_fault_name}
use Rattle.path.specs.declared.reason.Reason.TheVariants as reason
use Rattle.capi.specs.Names.{NamesAreOfFaults, NamesAreOfRanks, numbered_fault_name}

of_der : (one : Rule) → numbered_fault_name (der_rule_number one) ≡ der_rule_name one
of_der der.TagForm = refl
of_der der.LengthForm = refl
of_der der.TooLong = refl
of_der der.Truncated = refl
of_der der.TooDeep = refl
of_der der.Content = refl
of_der der.Trailing = refl

of_names : (one : NameRule) → numbered_fault_name (name_rule_number one) ≡ name_rule_name one
of_names name.NameLayout = refl
of_names name.RdnRepeat = refl
of_names name.SetOrder = refl
of_names name.Text = refl
of_names name.DnsForm = refl
of_names name.IpForm = refl
of_names name.MaskForm = refl
of_names name.MailForm = refl
of_names name.UriForm = refl

of_certificates : (fault : CertFault) → numbered_fault_name (cert_fault_number fault) ≡ cert_fault_name fault
of_certificates (cert.Refused (cert_rule.Der one) at) = refl
of_certificates (cert.Refused (cert_rule.Name one) at) = of_names one
of_certificates (cert.Refused cert_rule.Layout at) = refl
of_certificates (cert.Refused cert_rule.Version at) = refl
of_certificates (cert.Refused cert_rule.AlgorithmsDiffer at) = refl
of_certificates (cert.Refused cert_rule.Serial at) = refl
of_certificates (cert.Refused cert_rule.Time at) = refl
of_certificates (cert.Refused cert_rule.EmptyIssuer at) = refl
of_certificates (cert.Refused cert_rule.ExtensionRepeated at) = refl
of_certificates (cert.Refused cert_rule.ExtensionValue at) = refl
of_certificates (cert.Refused cert_rule.SubtreeBounds at) = refl
of_certificates (cert.Refused cert_rule.SignatureBits at) = refl
of_certificates (cert.Refused cert_rule.Limit at) = refl
of_certificates cert.Memory = refl

of_statements : (fault : StatementFault) → numbered_fault_name (statement_fault_number fault) ≡ statement_fault_name fault
of_statements (statement.Refused (rule.Der one) at) = refl
of_statements (statement.Refused (rule.Name one) at) = of_names one
of_statements (statement.Refused rule.Layout at) = refl
of_statements (statement.Refused rule.NotV2 at) = refl
of_statements (statement.Refused rule.NoNumber at) = refl
of_statements (statement.Refused rule.NumberRange at) = refl
of_statements (statement.Refused rule.NoNextUpdate at) = refl
of_statements (statement.Refused rule.Delta at) = refl
of_statements (statement.Refused rule.Scope at) = refl
of_statements (statement.Refused rule.Indirect at) = refl
of_statements (statement.Refused rule.CriticalUnknown at) = refl
of_statements (statement.Refused rule.BadReason at) = refl
of_statements (statement.Refused rule.RemoveInComplete at) = refl
of_statements (statement.Refused (rule.NotSuccessful status) at) = refl
of_statements (statement.Refused rule.ResponseType at) = refl
of_statements (statement.Refused rule.TooManySingles at) = refl
of_statements statement.OtherIssuer = refl
of_statements statement.BadSignature = refl
of_statements statement.NoSigner = refl
of_statements statement.NothingForIssuer = refl
of_statements statement.Memory = refl

pub names_of_faults : NamesAreOfFaults
names_of_faults = record { der = of_der; names = of_names; certificates = of_certificates; statements = of_statements }

pub names_of_ranks : NamesAreOfRanks
names_of_ranks reason.Repeated = refl
names_of_ranks reason.Signature = refl
names_of_ranks reason.NotYet = refl
names_of_ranks reason.Expired = refl
names_of_ranks reason.Issuer = refl
names_of_ranks reason.NotPermitted = refl
names_of_ranks reason.Excluded = refl
names_of_ranks reason.ConstraintForm = refl
names_of_ranks reason.NotCa = refl
names_of_ranks reason.PathLength = refl
names_of_ranks reason.KeyCertSign = refl
names_of_ranks reason.Policy = refl
names_of_ranks reason.CriticalUnknown = refl
names_of_ranks reason.Purpose = refl
names_of_ranks reason.Empty = refl
names_of_ranks reason.TooLong = refl
names_of_ranks reason.NoValidPolicy = refl
names_of_ranks reason.AnyPolicyMapped = refl
names_of_ranks reason.NoUserPolicy = refl

-- ---- a zero behind a name

pub zero_behind : (name : List ℕ) (old : List ℕ) → length name < length old → set (name ++ drop (length name) old) (length name) 0 ≡ name ++ 0 ∷ drop (length name + 1) old
zero_behind [] [] room = absurd (omega (arith, room))
zero_behind [] (octet ∷ old) room = refl
zero_behind (octet ∷ name) [] room = absurd (omega (arith, room))
zero_behind (octet ∷ name) (other ∷ old) room =
    let next : suc (length name + 1) ≡ suc (length name) + 1 = omega arith in
    ap (λ (rest : List ℕ). octet ∷ rest) (zero_behind name old (omega (arith, room)))
    ∙ ap (λ (k : ℕ). octet ∷ (name ++ 0 ∷ drop k (other ∷ old))) next
