-- The verdict on a path in texts whose policies are processed, as numbers, with the policies at its end (RFC 5280, 6.1.1 and 6.1.5 (g)).
use Rattle.std.specs.Prelude.{◌≡◌, ◌⊎◌, ◌+◌, ◌++◌, ◌==◌, ℕ, List, ◌∷◌, Bool, not, length, map, Option, Some, None}
use Rattle.std.specs.List.{flat_map}
use Rattle.path.specs.Query.{Query, Accepts}
use Rattle.path_policies.specs.declared.reason.PolicySets.{PolicySets}
use Rattle.path_policies.specs.Seen.{contents_of}
use Rattle.path_with_policies.specs.WithPolicies.{QueryWithPolicies}
use Rattle.path_with_policies.specs.Asking.{IsFirstMalformed, IsOf}
use Rattle.statements.specs.Statement.{Statement}
use Rattle.cert.specs.Certificate.{Certificate}
use Rattle.relying_texts.specs.Reading.{AreStatementsReadUnder}
use Rattle.relying_questions.specs.Agreement.{AcceptsPrints}
use Rattle.relying_policies.specs.WithPolicies.{IsVerdictWithPoliciesByStatements}
use Rattle.relying_policies.specs.declared.verdict.VerdictWithPolicies.{VerdictWithPolicies}
use Rattle.capi_values.specs.Arrays.{AreWrittenTo}
use Rattle.capi_values.specs.Refusal.{TellsCertFault, TellsRefusal, no_memory}
use Rattle.capi_values.specs.Texts.{AreCertificates, CertificateTexts, IsQueryRead, octets_of_texts, profile_of, query_certificates}
use Rattle.capi_values.specs.Verdict.{TellsVerdict, refusal_answer}
use Rattle.capi_values.specs.declared.answer.VerdictAnswer.{VerdictAnswer}
use Rattle.capi_values.specs.declared.policies.PolicyAnswer.{PolicyAnswer}
use Rattle.capi_values.specs.declared.policies.PolicyInputsOfTexts.{PolicyInputsOfTexts}
use Rattle.capi_values.specs.declared.refusal.Refusal.{Refusal}
use Rattle.capi_values.specs.declared.texts.QueryOfTexts.{QueryOfTexts}
use Rattle.capi_values.specs.declared.texts.Text.{Text}
use Rattle.cert.specs.declared.fault.CertFault.{CertFault}

-- ---- what is asked

-- any number but 0 asks for it
abbrev pub is_asked : ℕ → Bool
is_asked number = not (number == 0)

-- what was read is the question about this path and its policies
pub record IsPolicyQueryRead (query : QueryOfTexts) (inputs : PolicyInputsOfTexts) (read : QueryWithPolicies) : Type 0 where
  pub path : Query
  pub path_is : IsQueryRead query path
  pub is_of : IsOf path read
  pub initial_policies : read.policies.initial_policies ≡ octets_of_texts inputs.initial_policies.now
  pub inhibit_policy_mapping : read.policies.inhibit_policy_mapping ≡ is_asked inputs.inhibit_policy_mapping
  pub require_explicit_policy : read.policies.require_explicit_policy ≡ is_asked inputs.require_explicit_policy
  pub inhibit_any_policy : read.policies.inhibit_any_policy ≡ is_asked inputs.inhibit_any_policy

-- and these are the statements
pub record IsPolicyCaseRead (query : QueryOfTexts) (inputs : PolicyInputsOfTexts) (statements : List Text) (read : QueryWithPolicies) (these : List Statement) : Type 0 where
  pub query_is : IsPolicyQueryRead query inputs read
  pub statements_are : AreStatementsReadUnder (profile_of query.wide) (octets_of_texts statements) these

-- ---- what is answered

-- the contents of the policies, those of the authorities first
abbrev pub policies_in : PolicySets → List (List ℕ)
policies_in sets = contents_of sets.authority_constrained.items ++ contents_of sets.user_constrained.items

abbrev pub joined : List (List ℕ) → List ℕ
joined policies = flat_map (λ policy. policy) policies

-- how many there are, their lengths, and their octets one behind the other
pub record ArePoliciesWritten (sets : PolicySets) (answer : PolicyAnswer) (old_lengths new_lengths old_octets new_octets : List ℕ) : Type 0 where
  pub authority : answer.authority_count ≡ length sets.authority_constrained.items
  pub user : answer.user_count ≡ length sets.user_constrained.items
  pub lengths : AreWrittenTo (map (λ policy. length policy) (policies_in sets)) old_lengths new_lengths (answer.authority_count + answer.user_count)
  pub octets : AreWrittenTo (joined (policies_in sets)) old_octets new_octets answer.octet_count

-- there are none, and nothing is written
abbrev pub without_policies : VerdictAnswer → PolicyAnswer
without_policies verdict = record { verdict = verdict; authority_count = 0; user_count = 0; octet_count = 0 }

abbrev pub TellsPolicies : Option PolicySets → PolicyAnswer → List ℕ → List ℕ → List ℕ → List ℕ → Type 0
TellsPolicies None answer old_lengths new_lengths old_octets new_octets =
    (answer ≡ without_policies answer.verdict) × (new_lengths ≡ old_lengths) × (new_octets ≡ old_octets)
TellsPolicies (Some sets) answer old_lengths new_lengths old_octets new_octets =
    ArePoliciesWritten sets answer old_lengths new_lengths old_octets new_octets

pub record TellsWithPolicies (said : VerdictWithPolicies) (old_lengths new_lengths old_octets new_octets : List ℕ) (answer : PolicyAnswer) : Type 0 where
  pub verdict : TellsVerdict answer.verdict said.verdict
  pub policies : TellsPolicies said.policies answer old_lengths new_lengths old_octets new_octets

-- ---- the verdict

-- The verdict on the path and its policies by the statements, of who accepts so.
pub record IsPolicyVerdictFor (accepts : Accepts) (query : QueryOfTexts) (inputs : PolicyInputsOfTexts) (statements : List Text) (said : VerdictWithPolicies) : Type 0 where
  pub read : QueryWithPolicies
  pub these : List Statement
  pub is_read : IsPolicyCaseRead query inputs statements read these
  pub is_verdict : IsVerdictWithPoliciesByStatements accepts read these said

-- The same of who accepts exactly the signatures that have these fingerprints.
pub record IsPolicyVerdictOn (query : QueryOfTexts) (inputs : PolicyInputsOfTexts) (statements : List Text) (prints : List (List ℕ)) (said : VerdictWithPolicies) : Type 0 where
  pub accepts : Accepts
  pub accepts_prints : AcceptsPrints accepts prints
  pub is_verdict : IsPolicyVerdictFor accepts query inputs statements said

-- the certificates are such, and the extensions about policies of one below the anchor are malformed, the first one; or memory ran out
pub record TellsBadPolicies (certificates : CertificateTexts) (told : Refusal) : Type 0 where
  pub anchor : Certificate
  pub path : List Certificate
  pub are_read : AreCertificates certificates (anchor ∷ path)
  pub fault : CertFault
  pub refused : IsFirstMalformed path told.index fault
  pub tells : TellsCertFault told.index fault told

-- a text is refused: a certificate, else a statement, else what a certificate says of policies; or memory ran out
abbrev pub TellsPolicyRefusal : QueryOfTexts → List Text → Refusal → Type 0
TellsPolicyRefusal query statements told =
    TellsRefusal (query_certificates query) statements told
    ⊎ (TellsBadPolicies (query_certificates query) told ⊎ (told ≡ no_memory))

-- the answer tells what is refused, and nothing is written
pub record IsRefusedAnswer (told : Refusal) (answer : PolicyAnswer) (old_lengths new_lengths old_octets new_octets : List ℕ) : Type 0 where
  pub answer_is : answer ≡ without_policies (refusal_answer told)
  pub lengths : new_lengths ≡ old_lengths
  pub octets : new_octets ≡ old_octets

abbrev pub TellsPolicyAnswer : PolicyAnswer → QueryOfTexts → PolicyInputsOfTexts → List Text → List (List ℕ) → List ℕ → List ℕ → List ℕ → List ℕ → Type 0
TellsPolicyAnswer answer query inputs statements prints old_lengths new_lengths old_octets new_octets =
    ((said : VerdictWithPolicies) × IsPolicyVerdictOn query inputs statements prints said
    × TellsWithPolicies said old_lengths new_lengths old_octets new_octets answer)
    ⊎ ((told : Refusal) × TellsPolicyRefusal query statements told
    × IsRefusedAnswer told answer old_lengths new_lengths old_octets new_octets)

-- The answer tells the verdict of who accepts so, with the policies; or that what a certificate says of policies is malformed; or that
-- memory was refused.
abbrev pub TellsPoliciesFor : PolicyAnswer → Accepts → QueryOfTexts → PolicyInputsOfTexts → List Text → List ℕ → List ℕ → List ℕ → List ℕ → Type 0
TellsPoliciesFor answer accepts query inputs statements old_lengths new_lengths old_octets new_octets =
    ((said : VerdictWithPolicies) × IsPolicyVerdictFor accepts query inputs statements said
    × TellsWithPolicies said old_lengths new_lengths old_octets new_octets answer)
    ⊎ ((told : Refusal) × (TellsBadPolicies (query_certificates query) told ⊎ (told ≡ no_memory))
    × IsRefusedAnswer told answer old_lengths new_lengths old_octets new_octets)
