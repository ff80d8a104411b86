-- What is asked of policies by words, and what is wrong with these or with what certificates say of policies.
use Rattle.std.specs.Prelude.{◌≡◌, ◌+◌, ◌∷◌, ◌++◌, ℕ, List, [], None, Some, length, map}
use Rattle.cert.specs.Certificate.{Certificate}
use Rattle.cert.specs.declared.fault.CertFault.{CertFault}
use Rattle.cert.specs.declared.fault.CertFault.TheVariants as OfCertificate
use Rattle.cert.specs.declared.fault.CertRule.{CertRule}
use Rattle.der_stream.specs.Sequence.{joined}
use Rattle.path.specs.Query.{Query}
use Rattle.path_policies.specs.Query.{PolicyQuery}
use Rattle.path_policies.specs.Seen.{contents_of}
use Rattle.path_with_policies.specs.Asking.{HasInputs, IsFirstMalformed, IsOf}
use Rattle.path_with_policies.specs.WithPolicies.{QueryWithPolicies}
use Rattle.path_with_policies.specs.declared.query.PolicyInputs.{PolicyInputs}
use Rattle.cli_failures.specs.Failures.{Holding}
use Rattle.cli_failures.specs.declared.failure.Failure.{Failure}
use Rattle.cli_failures.specs.declared.failure.Failure.TheVariants.{BadPolicy, NoCertificate, NoMemory}
use Rattle.cli_words.specs.PolicyTexts.{PolicyTexts}
use Rattle.cli_words.specs.QueryTexts.{QueryTexts}
use Rattle.cli_operands.specs.Asked.{Asks, IsFailureOfCertificates}
use Rattle.cli_operands.specs.FilePlaces.{values_in}
use Rattle.cli_operands.specs.InOrder.{FailsFirst}
use Rattle.cli_operands.specs.Operands.{IsQueryOf, IsRefusalIn}
use Rattle.cli_operands.specs.PathFiles.{AreCertificatesOf, values_read}
use Rattle.cli_operands.specs.PathText.{BeginsWithValues, HoldPath, most_of_path}
use Rattle.cli_operands.specs.Purpose.{NamesPurpose}
use Rattle.cli_operands.specs.declared.operand_files.Operands.{Operands}
use Rattle.cli_operands.specs.declared.path_file.PathFile.{PathFile}
use Rattle.cli_operands.specs.declared.policies.PolicyTerms.{PolicyTerms}
use Rattle.cli_operands.specs.declared.terms.Terms.{Terms}

-- ---- words

-- a policy is written as a purpose is: the dotted decimal of an OBJECT IDENTIFIER with these contents octets
abbrev pub NamesPolicy : List ℕ → List ℕ → Type 0
NamesPolicy = NamesPurpose

-- each text names the policy with these contents, in order
abbrev pub NamePolicies : List (List ℕ) → List (List ℕ) → Type 0
NamePolicies [] [] = Unit {0}
NamePolicies [] (contents ∷ others) = ⊥
NamePolicies (text ∷ texts) [] = ⊥
NamePolicies (text ∷ texts) (contents ∷ others) = NamesPolicy text contents × NamePolicies texts others

-- the first of the texts that names none
pub record IsFirstOther (texts : List (List ℕ)) (text : List ℕ) : Type 0 where
  pub before : List (List ℕ)
  pub behind : List (List ℕ)
  pub texts_are : texts ≡ before ++ text ∷ behind
  pub policies : List (List ℕ)
  pub named : NamePolicies before policies
  pub none : (contents : List ℕ) → NamesPolicy text contents → ⊥

abbrev pub IsBadPolicy : List (List ℕ) → Failure → Type 0
IsBadPolicy texts (BadPolicy word) = IsFirstOther texts word.now
IsBadPolicy texts failure = failure ≡ NoMemory

-- a failure on one word
abbrev pub IsNoPolicy : List ℕ → Failure → Type 0
IsNoPolicy text (BadPolicy word) = (word.now ≡ text) × ((contents : List ℕ) → NamesPolicy text contents → ⊥)
IsNoPolicy text failure = failure ≡ NoMemory

-- the texts say this
pub record ArePolicyTerms (texts : PolicyTexts) (terms : PolicyTerms) : Type 0 where
  pub policies : NamePolicies texts.policies (map (λ contents. contents.items) terms.policies.items)
  pub require_policy : terms.require_policy ≡ texts.require_policy
  pub inhibit_mapping : terms.inhibit_mapping ≡ texts.inhibit_mapping
  pub inhibit_any_policy : terms.inhibit_any_policy ≡ texts.inhibit_any_policy

-- the user's inputs are those
pub record HasTermsOf (terms : PolicyTerms) (inputs : PolicyInputs) : Type 0 where
  pub initial_policies : contents_of inputs.initial_policies.now ≡ map (λ contents. contents.items) terms.policies.items
  pub require_policy : inputs.require_explicit_policy ≡ terms.require_policy
  pub inhibit_mapping : inputs.inhibit_policy_mapping ≡ terms.inhibit_mapping
  pub inhibit_any_policy : inputs.inhibit_any_policy ≡ terms.inhibit_any_policy

-- ---- the query

-- the texts ask this of policies (RFC 5280, 6.1.1 (c), (f), (e), (g))
pub record AskOfPolicies (texts : PolicyTexts) (q : PolicyQuery) : Type 0 where
  pub policies : NamePolicies texts.policies q.initial_policies
  pub require_policy : q.require_explicit_policy ≡ texts.require_policy
  pub inhibit_mapping : q.inhibit_policy_mapping ≡ texts.inhibit_mapping
  pub inhibit_any_policy : q.inhibit_any_policy ≡ texts.inhibit_any_policy

-- The query that the texts ask without policies, with the policies of its certificates apart, and what is asked of these.
pub record AsksWithPolicies (holds : Holding) (texts : QueryTexts) (policies : PolicyTexts) (q : QueryWithPolicies) : Type 0 where
  pub query : Query
  pub asks : Asks holds texts query
  pub of : IsOf query q
  pub of_policies : AskOfPolicies policies q.policies

-- ---- certificates whose extensions about policies are malformed

-- Certificate j of the path, from 1 on, is a value of this file, and starts there.
pub record StartsIn (holds : Holding) (files : List (List ℕ)) (j : ℕ) (file : List ℕ) (start : ℕ) : Type 0 where
  pub before : List (List ℕ)
  pub behind : List (List ℕ)
  pub files_are : files ≡ before ++ file ∷ behind
  pub certificates_before : List Certificate
  pub hold_before : HoldPath holds.profile most_of_path holds before certificates_before
  pub octets : List ℕ
  pub held : holds.has file (Some octets)
  pub values : List (List ℕ)
  pub left : List ℕ
  pub begins : BeginsWithValues octets values left
  pub front : List (List ℕ)
  pub value : List ℕ
  pub back : List (List ℕ)
  pub values_are : values ≡ front ++ value ∷ back
  pub counted : j ≡ length certificates_before + length front + 1
  pub start_is : start ≡ length (joined front)

-- The first certificate of the path whose extensions about policies are malformed, with its fault. The place is counted from the first
-- octet of its file.
pub record IsMalformed (holds : Holding) (files : List (List ℕ)) (file : List ℕ) (rule : CertRule) (at : ℕ) : Type 0 where
  pub certificates : List Certificate
  pub hold : HoldPath holds.profile most_of_path holds files certificates
  pub j : ℕ
  pub offset : ℕ
  pub first : IsFirstMalformed certificates j (OfCertificate.Refused rule offset)
  pub start : ℕ
  pub starts : StartsIn holds files j file start
  pub at_is : at ≡ start + offset

abbrev pub IsFailureOfPolicies : Holding → List (List ℕ) → Failure → Type 0
IsFailureOfPolicies holds files (NoCertificate named rule at) = IsMalformed holds files named.now rule at
IsFailureOfPolicies holds files failure = failure ≡ NoMemory

-- What is wrong with the certificates that the texts name, the first of it: the anchor, the files in order, and then what the certificates
-- of the path say of policies.
abbrev pub IsFailureOfPolicyPath : Holding → QueryTexts → Failure → Type 0
IsFailureOfPolicyPath holds texts =
    FailsFirst (IsFailureOfCertificates holds texts) ((query : Query) × Asks holds texts query)
    (IsFailureOfPolicies holds texts.files)

-- ---- once the files were read

-- the query about the certificates whose octets they have, on these terms, with their policies apart
pub record IsQueryWithPoliciesOf (it : Operands) (terms : Terms) (q : QueryWithPolicies) : Type 0 where
  pub query : Query
  pub is : IsQueryOf it terms query
  pub of : IsOf query q

-- the same with what the user asks
abbrev pub IsPolicyQueryOf : Operands → Terms → PolicyInputs → QueryWithPolicies → Type 0
IsPolicyQueryOf it terms inputs q = IsQueryWithPoliciesOf it terms q × HasInputs inputs q.policies

-- the value of that number among those of the files, counted from 0, is one of this file, and starts there
pub record StartsAmong (files : List PathFile) (index : ℕ) (file : List ℕ) (start : ℕ) : Type 0 where
  pub before : List PathFile
  pub it : PathFile
  pub behind : List PathFile
  pub files_are : files ≡ before ++ it ∷ behind
  pub file_is : it.file.now ≡ file
  pub front : List (List ℕ)
  pub value : List ℕ
  pub back : List (List ℕ)
  pub values_are : values_read it ≡ front ++ value ∷ back
  pub counted : index ≡ values_in before + length front
  pub start_is : start ≡ length (joined front)

-- a failure for this fault of the value of that number
abbrev pub IsToldAmong : List PathFile → ℕ → CertFault → Failure → Type 0
IsToldAmong files index (OfCertificate.Refused rule offset) (NoCertificate named broken at) =
    (broken ≡ rule) × ((start : ℕ) × StartsAmong files index named.now start × (at ≡ start + offset))
IsToldAmong files index fault failure = failure ≡ NoMemory

-- the first certificate whose extensions about policies are malformed
abbrev pub IsMalformedIn : Operands → Failure → Type 0
IsMalformedIn it failure =
    (query : Query) × (fault : CertFault) × (index : ℕ) × AreCertificatesOf it.path.files.items query.certificates
    × (it.path.unread ≡ None) × IsFirstMalformed query.certificates (index + 1) fault
    × IsToldAmong it.path.files.items index fault failure

-- the first certificate that is refused, or the file that was not read; or the first whose extensions about policies are malformed
abbrev pub IsRefusalWithPolicies : Operands → Terms → Failure → Type 0
IsRefusalWithPolicies it terms =
    FailsFirst (IsRefusalIn it) ((query : Query) × IsQueryOf it terms query) (IsMalformedIn it)
