-- What is asked of a path, by the words of a command line or of a line of a session, and what is wrong with them.
use Rattle.std.specs.Prelude.{◌≡◌, ◌↔◌, ℕ, ℤ, List, Option, Some, None, IsTrue, Contains, option_map}
use Rattle.cert.specs.Certificate.{Certificate}
use Rattle.path.specs.Query.{Query, Accepts}
use Rattle.path_verifiers.specs.Fingerprint.{fingerprint_of}
use Rattle.cli_failures.specs.Failures.{Holding, HoldsCertificate, IsNoCertificate, IsUnread}
use Rattle.cli_failures.specs.declared.failure.Failure.{Failure}
use Rattle.cli_failures.specs.declared.failure.Failure.TheVariants.{BadLine, BadTime, BadPurpose, NoMemory}
use Rattle.cli_words.specs.QueryTexts.{QueryTexts}
use Rattle.cli_operands.specs.InOrder.{FailsFirst}
use Rattle.cli_operands.specs.Moment.{IsMoment}
use Rattle.cli_operands.specs.PathText.{HoldPath, IsFailureOfPath, most_of_path}
use Rattle.cli_operands.specs.Purpose.{NamesPurpose}
use Rattle.cli_operands.specs.VerdictLines.{IsFirstBadLine, NamePrints, text_lines}
use Rattle.cli_operands.specs.declared.terms.Terms.{Terms}

-- ---- verdicts

-- the file names these fingerprints
abbrev pub HoldsFingerprints : Holding → List ℕ → List (List ℕ) → Type 0
HoldsFingerprints holds file prints =
    (octets : List ℕ) × holds.has file (Some octets) × NamePrints (text_lines octets) prints

-- a signature is accepted exactly where its fingerprint is one of these
abbrev pub AcceptsJust : List (List ℕ) → Accepts → Type 0
AcceptsJust prints accepts =
    (algorithm key message signature : List ℕ) →
    IsTrue (accepts algorithm key message signature)
    ↔ Contains prints (fingerprint_of algorithm key message signature)

-- a failure on a file of verdicts
abbrev pub IsFailureOnFingerprints : Holding → List ℕ → Failure → Type 0
IsFailureOnFingerprints holds file (BadLine named line) =
    (named.now ≡ file) × ((octets : List ℕ) × holds.has file (Some octets) × IsFirstBadLine octets line)
IsFailureOnFingerprints holds file failure = IsUnread holds file failure

-- ---- moments and purposes

abbrev pub IsBadTime : List ℕ → Failure → Type 0
IsBadTime text failure = (failure ≡ BadTime) × ((seconds : ℤ) → IsMoment text seconds → ⊥)

-- a moment is asked about by its text, or none is
abbrev pub IsMomentOf : Option (List ℕ) → Option ℤ → Type 0
IsMomentOf None None = Unit {0}
IsMomentOf (Some text) (Some seconds) = IsMoment text seconds
IsMomentOf _ _ = ⊥

abbrev pub IsBadMoment : Option (List ℕ) → Failure → Type 0
IsBadMoment (Some text) failure = IsBadTime text failure
IsBadMoment None failure = ⊥

-- a purpose is asked for by its text, or none is
abbrev pub IsPurposeOf : Option (List ℕ) → Option (List ℕ) → Type 0
IsPurposeOf None None = Unit {0}
IsPurposeOf (Some text) (Some contents) = NamesPurpose text contents
IsPurposeOf _ _ = ⊥

abbrev pub IsBadPurpose : Option (List ℕ) → Failure → Type 0
IsBadPurpose (Some text) BadPurpose = (contents : List ℕ) → NamesPurpose text contents → ⊥
IsBadPurpose asked failure = failure ≡ NoMemory

-- ---- the terms: the moment and the purpose

-- the contents of the purpose
abbrev pub purpose_contents : Terms → Option (List ℕ)
purpose_contents terms = option_map (λ contents. contents.items) terms.purpose

-- the text of a moment, and that of a purpose if there is one, name these terms
pub record AreTerms (moment_text : List ℕ) (purpose_text : Option (List ℕ)) (terms : Terms) : Type 0 where
  pub moment : IsMoment moment_text terms.moment
  pub purpose : IsPurposeOf purpose_text (purpose_contents terms)

-- they name some
pub record MakeTerms (moment_text : List ℕ) (purpose_text : Option (List ℕ)) : Type 0 where
  pub seconds : ℤ
  pub moment : IsMoment moment_text seconds
  pub contents : Option (List ℕ)
  pub purpose : IsPurposeOf purpose_text contents

-- what is wrong with them, the first of it: the moment, the purpose
abbrev pub AreBadTerms : List ℕ → Option (List ℕ) → Failure → Type 0
AreBadTerms moment_text purpose_text =
    FailsFirst (IsBadTime moment_text) ((seconds : ℤ) × IsMoment moment_text seconds)
    (IsBadPurpose purpose_text)

-- the same of the texts of a query
abbrev pub NameTerms : QueryTexts → Terms → Type 0
NameTerms texts = AreTerms texts.moment texts.purpose

abbrev pub HaveTerms : QueryTexts → Type 0
HaveTerms texts = MakeTerms texts.moment texts.purpose

abbrev pub IsFailureOfTerms : QueryTexts → Failure → Type 0
IsFailureOfTerms texts = AreBadTerms texts.moment texts.purpose

-- ---- the certificates

-- what is wrong with those that the texts name, the first of it: the anchor, the files in order
abbrev pub IsFailureOfCertificates : Holding → QueryTexts → Failure → Type 0
IsFailureOfCertificates holds texts =
    FailsFirst (IsNoCertificate holds texts.anchor)
    ((anchor : Certificate) × HoldsCertificate holds texts.anchor anchor)
    (IsFailureOfPath holds.profile most_of_path holds texts.files)

-- ---- the query

-- the texts ask this of a path
pub record Asks (holds : Holding) (texts : QueryTexts) (query : Query) : Type 0 where
  pub moment : IsMoment texts.moment query.moment
  pub purpose : IsPurposeOf texts.purpose query.purpose
  pub options : query.options ≡ record { profile = holds.profile }
  pub anchor : HoldsCertificate holds texts.anchor query.anchor
  pub path : HoldPath holds.profile most_of_path holds texts.files query.certificates

-- What is wrong with the texts in a line of a session, the first of it: the moment, the purpose, the anchor, the files in order.
abbrev pub IsFailureOfQuery : Holding → QueryTexts → Failure → Type 0
IsFailureOfQuery holds texts =
    FailsFirst (IsFailureOfTerms texts) (HaveTerms texts) (IsFailureOfCertificates holds texts)

-- On a command line the file of verdicts is read between the terms and the certificates.
abbrev pub IsFailureOfQuestion : Holding → List ℕ → QueryTexts → Failure → Type 0
IsFailureOfQuestion holds verdicts texts =
    FailsFirst (IsFailureOfTerms texts) (HaveTerms texts)
    (FailsFirst (IsFailureOnFingerprints holds verdicts)
    ((prints : List (List ℕ)) × HoldsFingerprints holds verdicts prints)
    (IsFailureOfCertificates holds texts))
