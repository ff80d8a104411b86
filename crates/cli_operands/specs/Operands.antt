-- What the operands of `check` and `compare` say, once their files were read.
use Rattle.std.specs.Prelude.{◌≡◌, Some, None, Ok}
use Rattle.cert.specs.Certificate.{Certificate, certificate}
use Rattle.path.specs.Query.{Query}
use Rattle.statements_facts.specs.declared.profile.Profile.TheVariants.{Stated}
use Rattle.cli_failures.specs.Failures.{Holding, IsJust, IsNoCertificate}
use Rattle.cli_failures.specs.declared.failure.Failure.{Failure}
use Rattle.cli_words.specs.QueryTexts.{QueryTexts}
use Rattle.cli_operands.specs.Asked.{purpose_contents}
use Rattle.cli_operands.specs.InOrder.{FailsFirst}
use Rattle.cli_operands.specs.PathFiles.{AreCertificatesOf, AreFilesRead, IsFailureOf}
use Rattle.cli_operands.specs.PathText.{most_of_path}
use Rattle.cli_operands.specs.declared.operand_files.Operands.{Operands}
use Rattle.cli_operands.specs.declared.terms.Terms.{Terms}

-- This is what the operands say. Of certificates it has the octets.
pub record AreOperands (holds : Holding) (texts : QueryTexts) (it : Operands) : Type 0 where
  pub options : it.options ≡ record { profile = holds.profile }
  pub anchor_file : it.anchor_file.now ≡ texts.anchor
  pub anchor : holds.has texts.anchor (Some it.anchor.items)
  pub path : AreFilesRead holds.profile most_of_path holds texts.files it.path.files.items it.path.unread

-- the query about the certificates whose octets they have, on these terms
pub record IsQueryOf (it : Operands) (terms : Terms) (query : Query) : Type 0 where
  pub anchor_is : certificate it.anchor.items ≡ Ok query.anchor
  pub path_is : AreCertificatesOf it.path.files.items query.certificates
  pub all : it.path.unread ≡ None
  pub moment : query.moment ≡ terms.moment
  pub purpose : query.purpose ≡ purpose_contents terms
  pub options : query.options ≡ it.options

-- the first certificate that is refused, or the file that was not read
abbrev pub IsRefusalIn : Operands → Failure → Type 0
IsRefusalIn it =
    FailsFirst (IsNoCertificate (IsJust Stated it.anchor.items) it.anchor_file.now)
    ((anchor : Certificate) × (certificate it.anchor.items ≡ Ok anchor))
    (IsFailureOf it.path.files.items it.path.unread)
