-- What a search is asked for by the words of a command line, and what is wrong with the certificates that they name.
use Rattle.std.specs.Prelude.{◌≡◌, ◌≤◌, ◌+◌, ℕ, List, ◌∷◌, ◌++◌, Some, None, Ok, length, map}
use Rattle.cert.specs.Certificate.{Certificate, seen_certificate}
use Rattle.path.specs.InProfile.{certificate_in}
use Rattle.statements_facts.specs.declared.profile.Profile.{Profile}
use Rattle.statements_facts.specs.declared.profile.Profile.TheVariants.{Stated}
use Rattle.path_issuers.specs.Search.{Candidate, Search}
use Rattle.cli_answers.specs.SearchText.{Place}
use Rattle.cli_failures.specs.Failures.{Holding, HoldsCertificateIn, IsJust, IsNoCertificateIn}
use Rattle.cli_failures.specs.declared.failure.Failure.{Failure}
use Rattle.cli_words.specs.SearchTexts.{SearchTexts}
use Rattle.cli_operands.specs.Asked.{IsPurposeOf, purpose_contents}
use Rattle.cli_operands.specs.FilePlaces.{ArePathPlaces, StandsIfThere}
use Rattle.cli_operands.specs.InOrder.{FailsFirst}
use Rattle.cli_operands.specs.Moment.{IsMoment}
use Rattle.cli_operands.specs.PathFiles.{AreCertificatesOf, AreFilesRead, IsFailureOf}
use Rattle.cli_operands.specs.PathText.{HoldPath, HoldsCertificates, IsFailureOfPath, most_of_search}
use Rattle.cli_operands.specs.declared.search_files.SearchCertificates.{SearchCertificates}
use Rattle.cli_operands.specs.declared.search_files.SearchOperands.{SearchOperands}
use Rattle.cli_operands.specs.declared.terms.Terms.{Terms}

-- The files that the texts name hold the certificates of this search. Of anchors the name and the key count, and no points.
pub record HoldSearched (holds : Holding) (texts : SearchTexts) (search : Search) : Type 0 where
  pub target : HoldsCertificateIn holds.profile holds texts.target search.target
  pub anchors : HoldPath Stated most_of_search holds texts.anchors search.anchors
  pub bag : HoldPath holds.profile most_of_search holds texts.among search.bag

-- the texts ask for this search
pub record AsksToFind (holds : Holding) (texts : SearchTexts) (search : Search) : Type 0 where
  pub moment : IsMoment texts.moment search.moment
  pub purpose : IsPurposeOf texts.purpose search.purpose
  pub options : search.options ≡ record { profile = holds.profile }
  pub held : HoldSearched holds texts search

-- the files hold certificates, read in the profile
abbrev pub HoldSome : Profile → Holding → List (List ℕ) → Type 0
HoldSome profile holds files =
    (certificates : List Certificate) × HoldPath profile most_of_search holds files certificates

-- What is wrong with the certificates that they name, the first of it: the target, the files of the anchors in order, those of the
-- certificates that may stand between.
abbrev pub IsFailureOfSearched : Holding → SearchTexts → Failure → Type 0
IsFailureOfSearched holds texts =
    FailsFirst (IsNoCertificateIn holds.profile holds texts.target)
    ((target : Certificate) × HoldsCertificateIn holds.profile holds texts.target target)
    (FailsFirst (IsFailureOfPath Stated most_of_search holds texts.anchors)
    (HoldSome Stated holds texts.anchors)
    (IsFailureOfPath holds.profile most_of_search holds texts.among))

-- The certificate of that number among those of the files, counted from 0, each read in the profile, stands in this file, at this number in
-- it, counted from 1.
pub record StandsIn (profile : Profile) (holds : Holding) (files : List (List ℕ)) (index : ℕ) (file : List ℕ) (number : ℕ) : Type 0 where
  pub before : List (List ℕ)
  pub behind : List (List ℕ)
  pub files_are : files ≡ before ++ file ∷ behind
  pub certificates_before : List Certificate
  pub hold_before : HoldPath profile most_of_search holds before certificates_before
  pub certificates : List Certificate
  pub holds_them : HoldsCertificates profile most_of_search holds file certificates
  pub counted : index + 1 ≡ length certificates_before + number
  pub some : 1 ≤ number
  pub within : number ≤ length certificates

-- the certificates of the candidate's path stand there, from the anchor down to the target
abbrev pub ArePlacesOf : Holding → SearchTexts → Candidate → List Place → Type 0
ArePlacesOf holds texts =
    ArePathPlaces (λ index place. StandsIn Stated holds texts.anchors index place.file place.number)
    (λ index place. StandsIn holds.profile holds texts.among index place.file place.number)
    record { file = texts.target; number = 1 }

-- ---- once their files were read

-- This is what the operands say. Of certificates they have the octets.
pub record AreSearchOperands (holds : Holding) (texts : SearchTexts) (it : SearchOperands) : Type 0 where
  pub profile : it.profile ≡ holds.profile
  pub target_file : it.target_file.now ≡ texts.target
  pub target : holds.has texts.target (Some it.target.items)
  pub anchors :
      AreFilesRead Stated most_of_search holds texts.anchors it.anchors.files.items it.anchors.unread
  pub among : AreFilesRead holds.profile most_of_search holds texts.among it.among.files.items it.among.unread

-- the certificates whose octets they have
pub record AreCertificatesOfSearch (it : SearchOperands) (read : SearchCertificates) : Type 0 where
  pub target_is : certificate_in it.profile it.target.items ≡ Ok (seen_certificate read.target)
  pub anchors_are :
      AreCertificatesOf it.anchors.files.items (map seen_certificate read.anchors.items)
  pub all_anchors : it.anchors.unread ≡ None
  pub bag_is : AreCertificatesOf it.among.files.items (map seen_certificate read.bag.items)
  pub all_of_bag : it.among.unread ≡ None
  pub options_are : read.options ≡ record { profile = it.profile }

-- the search among the certificates, on these terms
pub record IsSearchFor (read : SearchCertificates) (terms : Terms) (search : Search) : Type 0 where
  pub target : search.target ≡ seen_certificate read.target
  pub anchors : search.anchors ≡ map seen_certificate read.anchors.items
  pub bag : search.bag ≡ map seen_certificate read.bag.items
  pub moment : search.moment ≡ terms.moment
  pub purpose : search.purpose ≡ purpose_contents terms
  pub options : search.options ≡ read.options

-- the first certificate that is refused, or the file that was not read
abbrev pub IsRefusalInSearch : SearchOperands → Failure → Type 0
IsRefusalInSearch it =
    FailsFirst (IsNoCertificateIn it.profile (IsJust it.profile it.target.items) it.target_file.now)
    ((target : Certificate) × (certificate_in it.profile it.target.items ≡ Ok target))
    (FailsFirst (IsFailureOf it.anchors.files.items it.anchors.unread)
    ((anchors : List Certificate) × AreCertificatesOf it.anchors.files.items anchors
    × (it.anchors.unread ≡ None))
    (IsFailureOf it.among.files.items it.among.unread))

-- where the values of the candidate's path stand, if they are there
abbrev pub ArePlacesIn : SearchOperands → Candidate → List Place → Type 0
ArePlacesIn it =
    ArePathPlaces (StandsIfThere it.anchors.files.items) (StandsIfThere it.among.files.items)
    record { file = it.target_file.now; number = 1 }
