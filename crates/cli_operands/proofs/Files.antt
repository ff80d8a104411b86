-- Files one after the other: as they are read, and as their certificates are.
use Rattle.std.proofs.Common.{◌≡◌, ◌<◌, ◌+◌, ℕ, suc, Bor, List, [], ◌∷◌, ◌++◌, Option, Some, None, length, map, take, drop, get_or, refl, sym, ap, ◌∙◌, subst, inl, inr, append_assoc, append-nil, drop-cons}
use Rattle.std.proofs.lemmas.List.{take-append-drop, take_more}
use Rattle.cert.specs.Certificate.{Certificate}
use Rattle.path.specs.InProfile.{certificate_in}
use Rattle.statements_facts.specs.declared.profile.Profile.{Profile}
use Rattle.cli_failures.specs.Failures.{Holding, IsJust, IsNoCertificateIn, IsUnread}
use Rattle.cli_failures.specs.declared.failure.Failure.{Failure}
use Rattle.cli_failures.specs.declared.failure.Failure.TheVariants.{Refused, NoCertificate, NoRevocationList, NoResponse, NotGenuine, BadLine, BadTime, BadPurpose, BadPolicy, BadName, BadTopic, Unreadable, Unwritable, StoreFailed, NoMemory, Shut, NoInput}
use Rattle.cli_operands.specs.CertificateValues.{AreCertificateValues, EndBehind, IsFailureAmong}
use Rattle.cli_operands.specs.PathFiles.{AreCertificatesIn, AreCertificatesOf, AreFilesRead, IsFailureBehind, IsFailureIn, IsFailureOf, IsFileRead, values_read}
use Rattle.cli_operands.specs.PathText.{AreTexts, HoldPath, HoldsCertificates, IsFailureOfPath, IsFailureOnPath}
use Rattle.cli_operands.specs.declared.path_file.PathFile.{PathFile}
use Rattle.cli_operands.proofs.Certificates.{one_more_at, parted_at, refused_among, refused_behind}

-- ---- files that are read

files_more : (profile : Profile) (most : ℕ) (holds : Holding) (files : List (List ℕ)) (file : List ℕ) (read : List PathFile) (it : PathFile) → AreFilesRead profile most holds files read None → IsFileRead profile most holds file it
    → AreFilesRead profile most holds (files ++ file ∷ []) (read ++ it ∷ []) None
files_more profile most holds [] file [] it none is = (is, tt)
files_more profile most holds [] file (other ∷ read) it none is = absurd none
files_more profile most holds (name ∷ files) file [] it none is = absurd none
files_more profile most holds (name ∷ files) file (other ∷ read) it (one, more) is = (one, files_more profile most holds files file read it more is)

files_end : (profile : Profile) (most : ℕ) (holds : Holding) (before : List (List ℕ)) (file : List ℕ) (behind : List (List ℕ)) (read : List PathFile) (failure : Failure) → AreFilesRead profile most holds before read None → IsUnread holds file failure
    → AreFilesRead profile most holds (before ++ file ∷ behind) read (Some failure)
files_end profile most holds [] file behind [] failure none fails = fails
files_end profile most holds [] file behind (other ∷ read) failure none fails = absurd none
files_end profile most holds (name ∷ before) file behind [] failure none fails = absurd none
files_end profile most holds (name ∷ before) file behind (other ∷ read) failure (one, more) fails = (one, files_end profile most holds before file behind read failure more fails)

module _ (profile : Profile) (most : ℕ) (holds : Holding) (files : List (Bor (List ℕ))) (i : ℕ) (d : Bor (List ℕ)) where
  pub one_read : (read : List PathFile) (it : PathFile) → i < length files → AreFilesRead profile most holds (map (λ file. file.now) (take i files)) read None → IsFileRead profile most holds (get_or files i d).now it
      → AreFilesRead profile most holds (map (λ file. file.now) (take (i + 1) files)) (read ++ it ∷ []) None
  one_read read it within are is =
      subst (λ (names : List (List ℕ)). AreFilesRead profile most holds names (read ++ it ∷ []) None) (sym (one_more_at (λ file. file.now) files i d within))
      (files_more profile most holds (map (λ file. file.now) (take i files)) (get_or files i d).now read it are is)

  pub one_unread : (read : List PathFile) (failure : Failure) → i < length files → AreFilesRead profile most holds (map (λ file. file.now) (take i files)) read None → IsUnread holds (get_or files i d).now failure
      → AreFilesRead profile most holds (map (λ file. file.now) files) read (Some failure)
  one_unread read failure within are fails =
      subst (λ (names : List (List ℕ)). AreFilesRead profile most holds names read (Some failure)) (sym (parted_at (λ file. file.now) files i d within))
      (files_end profile most holds (map (λ file. file.now) (take i files)) (get_or files i d).now (map (λ file. file.now) (drop (suc i) files)) read failure are fails)

-- ---- their certificates

certificates_more : (files : List PathFile) (it : PathFile) (certificates more : List Certificate) → AreCertificatesOf files certificates → AreCertificatesIn it more
    → AreCertificatesOf (files ++ it ∷ []) (certificates ++ more)
certificates_more [] it certificates more none are = (more, [], are, refl, ap (λ (xs : List Certificate). xs ++ more) none ∙ sym (append-nil more))
certificates_more (other ∷ files) it certificates more (first, behind, are_first, are_behind, is) are =
    (first, behind ++ more, are_first, certificates_more files it behind more are_behind are, ap (λ (xs : List Certificate). xs ++ more) is ∙ append_assoc first behind more)

fails_behind : (before : List PathFile) (it : PathFile) (behind : List PathFile) (unread : Option Failure) (certificates : List Certificate) (failure : Failure) → AreCertificatesOf before certificates → IsFailureIn it failure
    → IsFailureOf (before ++ it ∷ behind) unread failure
fails_behind [] it behind unread certificates failure are fails = inl fails
fails_behind (other ∷ before) it behind unread certificates failure (first, more, are_first, are_more, is) fails =
    inr ((first, are_first), fails_behind before it behind unread more failure are_more fails)

pub fails_in_the_end : (files : List PathFile) (unread : Option Failure) (certificates : List Certificate) (failure : Failure) → AreCertificatesOf files certificates → unread ≡ Some failure → IsFailureOf files unread failure
fails_in_the_end [] unread certificates failure are is = inl is
fails_in_the_end (it ∷ files) unread certificates failure (first, more, are_first, are_more, same) is = inr ((first, are_first), fails_in_the_end files unread more failure are_more is)

pub no_memory : (files : List PathFile) (unread : Option Failure) → IsFailureOf files unread NoMemory
no_memory [] unread = inr refl
no_memory (it ∷ files) unread = inl (inl refl)

module _ (files : List PathFile) (i : ℕ) (it : PathFile) (within : i < length files) (is : it ≡ get_or files i it) where
  pub path_longer : (certificates more : List Certificate) → AreCertificatesOf (take i files) certificates → AreCertificatesIn it more → AreCertificatesOf (take (i + 1) files) (certificates ++ more)
  path_longer certificates more are are_more =
      subst (λ (read : List PathFile). AreCertificatesOf read (certificates ++ more)) (sym (take_more files i it within ∙ ap (λ (f : PathFile). take i files ++ f ∷ []) (sym is)))
      (certificates_more (take i files) it certificates more are are_more)

  pub path_refused : (unread : Option Failure) (certificates : List Certificate) (failure : Failure) → AreCertificatesOf (take i files) certificates → IsFailureIn it failure → IsFailureOf files unread failure
  path_refused unread certificates failure are fails =
      subst (λ (read : List PathFile). IsFailureOf read unread failure) (sym (sym (take-append-drop i files) ∙ ap (λ (xs : List PathFile). take i files ++ xs) (drop-cons files i it within ∙ ap (λ (f : PathFile). f ∷ drop (suc i) files) (sym is))))
      (fails_behind (take i files) it (drop (suc i) files) unread certificates failure are fails)

-- ---- what the files hold

unread_on : (profile : Profile) (most : ℕ) (holds : Holding) (file : List ℕ) (failure : Failure) → IsUnread holds file failure → IsFailureOnPath profile most holds file failure
unread_on profile most holds file (Refused named fault) fails = absurd fails
unread_on profile most holds file (NoCertificate named rule at) fails = absurd fails
unread_on profile most holds file (NoRevocationList named rule at) fails = absurd fails
unread_on profile most holds file (NoResponse named rule at) fails = absurd fails
unread_on profile most holds file (NotGenuine named fault) fails = absurd fails
unread_on profile most holds file (BadLine named line) fails = absurd fails
unread_on profile most holds file BadTime fails = absurd fails
unread_on profile most holds file BadPurpose fails = absurd fails
unread_on profile most holds file (BadPolicy word) fails = absurd fails
unread_on profile most holds file (BadName stop) fails = absurd fails
unread_on profile most holds file BadTopic fails = absurd fails
unread_on profile most holds file Shut fails = absurd fails
unread_on profile most holds file NoInput fails = absurd fails
unread_on profile most holds file (Unreadable named) fails = fails
unread_on profile most holds file Unwritable fails = absurd fails
unread_on profile most holds file (StoreFailed why) fails = absurd fails
unread_on profile most holds file NoMemory fails = tt

pub unread_certificate : (profile : Profile) (holds : Holding) (file : List ℕ) (failure : Failure) → IsUnread holds file failure → IsNoCertificateIn profile holds file failure
unread_certificate profile holds file (Refused named fault) fails = absurd fails
unread_certificate profile holds file (NoCertificate named rule at) fails = absurd fails
unread_certificate profile holds file (NoRevocationList named rule at) fails = absurd fails
unread_certificate profile holds file (NoResponse named rule at) fails = absurd fails
unread_certificate profile holds file (NotGenuine named fault) fails = absurd fails
unread_certificate profile holds file (BadLine named line) fails = absurd fails
unread_certificate profile holds file BadTime fails = absurd fails
unread_certificate profile holds file BadPurpose fails = absurd fails
unread_certificate profile holds file (BadPolicy word) fails = absurd fails
unread_certificate profile holds file (BadName stop) fails = absurd fails
unread_certificate profile holds file BadTopic fails = absurd fails
unread_certificate profile holds file Shut fails = absurd fails
unread_certificate profile holds file NoInput fails = absurd fails
unread_certificate profile holds file (Unreadable named) fails = fails
unread_certificate profile holds file Unwritable fails = absurd fails
unread_certificate profile holds file (StoreFailed why) fails = absurd fails
unread_certificate profile holds file NoMemory fails = tt

pub no_certificate : (profile at : Profile) (holds : Holding) (octets file : List ℕ) (failure : Failure) → holds.has file (Some octets) → IsNoCertificateIn profile (IsJust at octets) file failure → IsNoCertificateIn profile holds file failure
no_certificate profile at holds octets file (Refused named fault) held fails = absurd fails
no_certificate profile at holds octets file (NoCertificate named rule place) held (same, (text, is, refused)) = (same, (octets, held, let one : text ≡ octets = cc in ap (certificate_in profile) (sym one) ∙ refused))
no_certificate profile at holds octets file (NoRevocationList named rule place) held fails = absurd fails
no_certificate profile at holds octets file (NoResponse named rule place) held fails = absurd fails
no_certificate profile at holds octets file (NotGenuine named fault) held fails = absurd fails
no_certificate profile at holds octets file (BadLine named line) held fails = absurd fails
no_certificate profile at holds octets file BadTime held fails = absurd fails
no_certificate profile at holds octets file BadPurpose held fails = absurd fails
no_certificate profile at holds octets file (BadPolicy word) held fails = absurd fails
no_certificate profile at holds octets file (BadName stop) held fails = absurd fails
no_certificate profile at holds octets file BadTopic held fails = absurd fails
no_certificate profile at holds octets file Shut held fails = absurd fails
no_certificate profile at holds octets file NoInput held fails = absurd fails
no_certificate profile at holds octets file (Unreadable named) held (same, none) = absurd (let wrong : ⊥ = cc in wrong)
no_certificate profile at holds octets file Unwritable held fails = absurd fails
no_certificate profile at holds octets file (StoreFailed why) held fails = absurd fails
no_certificate profile at holds octets file NoMemory held fails = tt

pub holds_certificates : (profile : Profile) (most : ℕ) (holds : Holding) (file : List ℕ) (it : PathFile) (certificates : List Certificate) → IsFileRead profile most holds file it → AreCertificatesIn it certificates → HoldsCertificates profile most holds file certificates
holds_certificates profile most holds file it certificates (named, same, (octets, held, read)) are = (
  octets,
  held,
  record {
    values = values_read it;
    some = are.some;
    left = read.left;
    begins = read.begins;
    few = read.few;
    whole = subst (EndBehind most (values_read it) read.left) are.whole read.end;
    each = subst (λ (in_profile : Profile). AreTexts in_profile (values_read it) certificates) same are.each;
  },
)

fails_on : (profile : Profile) (most : ℕ) → 0 < most → (holds : Holding) (file : List ℕ) (it : PathFile) (failure : Failure) → IsFileRead profile most holds file it → IsFailureIn it failure → IsFailureOnPath profile most holds file failure
fails_on profile most some holds file it failure (named, same, (octets, held, read)) (inl among) =
    let told = subst (λ (in_profile : Profile). IsFailureAmong in_profile (values_read it) it.file.now failure) same among in
    refused_among profile most holds octets file held (values_read it) it.stopped failure read (subst (λ (name : List ℕ). IsFailureAmong profile (values_read it) name failure) named told)
fails_on profile most some holds file it failure (named, same, (octets, held, read)) (inr (are, behind)) =
    let values_are = subst (λ (in_profile : Profile). AreCertificateValues in_profile (values_read it)) same are in
    refused_behind profile most holds octets file held some (values_read it) it.stopped failure read values_are (subst (λ (name : List ℕ). IsFailureBehind (values_read it) name it.stopped failure) named behind)

pub hold_path : (profile : Profile) (most : ℕ) (holds : Holding) (files : List (List ℕ)) (read : List PathFile) (unread : Option Failure) (certificates : List Certificate) → AreFilesRead profile most holds files read unread → unread ≡ None → AreCertificatesOf read certificates
    → HoldPath profile most holds files certificates
hold_path profile most holds [] [] None certificates are all path = path
hold_path profile most holds [] [] (Some failure) certificates are all path = absurd are
hold_path profile most holds [] (it ∷ read) unread certificates are all path = absurd are
hold_path profile most holds (file ∷ files) [] None certificates are all path = absurd are
hold_path profile most holds (file ∷ files) [] (Some failure) certificates are all path = absurd (let wrong : ⊥ = cc in wrong)
hold_path profile most holds (file ∷ files) (it ∷ read) unread certificates (one, rest) all (first, more, are_first, are_more, is) =
    (first, more, holds_certificates profile most holds file it first one are_first, hold_path profile most holds files read unread more rest all are_more, is)

pub fails_of : (profile : Profile) (most : ℕ) → 0 < most → (holds : Holding) (files : List (List ℕ)) (read : List PathFile) (unread : Option Failure) (failure : Failure) → AreFilesRead profile most holds files read unread → IsFailureOf read unread failure
    → IsFailureOfPath profile most holds files failure
fails_of profile most some holds [] [] None failure are (inl is) = absurd (let wrong : ⊥ = cc in wrong)
fails_of profile most some holds [] [] None failure are (inr memory) = memory
fails_of profile most some holds [] [] (Some other) failure are fails = absurd are
fails_of profile most some holds [] (it ∷ read) unread failure are fails = absurd are
fails_of profile most some holds (file ∷ files) [] None failure are fails = absurd are
fails_of profile most some holds (file ∷ files) [] (Some other) failure are (inl is) =
    let same : other ≡ failure = cc in
    inl (unread_on profile most holds file failure (subst (IsUnread holds file) same are))
fails_of profile most some holds (file ∷ files) [] (Some other) failure are (inr memory) = inl (unread_on profile most holds file failure (subst (IsUnread holds file) (sym memory) tt))
fails_of profile most some holds (file ∷ files) (it ∷ read) unread failure (one, rest) (inl fails) = inl (fails_on profile most some holds file it failure one fails)
fails_of profile most some holds (file ∷ files) (it ∷ read) unread failure (one, rest) (inr ((certificates, are), fails)) =
    inr ((certificates, holds_certificates profile most holds file it certificates one are), fails_of profile most some holds files read unread failure rest fails)
