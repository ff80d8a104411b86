-- Where the certificates of a path stand.
use Rattle.std.proofs.Common.{◌≡◌, ◌∙◌, ℕ, List, [], ◌∷◌, ◌++◌, Option, None, Result, Ok, Vec, Global, ap, arith, length, refl, reverse, subst, sym}
use mathlib.Core.List.{reverse_aux}
use Rattle.std.specs.List.{AllByRecursion}
use Rattle.std.proofs.lemmas.List.{length-append, length-map}
use Rattle.std.proofs.lemmas.List.Sums.{sum_by-cons}
use Rattle.cert.specs.Certificate.{Certificate}
use Rattle.cert.specs.declared.fault.CertRule.{CertRule}
use Rattle.path.specs.InProfile.{certificate_in}
use Rattle.statements_facts.specs.declared.profile.Profile.{Profile}
use Rattle.cli_answers.specs.SearchText.{Place}
use Rattle.cli_failures.specs.Failures.{Holding}
use Rattle.cli_failures.specs.declared.failure.Failure.{Failure}
use Rattle.cli_operands.specs.FilePlaces.{EachStands, StandsAmong, value_count, values_in}
use Rattle.cli_operands.specs.PathFiles.{AreCertificatesIn, AreCertificatesOf, AreFilesRead, IsFileRead, values_read}
use Rattle.cli_operands.specs.PathText.{most_of_search}
use Rattle.cli_operands.specs.Searching.{StandsIn}
use Rattle.cli_operands.specs.declared.path_file.PathFile.{PathFile}
use Rattle.cli_operands.proofs.Files.{hold_path, holds_certificates}

-- ---- numbers that each stand at a place

-- one more
pub each_more : (Stands : ℕ → Place → Type 0) (indexes : List ℕ) (places : List Place) (index : ℕ) (place : Place) → EachStands Stands indexes places → Stands index place
    → EachStands Stands (indexes ++ index ∷ []) (places ++ place ∷ [])
each_more Stands [] [] index place each stands = (stands, tt)
each_more Stands [] (other ∷ places) index place each stands = absurd each
each_more Stands (first ∷ indexes) [] index place each stands = absurd each
each_more Stands (first ∷ indexes) (other ∷ places) index place (one, each) stands = (one, each_more Stands indexes places index place each stands)

-- in another sense, if the numbers are small enough for it
pub each_as : (Small : ℕ → Type 0) (Stands Others : ℕ → Place → Type 0) → ((index : ℕ) (place : Place) → Small index → Stands index place → Others index place)
    → (indexes : List ℕ) (places : List Place) → AllByRecursion Small indexes → EachStands Stands indexes places → EachStands Others indexes places
each_as Small Stands Others then [] [] small each = tt
each_as Small Stands Others then [] (other ∷ places) small each = absurd each
each_as Small Stands Others then (first ∷ indexes) [] small each = absurd each
each_as Small Stands Others then (first ∷ indexes) (other ∷ places) (one, small) (stands, each) = (then first other one stands, each_as Small Stands Others then indexes places small each)

-- all are small in the other order
reversed_onto : (Small : ℕ → Type 0) (front back : List ℕ) → AllByRecursion Small front → AllByRecursion Small back → AllByRecursion Small (reverse_aux front back)
reversed_onto Small [] back small others = others
reversed_onto Small (first ∷ front) back (one, small) others = reversed_onto Small front (first ∷ back) small (one, others)

pub reversed : (Small : ℕ → Type 0) (numbers : List ℕ) → AllByRecursion Small numbers → AllByRecursion Small (reverse numbers)
reversed Small numbers small = reversed_onto Small numbers [] small tt

-- ---- as many certificates as values

count_in : (it : PathFile) (certificates : List Certificate) → AreCertificatesIn it certificates → length certificates ≡ value_count it
count_in it certificates are = omega (arith, it.values.ok, length-map it.values.items (λ (value : Vec ℕ Global). value.items), length-map (values_read it) (certificate_in it.profile), length-map {B = Result Certificate (CertRule × ℕ)} certificates Ok, ap length are.each)

pub count_of : (files : List PathFile) (certificates : List Certificate) → AreCertificatesOf files certificates → length certificates ≡ values_in files
count_of [] certificates none = ap length none
count_of (it ∷ files) certificates (first, more, are_first, are_more, is) =
    omega (arith, ap length is, length-append first more, count_in it first are_first, count_of files more are_more, sum_by-cons value_count it files)

-- ---- a file among others

pub record FilesParted (profile : Profile) (most : ℕ) (holds : Holding) (names : List (List ℕ)) (before : List PathFile) (it : PathFile) : Type 0 where
  pub front : List (List ℕ)
  pub back : List (List ℕ)
  pub names_are : names ≡ front ++ it.file.now ∷ back
  pub front_read : AreFilesRead profile most holds front before None
  pub it_read : IsFileRead profile most holds it.file.now it

pub files_parted : (profile : Profile) (most : ℕ) (holds : Holding) (names : List (List ℕ)) (before : List PathFile) (it : PathFile) (behind : List PathFile) (unread : Option Failure)
    → AreFilesRead profile most holds names (before ++ it ∷ behind) unread → FilesParted profile most holds names before it
files_parted profile most holds [] [] it behind unread read = absurd read
files_parted profile most holds [] (other ∷ before) it behind unread read = absurd read
files_parted profile most holds (name ∷ names) [] it behind unread (one, rest) =
    record { front = []; back = names; names_are = ap (λ (file : List ℕ). file ∷ names) (sym one.0); front_read = tt; it_read = subst (λ (file : List ℕ). IsFileRead profile most holds file it) (sym one.0) one }
files_parted profile most holds (name ∷ names) (other ∷ before) it behind unread (one, rest) =
    let more = files_parted profile most holds names before it behind unread rest in
    record {
      front = name ∷ more.front;
      back = more.back;
      names_are = ap (λ (files : List (List ℕ)). name ∷ files) more.names_are;
      front_read = (one, more.front_read);
      it_read = more.it_read;
    }

pub record CertificatesParted (before : List PathFile) (it : PathFile) : Type 0 where
  pub front : List Certificate
  pub own : List Certificate
  pub front_are : AreCertificatesOf before front
  pub own_are : AreCertificatesIn it own

pub certificates_parted : (before : List PathFile) (it : PathFile) (behind : List PathFile) (certificates : List Certificate) → AreCertificatesOf (before ++ it ∷ behind) certificates → CertificatesParted before it
certificates_parted [] it behind certificates (first, more, are_first, are_more, is) = record { front = []; own = first; front_are = refl; own_are = are_first }
certificates_parted (other ∷ before) it behind certificates (first, more, are_first, are_more, is) =
    let rest = certificates_parted before it behind more are_more in
    record { front = first ++ rest.front; own = rest.own; front_are = (first, rest.front, are_first, rest.front_are, refl); own_are = rest.own_are }

-- where a value stands among those that were read, a certificate stands in what the files hold
pub stands_in : (profile : Profile) (holds : Holding) (names : List (List ℕ)) (files : List PathFile) (unread : Option Failure) (certificates : List Certificate) (index : ℕ) (place : Place)
    → AreFilesRead profile most_of_search holds names files unread → AreCertificatesOf files certificates → StandsAmong files index place → StandsIn profile holds names index place.file place.number
stands_in profile holds names files unread certificates index place read are stands =
    let parted = files_parted profile most_of_search holds names stands.before stands.it stands.behind unread (subst (λ (them : List PathFile). AreFilesRead profile most_of_search holds names them unread) stands.files_are read) in
    let own = certificates_parted stands.before stands.it stands.behind certificates (subst (λ (them : List PathFile). AreCertificatesOf them certificates) stands.files_are are) in
    record {
      before = parted.front;
      behind = parted.back;
      files_are = parted.names_are ∙ ap (λ (file : List ℕ). parted.front ++ file ∷ parted.back) (sym stands.file_is);
      certificates_before = own.front;
      hold_before = hold_path profile most_of_search holds parted.front stands.before None own.front parted.front_read refl own.front_are;
      certificates = own.own;
      holds_them = holds_certificates profile most_of_search holds place.file stands.it own.own (subst (λ (file : List ℕ). IsFileRead profile most_of_search holds file stands.it) (sym stands.file_is) parted.it_read) own.own_are;
      counted = omega (arith, stands.counted, count_of stands.before own.front own.front_are);
      some = stands.some;
      within = omega (arith, stands.within, count_in stands.it own.own own.own_are);
    }
