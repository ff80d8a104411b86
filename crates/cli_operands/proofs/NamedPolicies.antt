-- Policies that words name, and where the values of certificates start.
use Rattle.std.proofs.Common.{◌≡◌, ◌<◌, ◌∙◌, ◌+◌, ℕ, suc, Bor, Vec, Global, List, [], ◌∷◌, ◌++◌, Option, None, Some, ap, arith, drop, get_or, length, map, refl, sym, subst, take}
use Rattle.cert.specs.Certificate.{Certificate}
use Rattle.cert.specs.declared.fault.CertFault.{CertFault}
use Rattle.cert.specs.declared.fault.CertFault.TheVariants as OfCertificate
use Rattle.cert.specs.declared.fault.CertRule.{CertRule}
use Rattle.path_with_policies.specs.Asking.{HasInputs, IsFirstMalformed}
use Rattle.path_with_policies.specs.WithPolicies.{QueryWithPolicies}
use Rattle.path_with_policies.specs.declared.query.PolicyInputs.{PolicyInputs}
use Rattle.cli_words.specs.PolicyTexts.{PolicyTexts}
use Rattle.cli_words.specs.QueryTexts.{QueryTexts}
use Rattle.cli_failures.specs.Failures.{Holding}
use Rattle.cli_failures.specs.declared.failure.Failure.{Failure}
use Rattle.cli_failures.specs.declared.failure.Failure.TheVariants.{Refused, NoCertificate, NoRevocationList, NoResponse, NotGenuine, BadLine, BadTime, BadPurpose, BadPolicy, BadName, BadTopic, Unreadable, Unwritable, StoreFailed, NoMemory, Shut, NoInput}
use Rattle.cli_operands.specs.Operands.{AreOperands}
use Rattle.cli_operands.specs.PathFiles.{AreCertificatesOf, AreFilesRead, IsFileRead}
use Rattle.cli_operands.specs.PathText.{most_of_path}
use Rattle.cli_operands.specs.Policies.{ArePolicyTerms, AskOfPolicies, HasTermsOf, IsBadPolicy, IsFailureOfPolicies, IsMalformedIn, IsNoPolicy, IsToldAmong, NamePolicies, NamesPolicy, StartsAmong, StartsIn}
use Rattle.cli_operands.specs.declared.operand_files.Operands.{Operands}
use Rattle.cli_operands.specs.declared.path_file.PathFile.{PathFile}
use Rattle.cli_operands.specs.declared.policies.PolicyTerms.{PolicyTerms}
use Rattle.cli_operands.proofs.Certificates.{one_more_at, parted_at}
use Rattle.cli_operands.proofs.Files.{hold_path}
use Rattle.cli_operands.proofs.Places.{certificates_parted, count_of, files_parted}

-- ---- words

pub name_more : (texts policies : List (List ℕ)) (text contents : List ℕ) → NamePolicies texts policies → NamesPolicy text contents → NamePolicies (texts ++ text ∷ []) (policies ++ contents ∷ [])
name_more [] [] text contents named is = (is, tt)
name_more [] (other ∷ policies) text contents named is = absurd named
name_more (first ∷ texts) [] text contents named is = absurd named
name_more (first ∷ texts) (other ∷ policies) text contents (one, named) is = (one, name_more texts policies text contents named is)

pub bad_among : (before : List (List ℕ)) (text : List ℕ) (behind policies : List (List ℕ)) (failure : Failure) → NamePolicies before policies → IsNoPolicy text failure → IsBadPolicy (before ++ text ∷ behind) failure
bad_among before text behind policies (BadPolicy word) named (same, none) = record {
  before = before;
  behind = behind;
  texts_are = ap (λ (one : List ℕ). before ++ one ∷ behind) (sym same);
  policies = policies;
  named = named;
  none = subst (λ (one : List ℕ). (contents : List ℕ) → NamesPolicy one contents → ⊥) (sym same) none;
}
bad_among before text behind policies (Refused file fault) named fails = fails
bad_among before text behind policies (NoCertificate file rule at) named fails = fails
bad_among before text behind policies (NoRevocationList file rule at) named fails = fails
bad_among before text behind policies (NoResponse file rule at) named fails = fails
bad_among before text behind policies (NotGenuine file fault) named fails = fails
bad_among before text behind policies (BadLine file line) named fails = fails
bad_among before text behind policies BadTime named fails = fails
bad_among before text behind policies BadPurpose named fails = fails
bad_among before text behind policies (BadName stop) named fails = fails
bad_among before text behind policies BadTopic named fails = fails
bad_among before text behind policies Shut named fails = fails
bad_among before text behind policies NoInput named fails = fails
bad_among before text behind policies (Unreadable file) named fails = fails
bad_among before text behind policies Unwritable named fails = fails
bad_among before text behind policies (StoreFailed why) named fails = fails
bad_among before text behind policies NoMemory named fails = fails

-- word by word
module _ (words : List (Bor (List ℕ))) (i : ℕ) (d : Bor (List ℕ)) (policies : List (List ℕ)) (within : i < length words) (named : NamePolicies (map (λ word. word.now) (take i words)) policies) where
  pub one_named : (contents : List ℕ) → NamesPolicy (get_or words i d).now contents → NamePolicies (map (λ word. word.now) (take (i + 1) words)) (policies ++ contents ∷ [])
  one_named contents is =
      subst (λ (texts : List (List ℕ)). NamePolicies texts (policies ++ contents ∷ [])) (sym (one_more_at (λ (word : Bor (List ℕ)). word.now) words i d within))
      (name_more (map (λ word. word.now) (take i words)) policies (get_or words i d).now contents named is)

  pub one_bad : (failure : Failure) → IsNoPolicy (get_or words i d).now failure → IsBadPolicy (map (λ word. word.now) words) failure
  one_bad failure fails =
      subst (λ (texts : List (List ℕ)). IsBadPolicy texts failure) (sym (parted_at (λ (word : Bor (List ℕ)). word.now) words i d within))
      (bad_among (map (λ word. word.now) (take i words)) (get_or words i d).now (map (λ word. word.now) (drop (suc i) words)) policies failure named fails)

pub ask_of_policies : (texts : PolicyTexts) (terms : PolicyTerms) (inputs : PolicyInputs) (q : QueryWithPolicies) → ArePolicyTerms texts terms → HasTermsOf terms inputs → HasInputs inputs q.policies → AskOfPolicies texts q.policies
ask_of_policies texts terms inputs q are of has = record {
  policies = subst (NamePolicies texts.policies) (sym (has.initial_policies ∙ of.initial_policies)) are.policies;
  require_policy = has.require_explicit_policy ∙ of.require_policy ∙ are.require_policy;
  inhibit_mapping = has.inhibit_policy_mapping ∙ of.inhibit_mapping ∙ are.inhibit_mapping;
  inhibit_any_policy = has.inhibit_any_policy ∙ of.inhibit_any_policy ∙ are.inhibit_any_policy;
}

-- ---- where values start

-- a value, with those in front of it and behind it
pub split_values : (values : List (Vec ℕ Global)) (i : ℕ) → i < length values
    → (value : List ℕ) × (map (λ it. it.items) values ≡ map (λ it. it.items) (take i values) ++ value ∷ map (λ it. it.items) (drop (suc i) values))
split_values [] i within = absurd (omega (arith, within))
split_values (value ∷ values) i within =
    ((get_or (value ∷ values) i value).items, parted_at (λ (it : Vec ℕ Global). it.items) (value ∷ values) i value within)

pub starts_in : (holds : Holding) (names : List (List ℕ)) (files : List PathFile) (unread : Option Failure) (certificates : List Certificate) (index : ℕ) (file : List ℕ) (start : ℕ)
    → AreFilesRead holds.profile most_of_path holds names files unread → AreCertificatesOf files certificates → StartsAmong files index file start → StartsIn holds names (index + 1) file start
starts_in holds names files unread certificates index file start read are starts =
    let parted = files_parted holds.profile most_of_path holds names starts.before starts.it starts.behind unread (subst (λ (them : List PathFile). AreFilesRead holds.profile most_of_path holds names them unread) starts.files_are read) in
    let own = certificates_parted starts.before starts.it starts.behind certificates (subst (λ (them : List PathFile). AreCertificatesOf them certificates) starts.files_are are) in
    let found = subst (λ (name : List ℕ). IsFileRead holds.profile most_of_path holds name starts.it) starts.file_is parted.it_read in
    let values = found.2.2 in
    record {
      before = parted.front;
      behind = parted.back;
      files_are = parted.names_are ∙ ap (λ (name : List ℕ). parted.front ++ name ∷ parted.back) starts.file_is;
      certificates_before = own.front;
      hold_before = hold_path holds.profile most_of_path holds parted.front starts.before None own.front parted.front_read refl own.front_are;
      octets = found.2.0;
      held = found.2.1;
      values = _;
      left = values.left;
      begins = values.begins;
      front = starts.front;
      value = starts.value;
      back = starts.back;
      values_are = starts.values_are;
      counted = omega (arith, starts.counted, count_of starts.before own.front own.front_are);
      start_is = starts.start_is;
    }

-- a failure on the first certificate whose extensions about policies are malformed
told_in : (holds : Holding) (names : List (List ℕ)) (files : List PathFile) (unread : Option Failure) (certificates : List Certificate) (index : ℕ) (fault : CertFault) (failure : Failure)
    → AreFilesRead holds.profile most_of_path holds names files unread → unread ≡ None → AreCertificatesOf files certificates → IsFirstMalformed certificates (index + 1) fault → IsToldAmong files index fault failure
    → IsFailureOfPolicies holds names failure
told_in holds names files unread certificates index (OfCertificate.Refused rule offset) (NoCertificate named broken at) read all are first (same, (start, starts, at_is)) = record {
  certificates = certificates;
  hold = hold_path holds.profile most_of_path holds names files unread certificates read all are;
  j = index + 1;
  offset = offset;
  first = subst (λ (one : CertRule). IsFirstMalformed certificates (index + 1) (OfCertificate.Refused one offset)) (sym same) first;
  start = start;
  starts = starts_in holds names files unread certificates index named.now start read are starts;
  at_is = at_is;
}
told_in holds names files unread certificates index fault failure read all are first memory = subst (IsFailureOfPolicies holds names) (sym memory) refl

pub malformed_in : (holds : Holding) (texts : QueryTexts) (it : Operands) (failure : Failure) → AreOperands holds texts it → IsMalformedIn it failure → IsFailureOfPolicies holds texts.files failure
malformed_in holds texts it failure are (query, fault, index, certificates_are, all, first, told) =
    told_in holds texts.files it.path.files.items it.path.unread query.certificates index fault failure are.path all certificates_are first told
