-- The laws that other crates may cite: what operands ask, and what is wrong with them.
use Rattle.std.proofs.Common.{◌≡◌, ◌<◌, ◌∙◌, ◌∷◌, ◌++◌, [], ℕ, List, Option, Ok, ap, arith, inl, inr, length, map, reverse, subst, sym}
use Rattle.cert.specs.Certificate.{Certificate, seen_certificate}
use Rattle.path.specs.Query.{Query}
use Rattle.path.specs.declared.options.Options.{Options}
use Rattle.path_issuers.specs.Search.{Candidate, IsCandidate, Search}
use Rattle.cli_answers.specs.SearchText.{Place}
use Rattle.cli_words.specs.QueryTexts.{QueryTexts}
use Rattle.cli_words.specs.SearchTexts.{SearchTexts}
use Rattle.path.specs.InProfile.{certificate_in}
use Rattle.statements_facts.specs.declared.profile.Profile.{Profile}
use Rattle.statements_facts.specs.declared.profile.Profile.TheVariants.{Stated}
use Rattle.cli_failures.specs.Failures.{Holding, IsJust, IsNoCertificate, IsNoCertificateIn}
use Rattle.cli_failures.specs.declared.failure.Failure.{Failure}
use Rattle.cli_operands.specs.Asked.{AreTerms, Asks, HaveTerms, IsFailureOfCertificates, IsPurposeOf, MakeTerms, NameTerms, purpose_contents}
use Rattle.cli_operands.specs.FilePlaces.{StandsIfThere}
use Rattle.cli_operands.specs.Moment.{IsMoment}
use Rattle.cli_operands.specs.Operands.{AreOperands, IsQueryOf, IsRefusalIn}
use Rattle.cli_operands.specs.PathText.{HoldPath, most_of_path, most_of_search}
use Rattle.cli_operands.specs.Searching.{AreCertificatesOfSearch, ArePlacesIn, ArePlacesOf, AreSearchOperands, AsksToFind, HoldSearched, IsFailureOfSearched, IsRefusalInSearch, IsSearchFor, StandsIn}
use Rattle.cli_operands.specs.declared.operand_files.Operands.{Operands}
use Rattle.cli_operands.specs.declared.search_files.SearchCertificates.{SearchCertificates}
use Rattle.cli_operands.specs.declared.search_files.SearchOperands.{SearchOperands}
use Rattle.cli_operands.specs.declared.terms.Terms.{Terms}
use Rattle.path_with_policies.specs.WithPolicies.{QueryWithPolicies}
use Rattle.path_with_policies.specs.declared.query.PolicyInputs.{PolicyInputs}
use Rattle.cli_words.specs.PolicyTexts.{PolicyTexts}
use Rattle.cli_operands.specs.Policies.{ArePolicyTerms, AsksWithPolicies, HasTermsOf, IsFailureOfPolicyPath, IsPolicyQueryOf, IsRefusalWithPolicies}
use Rattle.cli_operands.specs.declared.policies.PolicyTerms.{PolicyTerms}
use Rattle.cli_operands.proofs.Files.{fails_of, hold_path, no_certificate}
use Rattle.cli_operands.proofs.NamedPolicies.{ask_of_policies, malformed_in}
use Rattle.cli_operands.proofs.Places.{count_of, each_as, reversed, stands_in}
-- files that hold no certificate
pub use Rattle.cli_operands.proofs.Files.{no_certificate, unread_certificate}

-- terms that texts name are some
pub make_terms : (moment_text : List ℕ) (purpose_text : Option (List ℕ)) (terms : Terms) → AreTerms moment_text purpose_text terms → MakeTerms moment_text purpose_text
make_terms moment_text purpose_text terms named =
    record { seconds = terms.moment; moment = named.moment; contents = purpose_contents terms; purpose = named.purpose }

pub have_terms : (texts : QueryTexts) (terms : Terms) → NameTerms texts terms → HaveTerms texts
have_terms texts terms named = make_terms texts.moment texts.purpose terms named

-- the query on these terms about the certificates that they have
pub ask : (holds : Holding) (texts : QueryTexts) (terms : Terms) (it : Operands) (query : Query) → NameTerms texts terms → AreOperands holds texts it → IsQueryOf it terms query → Asks holds texts query
ask holds texts terms it query named are of = record {
  moment = subst (λ moment. IsMoment texts.moment moment) (sym of.moment) named.moment;
  purpose = subst (λ purpose. IsPurposeOf texts.purpose purpose) (sym of.purpose) named.purpose;
  options = of.options ∙ are.options;
  anchor = (it.anchor.items, are.anchor, of.anchor_is);
  path = hold_path holds.profile most_of_path holds texts.files it.path.files.items it.path.unread query.certificates are.path of.all of.path_is;
}

-- a refusal of one of their certificates
pub refuse : (holds : Holding) (texts : QueryTexts) (it : Operands) (failure : Failure) → AreOperands holds texts it → IsRefusalIn it failure → IsFailureOfCertificates holds texts failure
refuse holds texts it failure are (inl fails) =
    inl (no_certificate Stated Stated holds it.anchor.items texts.anchor failure are.anchor (subst (λ (file : List ℕ). IsNoCertificate (IsJust Stated it.anchor.items) file failure) are.anchor_file fails))
refuse holds texts it failure are (inr ((anchor, is), fails)) =
    inr ((anchor, (it.anchor.items, are.anchor, is)), fails_of holds.profile most_of_path (omega arith) holds texts.files it.path.files.items it.path.unread failure are.path fails)

-- ---- policies

-- the query with policies
pub ask_with_policies : (holds : Holding) (texts : QueryTexts) (asked : PolicyTexts) (terms : Terms) (policies : PolicyTerms) (inputs : PolicyInputs) (it : Operands) (q : QueryWithPolicies)
    → NameTerms texts terms → ArePolicyTerms asked policies → HasTermsOf policies inputs → AreOperands holds texts it → IsPolicyQueryOf it terms inputs q → AsksWithPolicies holds texts asked q
ask_with_policies holds texts asked terms policies inputs it q named say of are is = record {
  query = is.0.query;
  asks = ask holds texts terms it is.0.query named are is.0.is;
  of = is.0.of;
  of_policies = ask_of_policies asked policies inputs q say of is.1;
}

-- a refusal of one of their certificates, or of what it says of policies
pub refuse_with_policies : (holds : Holding) (texts : QueryTexts) (terms : Terms) (it : Operands) (failure : Failure) → NameTerms texts terms → AreOperands holds texts it → IsRefusalWithPolicies it terms failure
    → IsFailureOfPolicyPath holds texts failure
refuse_with_policies holds texts terms it failure named are (inl refused) = inl (refuse holds texts it failure are refused)
refuse_with_policies holds texts terms it failure named are (inr ((query, is), malformed)) =
    inr ((query, ask holds texts terms it query named are is), malformed_in holds texts it failure are malformed)

-- ---- searches

-- the target is read in the same profile
target_in : (holds : Holding) (texts : SearchTexts) (it : SearchOperands) (target : Certificate) → AreSearchOperands holds texts it → certificate_in it.profile it.target.items ≡ Ok target
    → certificate_in holds.profile it.target.items ≡ Ok target
target_in holds texts it target are is = subst (λ (in_profile : Profile). certificate_in in_profile it.target.items ≡ Ok target) are.profile is

-- the certificates that they have are those that the files hold
pub hold_searched : (holds : Holding) (texts : SearchTexts) (terms : Terms) (it : SearchOperands) (read : SearchCertificates) (search : Search)
    → AreSearchOperands holds texts it → AreCertificatesOfSearch it read → IsSearchFor read terms search → HoldSearched holds texts search
hold_searched holds texts terms it read search are of is = record {
  target = (it.target.items, are.target, target_in holds texts it search.target are (of.target_is ∙ ap Ok (sym is.target)));
  anchors = subst (λ (them : List Certificate). HoldPath Stated most_of_search holds texts.anchors them) (sym is.anchors)
      (hold_path Stated most_of_search holds texts.anchors it.anchors.files.items it.anchors.unread (map seen_certificate read.anchors.items) are.anchors of.all_anchors of.anchors_are);
  bag = subst (λ (them : List Certificate). HoldPath holds.profile most_of_search holds texts.among them) (sym is.bag)
      (hold_path holds.profile most_of_search holds texts.among it.among.files.items it.among.unread (map seen_certificate read.bag.items) are.among of.all_of_bag of.bag_is);
}

-- the options of a profile
abbrev options_in : Profile → Options
options_in profile = record { profile = profile }

-- the search on these terms among them
pub ask_to_find : (holds : Holding) (texts : SearchTexts) (terms : Terms) (it : SearchOperands) (read : SearchCertificates) (search : Search)
    → AreTerms texts.moment texts.purpose terms → AreSearchOperands holds texts it → AreCertificatesOfSearch it read → IsSearchFor read terms search → AsksToFind holds texts search
ask_to_find holds texts terms it read search named are of is = record {
  moment = subst (λ moment. IsMoment texts.moment moment) (sym is.moment) named.moment;
  purpose = subst (λ purpose. IsPurposeOf texts.purpose purpose) (sym is.purpose) named.purpose;
  options = is.options ∙ of.options_are ∙ ap options_in are.profile;
  held = hold_searched holds texts terms it read search are of is;
}

-- a refusal of one of them
pub refuse_search : (holds : Holding) (texts : SearchTexts) (it : SearchOperands) (failure : Failure) → AreSearchOperands holds texts it → IsRefusalInSearch it failure → IsFailureOfSearched holds texts failure
refuse_search holds texts it failure are (inl fails) =
    let told = subst (λ (in_profile : Profile). IsNoCertificateIn in_profile (IsJust it.profile it.target.items) it.target_file.now failure) are.profile fails in
    inl (no_certificate holds.profile it.profile holds it.target.items texts.target failure are.target
    (subst (λ (file : List ℕ). IsNoCertificateIn holds.profile (IsJust it.profile it.target.items) file failure) are.target_file told))
refuse_search holds texts it failure are (inr ((target, is), inl fails)) =
    inr ((target, (it.target.items, are.target, target_in holds texts it target are is)), inl (fails_of Stated most_of_search (omega arith) holds texts.anchors it.anchors.files.items it.anchors.unread failure are.anchors fails))
refuse_search holds texts it failure are (inr ((target, is), inr ((anchors, of, all), fails))) =
    inr (
      (target, (it.target.items, are.target, target_in holds texts it target are is)),
      inr (
        (anchors, hold_path Stated most_of_search holds texts.anchors it.anchors.files.items it.anchors.unread anchors are.anchors all of),
        fails_of holds.profile most_of_search (omega arith) holds texts.among it.among.files.items it.among.unread failure are.among fails,
      ),
    )

-- where the certificates of a path stand that was found by the search
pub places_stand : (holds : Holding) (texts : SearchTexts) (terms : Terms) (it : SearchOperands) (read : SearchCertificates) (search : Search) (candidate : Candidate) (places : List Place)
    → AreSearchOperands holds texts it → AreCertificatesOfSearch it read → IsSearchFor read terms search → IsCandidate search candidate → ArePlacesIn it candidate places
    → ArePlacesOf holds texts candidate places
places_stand holds texts terms it read search candidate places are of is within stand = record {
  anchor = stand.anchor;
  between = stand.between;
  places_are = stand.places_are ∙ ap (λ (file : List ℕ). stand.anchor ∷ (stand.between ++ record { file = file; number = 1 } ∷ [])) are.target_file;
  anchor_stands = stands_in Stated holds texts.anchors it.anchors.files.items it.anchors.unread anchors candidate.anchor stand.anchor are.anchors of.anchors_are
      (stand.anchor_stands (omega (arith, within.anchor, ap length is.anchors, count_of it.anchors.files.items anchors of.anchors_are)));
  between_stand = each_as (λ index. index < length search.bag) (StandsIfThere it.among.files.items) (λ index place. StandsIn holds.profile holds texts.among index place.file place.number)
      (λ index place small stands. stands_in holds.profile holds texts.among it.among.files.items it.among.unread bag index place are.among of.bag_is (stands (omega (arith, small, ap length is.bag, count_of it.among.files.items bag of.bag_is))))
      (reverse candidate.above) stand.between (reversed (λ index. index < length search.bag) candidate.above within.above) stand.between_stand;
}
  where
    anchors : List Certificate
    anchors = map seen_certificate read.anchors.items

    bag : List Certificate
    bag = map seen_certificate read.bag.items
