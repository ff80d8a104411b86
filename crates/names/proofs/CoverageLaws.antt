-- Names and subtrees that say the same cover the same.
use Rattle.std.proofs.Common.{◌==◌, ◌⊎◌, ℕ, List, length, refl, ap, IsTrue}
use Rattle.std.specs.Prelude.{◌↔◌}
use Rattle.std.proofs.lemmas.Bool.{and_parts, and_from, eqb-true, eq-eqb}
use Rattle.names.specs.declared.general.General.TheVariants as G
use Rattle.names.specs.declared.general.Form.TheVariants as F
use Rattle.names.specs.declared.subtree.Subtree.TheVariants as S
use Rattle.names.specs.Ip.{agree, is_in_address_range, is_range_inside}
use Rattle.names.specs.GeneralSubtree.{is_in_subtree, is_subtree_inside, has_form}
use Rattle.names.specs.Bases.{DomainNames, every_name, names_within, names_below, AddressRange}
use Rattle.names.specs.GeneralLayout.{GeneralName, SubtreeBase, directory_name, dns_name, ip_address, directory_base, dns_base, ip_base, other_base}
use Rattle.names.specs.GeneralCoverage.{is_domain_among, is_address_of, is_range_of, is_covered, is_base_inside, is_of_form, IsAmong, IsInAddressRange, CoverageTestIsExact, CoverageIsOfContents, InsideIsOfContents, NameFormIsOfContents, BaseFormIsOfContents, FormTestIsOfContents, BaseInsideIsSound, SharedBasesAreNested, CoveredIsOfForm, CoveredIsProcessed, BaseFormTestIsExact}
use Rattle.names.proofs.DomainLaws.{more_is_exact, names_inside, names_nested, among, among_all}
use Rattle.names.proofs.Labels.{ends_in_is_exact}
use Rattle.names.proofs.Ranges.{Same, same_of, agree_of, addresses_inside, addresses_nested}
use Rattle.names.proofs.Subtrees.{test_within, within_nested, other_same}
use Rattle.names_distinguished.proofs.Laws.{within_is_exact}

pub coverage_is_of_contents : CoverageIsOfContents
unfolding is_in_subtree is_covered is_in_address_range is_address_of
coverage_is_of_contents (G.Directory x) (S.Directory s) = refl
coverage_is_of_contents (G.Dns x) (S.Dns s) = among x.now s
coverage_is_of_contents (G.Ip x) (S.Ip s) = refl
coverage_is_of_contents x s = refl

pub inside_is_of_contents : InsideIsOfContents
unfolding is_subtree_inside is_base_inside is_range_inside is_range_of
inside_is_of_contents (S.Directory s) (S.Directory t) = refl
inside_is_of_contents (S.Dns s) (S.Dns t) = among_all s t
inside_is_of_contents (S.Ip s) (S.Ip t) = refl
inside_is_of_contents s t = refl

pub name_form_is_of_contents : NameFormIsOfContents
name_form_is_of_contents (G.Directory x) = refl
name_form_is_of_contents (G.Dns x) = refl
name_form_is_of_contents (G.Ip x) = refl
name_form_is_of_contents (G.Other n x) = refl

pub base_form_is_of_contents : BaseFormIsOfContents
base_form_is_of_contents (S.Directory s) = refl
base_form_is_of_contents (S.Dns s) = refl
base_form_is_of_contents (S.Ip s) = refl
base_form_is_of_contents (S.Other n s) = refl

among_test : (name : List ℕ) (names : DomainNames) → (IsTrue (is_domain_among name names) ↔ IsAmong name names)
unfolding is_domain_among
among_test name every_name = (λ _. tt, λ _. refl)
among_test name (names_within base) = ends_in_is_exact name base
among_test name (names_below base) = more_is_exact name base

address_test : (address : List ℕ) (range : AddressRange) → (IsTrue (is_address_of address range) ↔ IsInAddressRange address range)
unfolding is_address_of Same
address_test address range = (
  λ t.
      let both = and_parts (length address == length range.address) (agree range.prefix range.address address) t in
      record {
        same_length = eqb-true (length address) (length range.address) both.0;
        agree = same_of range.prefix range.address address both.1;
      },
  λ h.
      and_from (length address == length range.address) (agree range.prefix range.address address)
      (eq-eqb (length address) (length range.address) h.same_length) (agree_of range.prefix range.address address h.agree),
)

pub coverage_test_is_exact : CoverageTestIsExact
unfolding is_covered
coverage_test_is_exact (directory_name name) (directory_base base) = within_is_exact name.rdns base.rdns
coverage_test_is_exact (dns_name name) (dns_base names) = among_test name names
coverage_test_is_exact (ip_address address) (ip_base range) = address_test address range
coverage_test_is_exact name base = (λ h. cc, λ h. absurd h)

-- the same laws as of subtrees, of what their bases say

inside_test : (name : GeneralName) (s t : SubtreeBase) → IsTrue (is_base_inside s t) → IsTrue (is_covered name s) → IsTrue (is_covered name t)
unfolding is_covered is_base_inside
inside_test (directory_name x) (directory_base s) (directory_base t) p q = test_within x.rdns s.rdns t.rdns p q
inside_test (dns_name x) (dns_base s) (dns_base t) p q = names_inside x s t p q
inside_test (ip_address x) (ip_base s) (ip_base t) p q = addresses_inside x s t p q
inside_test x s t p q = cc

nested_test : (name : GeneralName) (s t : SubtreeBase) → IsTrue (is_covered name s) → IsTrue (is_covered name t) → IsTrue (is_base_inside s t) ⊎ IsTrue (is_base_inside t s)
unfolding is_covered is_base_inside
nested_test (directory_name x) (directory_base s) (directory_base t) p q =
    within_nested x.rdns s.rdns t.rdns ((within_is_exact x.rdns s.rdns).0 p) ((within_is_exact x.rdns t.rdns).0 q)
nested_test (dns_name x) (dns_base s) (dns_base t) p q = names_nested x s t p q
nested_test (ip_address x) (ip_base s) (ip_base t) p q = addresses_nested x s t p q
nested_test x s t p q = cc

pub base_inside_is_sound : BaseInsideIsSound
base_inside_is_sound x s t p q = (coverage_test_is_exact x t).0 (inside_test x s t p ((coverage_test_is_exact x s).1 q))

pub shared_bases_are_nested : SharedBasesAreNested
shared_bases_are_nested x s t p q = nested_test x s t ((coverage_test_is_exact x s).1 p) ((coverage_test_is_exact x t).1 q)

pub covered_is_of_form : CoveredIsOfForm
covered_is_of_form (directory_name x) (directory_base s) p = refl
covered_is_of_form (dns_name x) (dns_base s) p = refl
covered_is_of_form (ip_address x) (ip_base s) p = refl
covered_is_of_form x s p = absurd p

pub covered_is_processed : CoveredIsProcessed
covered_is_processed (directory_name x) (directory_base s) p = tt
covered_is_processed (dns_name x) (dns_base s) p = tt
covered_is_processed (ip_address x) (ip_base s) p = tt
covered_is_processed x s p = absurd p

pub form_test_is_of_contents : FormTestIsOfContents
unfolding has_form is_of_form
form_test_is_of_contents (S.Directory s) F.Directory = refl
form_test_is_of_contents (S.Dns s) F.Dns = refl
form_test_is_of_contents (S.Ip s) F.Ip = refl
form_test_is_of_contents (S.Other m s) (F.Other n) = refl
form_test_is_of_contents s f = refl

pub base_form_test_is_exact : BaseFormTestIsExact
unfolding is_of_form
base_form_test_is_exact (directory_base s) F.Directory = (λ _. refl, λ _. refl)
base_form_test_is_exact (dns_base s) F.Dns = (λ _. refl, λ _. refl)
base_form_test_is_exact (ip_base s) F.Ip = (λ _. refl, λ _. refl)
base_form_test_is_exact (other_base m s) (F.Other n) = (λ h. ap (λ k. F.Other k) (eqb-true m n h), λ h. eq-eqb m n (other_same m n h))
base_form_test_is_exact s f = (λ h. cc, λ h. cc)
