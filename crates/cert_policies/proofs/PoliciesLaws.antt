-- The walk of certificate policies finds what the standard calls them, and nothing else.
use Rattle.std.proofs.Common.{◌≡◌, ℕ, false, not, List, [], ◌∷◌, ◌++◌, append-nil, append_assoc, Option, Some, None, Ok, refl, sym, ap, ◌∙◌, subst}
use Rattle.std.specs.List.{AllZip}
use Rattle.std.specs.FinSet.{empty, contains, insert}
use Rattle.std.proofs.lemmas.Bool.{not-true}
use Rattle.asn.specs.DerLaws.{AreOctets}
use Rattle.asn.specs.Place.{Place, tag, body, body_place}
use Rattle.asn.specs.Members.{Members, members, begins}
use Rattle.asn.specs.Walk.{optional, ended, each, Leads}
use Rattle.asn.proofs.Laws.{bind_ok, ok_is, check_ok, check_again, is_a_ok, is_a_again, required_ok, required_again, TakesOptional, optional_is, optional_there, optional_absent, ended_ok, ended_again, some_ok, some_again, each_ok}
use Rattle.cert.specs.declared.fault.CertRule.{CertRule}
use Rattle.cert.specs.declared.fault.CertRule.TheVariants.{ExtensionValue}
use Rattle.cert_policies.specs.CertificatePolicies.{policy_information, Stated, none_stated, one_more_policy, certificate_policies, AreQualifiers, IsPolicyInformation, AreCertificatePolicies}
use Rattle.cert_policies.proofs.ContainedValues.{contained_ok, contained_again}
use Rattle.cert_policies.proofs.AddedItems.{some_of, is_some_of}
use Rattle.cert_policies.proofs.NewPolicies.{AreNew, new_pairs, pairs_are_new}

-- qualifiers are the last value, where there are any
of_qualifiers : (left : Members) (found : Option Place) (others : Members) → TakesOptional 0x30 left found others → others.values ≡ [] → AreQualifiers left.values
of_qualifiers left None others took end =
    let none : left.values ≡ [] = ap (λ (m : Members). m.values) (sym took.0) ∙ end in
    subst AreQualifiers (sym none) tt
of_qualifiers left (Some value) others took end =
    let one : left.values ≡ value ∷ [] = took.values ∙ ap (◌∷◌ value) end in
    subst AreQualifiers (sym one) took.tag_is

begins_none : (left : Members) → left.values ≡ [] → begins 0x30 left ≡ false
unfolding begins
begins_none left none = rw none refl

ended_behind : (left : Members) (qualifiers : List Place) → left.values ≡ qualifiers → AreQualifiers qualifiers → ended ExtensionValue (optional 0x30 left).1 ≡ Ok tt
ended_behind left [] e are = rw (optional_absent 0x30 left (begins_none left e)) (ended_again ExtensionValue left e)
ended_behind left (value ∷ []) e are = rw (optional_there 0x30 left value [] e are) (ended_again ExtensionValue (record { values = []; end = left.end }) refl)
ended_behind left (value ∷ other ∷ values) e are = absurd are

-- one policy
is_information : (value : Place) (policy : List ℕ) → policy_information value ≡ Ok policy → IsPolicyInformation value policy
unfolding policy_information
is_information value policy e =
    let sequence = bind_ok _ _ policy e in
    let oid = bind_ok _ _ policy sequence.2 in
    let done = bind_ok _ _ policy oid.2 in
    let first = required_ok _ _ _ _ oid.1 in
    let end = ended_ok _ _ _ done.1 in
    record {
      identifier = oid.0.0;
      qualifiers = oid.0.1.values;
      sequence = is_a_ok _ _ _ _ sequence.1;
      members_are = first.values;
      oid = first.tag_is;
      policy_is = ok_is {E = CertRule × ℕ} (body oid.0.0) policy done.2;
      qualifiers_are = of_qualifiers oid.0.1 (optional 0x30 oid.0.1).0 (optional 0x30 oid.0.1).1 (optional_is 0x30 oid.0.1) end;
    }

information_is : (value : Place) (policy : List ℕ) → IsPolicyInformation value policy → policy_information value ≡ Ok policy
unfolding policy_information
information_is value policy is =
    let left : Members = record { values = is.qualifiers; end = (members value).end } in
    rw (is_a_again 0x30 ExtensionValue value is.sequence, required_again 0x06 ExtensionValue (members value) is.identifier is.qualifiers is.members_are is.oid, ended_behind left is.qualifiers refl is.qualifiers_are, is.policy_is) refl

-- one more policy
abbrev with_policy : List ℕ → Stated → Stated
with_policy policy from = record { set = insert from.set policy; policies = from.policies ++ policy ∷ [] }

record Step (from : Stated) (value : Place) (to : Stated) : Type 0 where
  policy : List ℕ
  is : IsPolicyInformation value policy
  new : contains from.set policy ≡ false
  made : to ≡ with_policy policy from

step_ok : (from : Stated) (value : Place) (to : Stated) → one_more_policy from value ≡ Ok to → Step from value to
unfolding one_more_policy
step_ok from value to e =
    let policy = bind_ok _ _ to e in
    let new = bind_ok _ _ to policy.2 in
    record {
      policy = policy.0;
      is = is_information value policy.0 policy.1;
      new = not-true (contains from.set policy.0) (check_ok _ _ _ _ new.1);
      made = sym (ok_is {E = CertRule × ℕ} (with_policy policy.0 from) to new.2);
    }

step_again : (from : Stated) (value : Place) (policy : List ℕ) → IsPolicyInformation value policy → contains from.set policy ≡ false → one_more_policy from value ≡ Ok (with_policy policy from)
unfolding one_more_policy
step_again from value policy is new = rw (information_is value policy is, check_again (not (contains from.set policy)) ExtensionValue value.at (ap not new)) refl

-- all of them
record Reads (from : Stated) (values : List Place) (to : Stated) : Type 0 where
  list : List (List ℕ)
  each : AllZip IsPolicyInformation values list
  new : AreNew from.set list
  joined : to.policies ≡ from.policies ++ list

reads_of : (from : Stated) (values : List Place) (to : Stated) → Leads Step from values to → Reads from values to
reads_of from [] to same = record { list = []; each = tt; new = tt; joined = ap (λ (s : Stated). s.policies) (sym same) ∙ sym (append-nil from.policies) }
reads_of from (value ∷ values) to (next, step, others) =
    let rest = reads_of next values to others in
    record {
      list = step.policy ∷ rest.list;
      each = (step.is, rest.each);
      new = (step.new, subst (λ (s : Stated). AreNew s.set rest.list) step.made rest.new);
      joined = rest.joined ∙ ap (λ (s : Stated). s.policies ++ rest.list) step.made ∙ append_assoc from.policies (step.policy ∷ []) rest.list;
    }

abbrev stated_of : Stated → List (List ℕ) → Stated
stated_of from [] = from
stated_of from (policy ∷ list) = stated_of (with_policy policy from) list

stated_policies : (from : Stated) (list : List (List ℕ)) → (stated_of from list).policies ≡ from.policies ++ list
stated_policies from [] = sym (append-nil from.policies)
stated_policies from (policy ∷ list) = stated_policies (with_policy policy from) list ∙ append_assoc from.policies (policy ∷ []) list

each_stated : (from : Stated) (values : List Place) (list : List (List ℕ)) → AllZip IsPolicyInformation values list → AreNew from.set list → each one_more_policy from values ≡ Ok (stated_of from list)
each_stated from [] [] zip new = refl
each_stated from [] (policy ∷ list) zip new = absurd zip
each_stated from (value ∷ values) [] zip new = absurd zip
each_stated from (value ∷ values) (policy ∷ list) zip new =
    rw (step_again from value policy zip.0 new.0) (each_stated (with_policy policy from) values list zip.1 new.1)

pub are_policies : (octet_string : Place) (policies : List (List ℕ)) → AreOctets (body octet_string) → certificate_policies octet_string ≡ Ok policies → AreCertificatePolicies octet_string policies
unfolding certificate_policies
are_policies octet_string policies fits e =
    let value = bind_ok _ _ policies e in
    let sequence = bind_ok _ _ policies value.2 in
    let one = bind_ok _ _ policies sequence.2 in
    let stated = bind_ok _ _ policies one.2 in
    let held = contained_ok octet_string value.0 fits value.1 in
    let first = some_ok _ _ _ one.1 in
    let reads = reads_of none_stated ((members value.0).values) stated.0 (each_ok one_more_policy Step step_ok none_stated ((members value.0).values) stated.0 stated.1) in
    let same : reads.list ≡ policies = sym reads.joined ∙ ok_is {E = CertRule × ℕ} stated.0.policies policies stated.2 in
    subst (AreCertificatePolicies octet_string) same record {
      whole = held.1;
      sequence = subst (λ (p : Place). tag p ≡ 0x30) held.0 (is_a_ok _ _ _ _ sequence.1);
      some = some_of IsPolicyInformation ((members value.0).values) reads.list first.0 first.1 first.2 reads.each;
      each = subst (λ (p : Place). AllZip IsPolicyInformation (members p).values reads.list) held.0 reads.each;
      once = new_pairs empty reads.list reads.new;
    }

pub policies_are : (octet_string : Place) (policies : List (List ℕ)) → AreCertificatePolicies octet_string policies → certificate_policies octet_string ≡ Ok policies
unfolding certificate_policies
policies_are octet_string policies are =
    let inner : Members = members (body_place octet_string) in
    let first = is_some_of IsPolicyInformation inner.values policies are.each are.some in
    rw (
      contained_again octet_string are.whole,
      is_a_again 0x30 ExtensionValue (body_place octet_string) are.sequence,
      some_again ExtensionValue inner first.0 first.1 first.2,
      each_stated none_stated inner.values policies are.each (pairs_are_new policies are.once),
    ) (ap Ok (stated_policies none_stated policies))
