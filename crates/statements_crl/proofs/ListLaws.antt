-- The walk of a revocation list finds what the standard calls one, and nothing else.
use Rattle.std.proofs.Common.{◌≡◌, ◌≢◌, ◌==◌, ◌&&◌, ℕ, ℤ, true, false, not, List, [], ◌∷◌, ◌++◌, Option, Some, None, Result, Ok, refl, sym, ap, ◌∙◌, subst, eq-eqb}
use Rattle.std.specs.Str.{bytes_eq}
use Rattle.std.specs.List.{AllByRecursion}
use Rattle.std.proofs.lemmas.Bool.{and_parts, and_from, eqb-true}
use Rattle.std.proofs.lemmas.Slice.Eq.{bytes_eq-Decides}
use Rattle.asn.specs.DerLaws.{AreOctets}
use Rattle.asn.specs.Place.{Place, tag, body}
use Rattle.asn.specs.Members.{Members, members, begins}
use Rattle.asn.specs.Time.{IsTime}
use Rattle.asn.specs.Walk.{◌>>=◌, is_a, required, optional, next_or, time, some, ended, check_that}
use Rattle.asn.specs.Outermost.{outermost}
use Rattle.asn.proofs.Laws.{bind_ok, ok_is, check_ok, check_again, is_a_ok, is_a_again, required_ok, required_again, next_or_ok, next_or_again, time_ok, time_again, some_again, ended_ok, ended_again, TakesOptional, optional_is, optional_there, optional_absent, outermost_ok, outermost_again, members_octets}
use Rattle.names.specs.DistinguishedName.{RdnMap}
use Rattle.names.specs.GeneralLayout.{NameContents}
use Rattle.cert.specs.AlgorithmIdentifier.{AlgorithmIdentifier, algorithm_identifier, IsAlgorithmIdentifier}
use Rattle.cert.specs.BitString.{BitString}
use Rattle.cert.specs.CertificateForms.{IsNameOf}
use Rattle.cert.specs.TbsCertificate.{is_empty_name}
use Rattle.cert.proofs.Laws.{is_algorithm, algorithm_is}
use Rattle.statements_parts.specs.Fault.{as_statement_der}
use Rattle.statements_parts.specs.Parts.{statement_component, next_in_statement, signature_in_statement}
use Rattle.statements_parts.proofs.Laws.{as_der_ok, next_read_ok, next_read_again, component_ok, component_again, name_ok, name_again, signature_ok, signature_again}
use Rattle.statements_parts.specs.declared.fault.StatementRule.{StatementRule}
use Rattle.statements_parts.specs.declared.fault.StatementRule.TheVariants.{Layout, NotV2, NoNumber, NoNextUpdate}
use Rattle.statements_crl.specs.Parts.{list_issuer, same_list_algorithm}
use Rattle.statements_crl.specs.Entry.{Entry, entries}
use Rattle.statements_crl.specs.ListExtension.{NumberAndScope, number_and_scope, list_extensions}
use Rattle.statements_facts.specs.declared.profile.Profile.{Profile}
use Rattle.statements_facts.specs.declared.profile.Profile.TheVariants.{Stated}
use Rattle.statements_crl.specs.CertificateList.{version_2, ListHead, list_head, revoked_in, revoked, TbsCertList, tbs_cert_list, CertificateList, list_with, certificate_list_at_under, certificate_list_under}
use Rattle.statements_crl.specs.ListForms.{AreRevoked, IsTbsCertList, IsCertificateListAtUnder, CertificateListIsExact, CertificateListIsExactUnder, CertificateListIsUnique, CertificateListIsUniqueUnder}
use Rattle.statements_crl.proofs.EntryLaws.{in_order, then, are_entries, entries_are}
use Rattle.statements_crl.proofs.ListExtensionLaws.{Octets, all_behind, has_extensions, extensions_has}

-- the version
record TakesVersion (left others : Members) : Type 0 where
  value : Place
  values : left.values ≡ value ∷ others.values
  integer : tag value ≡ 0x02
  is : body value ≡ 1 ∷ []

version_ok : (left x : Members) → version_2 left ≡ Ok x → TakesVersion left x
unfolding version_2
version_ok left x e =
    let value = bind_ok {A = Place × Members} (next_or Layout left) _ x e in
    let served = bind_ok {A = Unit {0}} (check_that (tag value.0.0 == 0x02 && bytes_eq (body value.0.0) (1 ∷ [])) NotV2 value.0.0.at) _ x value.2 in
    let next = next_or_ok Layout left value.0 value.1 in
    let both = and_parts (tag value.0.0 == 0x02) (bytes_eq (body value.0.0) (1 ∷ [])) (check_ok _ NotV2 value.0.0.at served.0 served.1) in
    subst (TakesVersion left) {x = value.0.1} (ok_is {E = StatementRule × ℕ} value.0.1 x served.2) record {
      value = value.0.0;
      values = next.values;
      integer = eqb-true (tag value.0.0) 0x02 both.0;
      is = (bytes_eq-Decides (body value.0.0) (1 ∷ [])).0 both.1;
    }

version_again : (left : Members) (value : Place) (others : List Place) → left.values ≡ value ∷ others → tag value ≡ 0x02 → body value ≡ 1 ∷ [] → version_2 left ≡ Ok (record { values = others; end = left.end })
unfolding version_2
version_again left value others e t is =
    let both = and_from (tag value == 0x02) (bytes_eq (body value) (1 ∷ [])) (eq-eqb (tag value) 0x02 t) ((bytes_eq-Decides (body value) (1 ∷ [])).1 is) in
    rw (next_or_again Layout left value others e, check_again (tag value == 0x02 && bytes_eq (body value) (1 ∷ [])) NotV2 value.at both) refl

-- the issuer
named_ok : (rdns : List RdnMap) → not (is_empty_name rdns) ≡ true → rdns ≢ []
named_ok [] e none = absurd cc
named_ok (rdn ∷ rdns) e none = absurd cc

named_again : (rdns : List RdnMap) → rdns ≢ [] → not (is_empty_name rdns) ≡ true
named_again [] some = absurd (some refl)
named_again (rdn ∷ rdns) some = refl

issuer_ok : (value : Place) (contents : NameContents) → list_issuer value ≡ Ok contents → IsNameOf value contents × (contents.rdns ≢ [])
unfolding list_issuer
issuer_ok value contents e =
    let read = bind_ok {A = NameContents} _ _ contents e in
    let named = bind_ok {A = Unit {0}} (check_that (not (is_empty_name read.0.rdns)) Layout value.at) _ contents read.2 in
    let some = named_ok read.0.rdns (check_ok _ _ _ _ named.1) in
    let P : NameContents → Type 0 = λ c. IsNameOf value c × (c.rdns ≢ []) in
    subst P (ok_is {E = StatementRule × ℕ} read.0 contents named.2) (name_ok value read.0 read.1, some)

issuer_again : (value : Place) (contents : NameContents) → IsNameOf value contents → contents.rdns ≢ [] → list_issuer value ≡ Ok contents
unfolding list_issuer
issuer_again value contents is some =
    rw (name_again value contents is, check_again (not (is_empty_name contents.rdns)) Layout value.at (named_again contents.rdns some)) refl

-- the components up to nextUpdate
record IsHead (version signature issuer this_update next_update : Place) (head : ListHead) : Type 0 where
  version_integer : tag version ≡ 0x02
  version_2_is : body version ≡ 1 ∷ []
  signature_is : IsAlgorithmIdentifier signature head.signature
  issuer_is : IsNameOf issuer head.issuer
  issuer_named : head.issuer.rdns ≢ []
  this_update_is : IsTime (tag this_update) (body this_update) head.this_update
  next_update_is : IsTime (tag next_update) (body next_update) head.next_update

record TakesHead (left : Members) (head : ListHead) (others : Members) : Type 0 where
  version : Place
  signature : Place
  issuer : Place
  this_update : Place
  next_update : Place
  values : left.values ≡ version ∷ signature ∷ issuer ∷ this_update ∷ next_update ∷ others.values
  is : IsHead version signature issuer this_update next_update head

abbrev head_from : AlgorithmIdentifier × Members → NameContents × Members → ℤ × Members → ℤ × Members → ListHead × Members
head_from signature issuer this next = (record { signature = signature.0; issuer = issuer.0; this_update = this.0; next_update = next.0 }, next.1)

abbrev head_end : AlgorithmIdentifier × Members → NameContents × Members → ℤ × Members → Result (ListHead × Members) (StatementRule × ℕ)
head_end signature issuer this = time NoNextUpdate Layout this.1 >>= λ next. Ok (head_from signature issuer this next)

head_ok : (left : Members) (x : ListHead × Members) → list_head left ≡ Ok x → TakesHead left x.0 x.1
unfolding list_head
head_ok left x e =
    let second = bind_ok {A = Members} (version_2 left) _ x e in
    let signature = bind_ok {A = AlgorithmIdentifier × Members} (next_in_statement (algorithm_identifier Layout) second.0) _ x second.2 in
    let name = bind_ok {A = NameContents × Members} (statement_component 0x30 list_issuer signature.0.1) (λ name. time Layout Layout name.1 >>= head_end signature.0 name) x signature.2 in
    let this = bind_ok {A = ℤ × Members} (time Layout Layout name.0.1) (head_end signature.0 name.0) x name.2 in
    let next = bind_ok {A = ℤ × Members} (time NoNextUpdate Layout this.0.1) (λ next. Ok (head_from signature.0 name.0 this.0 next)) x this.2 in
    let a = version_ok left second.0 second.1 in
    let b = next_read_ok (algorithm_identifier Layout) second.0 signature.0 signature.1 in
    let c = component_ok 0x30 list_issuer signature.0.1 name.0 name.1 in
    let d = time_ok Layout Layout name.0.1 this.0 this.1 in
    let f = time_ok NoNextUpdate Layout this.0.1 next.0 next.1 in
    let named = issuer_ok c.value name.0.0 c.read_is in
    let times = then name.0.1.values this.0.1.values (f.0 ∷ next.0.1.values) d.0 d.1.next.values f.1.next.values in
    let P : ListHead × Members → Type 0 = λ y. TakesHead left y.0 y.1 in
    let found = head_from signature.0 name.0 this.0 next.0 in
    subst P {x = found} (ok_is {E = StatementRule × ℕ} found x next.2) record {
      version = a.value;
      signature = b.value;
      issuer = c.value;
      this_update = d.0;
      next_update = f.0;
      values = in_order left.values second.0.values signature.0.1.values (d.0 ∷ f.0 ∷ next.0.1.values) a.value b.value c.value a.values b.took.values (then signature.0.1.values name.0.1.values (d.0 ∷ f.0 ∷ next.0.1.values) c.value c.took.values times);
      is = record {
        version_integer = a.integer;
        version_2_is = a.is;
        signature_is = is_algorithm Layout b.value signature.0.0 b.read_is;
        issuer_is = named.0;
        issuer_named = named.1;
        this_update_is = d.1.is_time;
        next_update_is = f.1.is_time;
      };
    }

head_again : (left : Members) (version signature name this next : Place) (others : List Place) (head : ListHead) → left.values ≡ version ∷ signature ∷ name ∷ this ∷ next ∷ others → IsHead version signature name this next head → list_head left ≡ Ok (head, record { values = others; end = left.end })
unfolding list_head
head_again left version signature name this next others head e is =
    let rest : List Place → Members = λ values. record { values = values; end = left.end } in
    rw (
      version_again left version (signature ∷ name ∷ this ∷ next ∷ others) e is.version_integer is.version_2_is,
      next_read_again (algorithm_identifier Layout) (rest (signature ∷ name ∷ this ∷ next ∷ others)) signature (name ∷ this ∷ next ∷ others) head.signature refl (algorithm_is Layout signature head.signature is.signature_is),
      component_again 0x30 list_issuer (rest (name ∷ this ∷ next ∷ others)) name (this ∷ next ∷ others) head.issuer refl is.issuer_is.is_name.sequence (issuer_again name head.issuer is.issuer_is is.issuer_named),
      time_again Layout Layout (rest (this ∷ next ∷ others)) this (next ∷ others) head.this_update refl is.this_update_is,
      time_again NoNextUpdate Layout (rest (next ∷ others)) next others head.next_update refl is.next_update_is,
    ) refl

-- the entries
record TakesRevoked (left : Members) (list : List Entry) (others : Members) : Type 0 where
  lists : List Place
  values : left.values ≡ lists ++ others.values
  are : AreRevoked lists list

of_revoked : (left : Members) (found : Option Place) (others : Members) (x : List Entry × Members) → TakesOptional 0x30 left found others → revoked_in found others ≡ Ok x → TakesRevoked left x.0 x.1
of_revoked left None others x took e =
    let P : List Entry × Members → Type 0 = λ y. TakesRevoked left y.0 y.1 in
    subst P (ok_is {E = StatementRule × ℕ} ([], others) x e)
    record { lists = []; values = sym (ap (λ (m : Members). m.values) took.0); are = refl }
of_revoked left (Some list) others x took e =
    let read = bind_ok {A = List Entry} (entries (members list).values) _ x e in
    let P : List Entry × Members → Type 0 = λ y. TakesRevoked left y.0 y.1 in
    subst P (ok_is {E = StatementRule × ℕ} (read.0, others) x read.2)
    record { lists = list ∷ []; values = took.values; are = (took.tag_is, are_entries (members list).values read.0 read.1) }

revoked_ok : (left : Members) (x : List Entry × Members) → revoked left ≡ Ok x → TakesRevoked left x.0 x.1
unfolding revoked
revoked_ok left x e = of_revoked left (optional 0x30 left).0 (optional 0x30 left).1 x (optional_is 0x30 left) e

-- the tag of the extensions is another
no_list : (left : Members) (explicit : Place) → left.values ≡ explicit ∷ [] → tag explicit ≡ 0xA0 → begins 0x30 left ≡ false
unfolding begins
no_list left explicit e t = rw (e, t) refl

revoked_again : (left : Members) (lists : List Place) (explicit : Place) (list : List Entry) → left.values ≡ lists ++ explicit ∷ [] → tag explicit ≡ 0xA0 → AreRevoked lists list → (x : Members) × (revoked left ≡ Ok (list, x)) × (x.values ≡ explicit ∷ [])
unfolding revoked
revoked_again left [] explicit list e t are = (left, rw (optional_absent 0x30 left (no_list left explicit e t), are) refl, e)
revoked_again left (place ∷ []) explicit list e t are = (
  record { values = explicit ∷ []; end = left.end },
  rw (optional_there 0x30 left place (explicit ∷ []) e are.0, entries_are (members place).values list are.1) refl,
  refl,
)
revoked_again left (place ∷ other ∷ lists) explicit list e t are = absurd are

-- the extensions
record TakesExtensions (profile : Profile) (left : Members) (found : NumberAndScope) (others : Members) : Type 0 where
  explicit : Place
  list : Place
  values : left.values ≡ explicit ∷ others.values
  tagged : tag explicit ≡ 0xA0
  one_inside : (members explicit).values ≡ list ∷ []
  read : number_and_scope profile list ≡ Ok found

abbrev extensions_end : Members → Members → NumberAndScope → Result (NumberAndScope × Members) (StatementRule × ℕ)
extensions_end others rest said = ended Layout rest >>= λ done. Ok (said, others)

extensions_ok : (profile : Profile) (left : Members) (x : NumberAndScope × Members) → list_extensions profile left ≡ Ok x → TakesExtensions profile left x.0 x.1
unfolding list_extensions
extensions_ok profile left x e =
    let any = bind_ok {A = Unit {0}} (some NoNumber left) _ x e in
    let explicit = bind_ok {A = Place × Members} (required 0xA0 Layout left) _ x any.2 in
    let list = bind_ok {A = Place × Members} (next_or Layout (members explicit.0.0)) (λ list. number_and_scope profile list.0 >>= extensions_end explicit.0.1 list.1) x explicit.2 in
    let said = bind_ok {A = NumberAndScope} (number_and_scope profile list.0.0) (extensions_end explicit.0.1 list.0.1) x list.2 in
    let done = bind_ok {A = Unit {0}} (ended Layout list.0.1) (λ done. Ok (said.0, explicit.0.1)) x said.2 in
    let outer = required_ok 0xA0 Layout left explicit.0 explicit.1 in
    let inner = next_or_ok Layout (members explicit.0.0) list.0 list.1 in
    let P : NumberAndScope × Members → Type 0 = λ y. TakesExtensions profile left y.0 y.1 in
    subst P {x = (said.0, explicit.0.1)} (ok_is {E = StatementRule × ℕ} (said.0, explicit.0.1) x done.2) record {
      explicit = explicit.0.0;
      list = list.0.0;
      values = outer.values;
      tagged = outer.tag_is;
      one_inside = inner.values ∙ ap (◌∷◌ list.0.0) (ended_ok Layout list.0.1 done.0 done.1);
      read = said.1;
    }

extensions_again : (profile : Profile) (left : Members) (explicit list : Place) (found : NumberAndScope) → left.values ≡ explicit ∷ [] → tag explicit ≡ 0xA0 → (members explicit).values ≡ list ∷ [] → number_and_scope profile list ≡ Ok found → list_extensions profile left ≡ Ok (found, record { values = []; end = left.end })
unfolding list_extensions
extensions_again profile left explicit list found e tagged inside read =
    rw (
      some_again NoNumber left explicit [] e,
      required_again 0xA0 Layout left explicit [] e tagged,
      next_or_again Layout (members explicit) list [] inside,
      read,
      ended_again Layout (record { values = []; end = (members explicit).end }) refl,
    ) refl

-- octets of the value that stands under the tag are octets
extensions_octets : (value version signature issuer this next explicit list : Place) (lists : List Place) → AreOctets value.octets → (members value).values ≡ version ∷ signature ∷ issuer ∷ this ∷ next ∷ lists ++ explicit ∷ [] → (members explicit).values ≡ list ∷ [] → AreOctets list.octets
extensions_octets value version signature issuer this next explicit list lists fits e one =
    let all = subst (AllByRecursion Octets) e (members_octets value fits) in
    let last = (all_behind Octets lists (explicit ∷ []) all.1.1.1.1.1).0 in
    (subst (AllByRecursion Octets) one (members_octets explicit last)).0

-- the signed part
behind_head : (all others lists behind rest : List Place) (a b c d f explicit : Place) → all ≡ a ∷ b ∷ c ∷ d ∷ f ∷ others → others ≡ lists ++ behind → behind ≡ explicit ∷ rest → rest ≡ [] → all ≡ a ∷ b ∷ c ∷ d ∷ f ∷ lists ++ explicit ∷ []
behind_head all others lists behind rest a b c d f explicit head entries extensions none =
    head ∙ ap (λ vs. a ∷ b ∷ c ∷ d ∷ f ∷ vs) (entries ∙ ap (◌++◌ lists) (extensions ∙ ap (◌∷◌ explicit) none))

abbrev tbs_from : ListHead × Members → List Entry × Members → NumberAndScope × Members → TbsCertList
tbs_from head list named = record { head = head.0; entries = list.0; named = named.0 }

abbrev tbs_end : ListHead × Members → List Entry × Members → NumberAndScope × Members → Result TbsCertList (StatementRule × ℕ)
tbs_end head list named = ended Layout named.1 >>= λ done. Ok (tbs_from head list named)

is_tbs : (profile : Profile) (value : Place) (fields : TbsCertList) → AreOctets value.octets → tbs_cert_list profile value ≡ Ok fields → IsTbsCertList profile value fields
unfolding tbs_cert_list
is_tbs profile value fields fits e =
    let sequence = bind_ok {A = Unit {0}} (is_a 0x30 Layout value) _ fields e in
    let head = bind_ok {A = ListHead × Members} (list_head (members value)) _ fields sequence.2 in
    let list = bind_ok {A = List Entry × Members} (revoked head.0.1) (λ list. list_extensions profile list.1 >>= tbs_end head.0 list) fields head.2 in
    let named = bind_ok {A = NumberAndScope × Members} (list_extensions profile list.0.1) (tbs_end head.0 list.0) fields list.2 in
    let done = bind_ok {A = Unit {0}} (ended Layout named.0.1) (λ done. Ok (tbs_from head.0 list.0 named.0)) fields named.2 in
    let first = head_ok (members value) head.0 head.1 in
    let second = revoked_ok head.0.1 list.0 list.1 in
    let third = extensions_ok profile list.0.1 named.0 named.1 in
    let values = behind_head (members value).values head.0.1.values second.lists list.0.1.values named.0.1.values first.version first.signature first.issuer first.this_update first.next_update third.explicit first.values second.values third.values (ended_ok Layout named.0.1 done.0 done.1) in
    let list_fits = extensions_octets value first.version first.signature first.issuer first.this_update first.next_update third.explicit third.list second.lists fits values third.one_inside in
    let found = tbs_from head.0 list.0 named.0 in
    subst (IsTbsCertList profile value) {x = found} (ok_is {E = StatementRule × ℕ} found fields done.2) record {
      version = first.version;
      signature = first.signature;
      issuer = first.issuer;
      this_update = first.this_update;
      next_update = first.next_update;
      revoked = second.lists;
      explicit = third.explicit;
      extensions = third.list;
      sequence = is_a_ok 0x30 Layout value sequence.0 sequence.1;
      members_are = values;
      version_integer = first.is.version_integer;
      version_2 = first.is.version_2_is;
      signature_is = first.is.signature_is;
      issuer_is = first.is.issuer_is;
      issuer_named = first.is.issuer_named;
      this_update_is = first.is.this_update_is;
      next_update_is = first.is.next_update_is;
      revoked_are = second.are;
      tagged = third.tagged;
      one_inside = third.one_inside;
      extensions_are = has_extensions profile third.list named.0.0 list_fits third.read;
    }

tbs_is : (profile : Profile) (value : Place) (fields : TbsCertList) → AreOctets value.octets → IsTbsCertList profile value fields → tbs_cert_list profile value ≡ Ok fields
unfolding tbs_cert_list
tbs_is profile value fields fits is =
    let head : IsHead is.version is.signature is.issuer is.this_update is.next_update fields.head = record {
      version_integer = is.version_integer;
      version_2_is = is.version_2;
      signature_is = is.signature_is;
      issuer_is = is.issuer_is;
      issuer_named = is.issuer_named;
      this_update_is = is.this_update_is;
      next_update_is = is.next_update_is;
    } in
    let behind : Members = record { values = is.revoked ++ is.explicit ∷ []; end = (members value).end } in
    let list = revoked_again behind is.revoked is.explicit fields.entries refl is.tagged is.revoked_are in
    let list_fits = extensions_octets value is.version is.signature is.issuer is.this_update is.next_update is.explicit is.extensions is.revoked fits is.members_are is.one_inside in
    rw (
      is_a_again 0x30 Layout value is.sequence,
      head_again (members value) is.version is.signature is.issuer is.this_update is.next_update behind.values fields.head is.members_are head,
      list.1,
      extensions_again profile list.0 is.explicit is.extensions fields.named list.2 is.tagged is.one_inside (extensions_has profile is.extensions fields.named list_fits is.extensions_are),
      ended_again Layout (record { values = []; end = list.0.end }) refl,
    ) refl

-- the whole list
algorithm_ok : (inner : AlgorithmIdentifier) (value : Place) (u : Unit {0}) → same_list_algorithm inner value ≡ Ok u → value.octets ≡ inner.value.octets
unfolding same_list_algorithm
algorithm_ok inner value u e = (bytes_eq-Decides value.octets inner.value.octets).0 (check_ok _ _ _ u e)

algorithm_again : (inner : AlgorithmIdentifier) (value : Place) → value.octets ≡ inner.value.octets → same_list_algorithm inner value ≡ Ok tt
unfolding same_list_algorithm
algorithm_again inner value same = check_again (bytes_eq value.octets inner.value.octets) Layout value.at ((bytes_eq-Decides value.octets inner.value.octets).1 same)

abbrev list_end : Place → TbsCertList → BitString × Members → Result CertificateList (StatementRule × ℕ)
list_end signed tbs signature = ended Layout signature.1 >>= λ done. Ok (list_with signed tbs signature.0)

abbrev list_behind : Place → TbsCertList → Members → Result CertificateList (StatementRule × ℕ)
list_behind signed tbs left =
    statement_component 0x30 (same_list_algorithm tbs.head.signature) left >>= λ algorithm. statement_component 0x03 signature_in_statement algorithm.1 >>= list_end signed tbs

is_list_at : (profile : Profile) (value : Place) (fields : CertificateList) → AreOctets value.octets → certificate_list_at_under profile value ≡ Ok fields → IsCertificateListAtUnder profile value fields
unfolding certificate_list_at_under
is_list_at profile value fields fits e =
    let sequence = bind_ok {A = Unit {0}} (is_a 0x30 Layout value) _ fields e in
    let signed = bind_ok {A = Place × Members} (next_or Layout (members value)) _ fields sequence.2 in
    let tbs = bind_ok {A = TbsCertList} (tbs_cert_list profile signed.0.0) (λ tbs. list_behind signed.0.0 tbs signed.0.1) fields signed.2 in
    let algorithm = bind_ok {A = Unit {0} × Members} (statement_component 0x30 (same_list_algorithm tbs.0.head.signature) signed.0.1) (λ algorithm. statement_component 0x03 signature_in_statement algorithm.1 >>= list_end signed.0.0 tbs.0) fields tbs.2 in
    let signature = bind_ok {A = BitString × Members} (statement_component 0x03 signature_in_statement algorithm.0.1) (list_end signed.0.0 tbs.0) fields algorithm.2 in
    let done = bind_ok {A = Unit {0}} (ended Layout signature.0.1) (λ done. Ok (list_with signed.0.0 tbs.0 signature.0.0)) fields signature.2 in
    let first = next_or_ok Layout (members value) signed.0 signed.1 in
    let second = component_ok 0x30 (same_list_algorithm tbs.0.head.signature) signed.0.1 algorithm.0 algorithm.1 in
    let third = component_ok 0x03 signature_in_statement algorithm.0.1 signature.0 signature.1 in
    let signature_is = signature_ok third.value signature.0.0 third.took.tag_is third.read_is in
    let last = then algorithm.0.1.values signature.0.1.values [] third.value third.took.values (ended_ok Layout signature.0.1 done.0 done.1) in
    let signed_fits = (subst (AllByRecursion Octets) first.values (members_octets value fits)).0 in
    let values = in_order (members value).values signed.0.1.values algorithm.0.1.values [] signed.0.0 second.value third.value first.values second.took.values last in
    let found = list_with signed.0.0 tbs.0 signature.0.0 in
    subst (IsCertificateListAtUnder profile value) {x = found} (ok_is {E = StatementRule × ℕ} found fields done.2) record {
      signed = signed.0.0;
      algorithm = second.value;
      signature = signature.0.0;
      tbs = tbs.0;
      sequence = is_a_ok 0x30 Layout value sequence.0 sequence.1;
      members_are = values ∙ ap (λ (v : Place). signed.0.0 ∷ second.value ∷ v ∷ []) signature_is.0;
      signed_is = is_tbs profile signed.0.0 tbs.0 signed_fits tbs.1;
      algorithm_sequence = second.took.tag_is;
      same_algorithm = algorithm_ok tbs.0.head.signature second.value algorithm.0.0 second.read_is;
      signature_is = signature_is.1;
      fields_are = refl;
    }

list_at_is : (profile : Profile) (value : Place) (fields : CertificateList) → AreOctets value.octets → IsCertificateListAtUnder profile value fields → certificate_list_at_under profile value ≡ Ok fields
unfolding certificate_list_at_under
list_at_is profile value fields fits is =
    let next : List Place → Members = λ values. record { values = values; end = (members value).end } in
    let signed_fits = (subst (AllByRecursion Octets) is.members_are (members_octets value fits)).0 in
    rw (
      is_a_again 0x30 Layout value is.sequence,
      next_or_again Layout (members value) is.signed (is.algorithm ∷ is.signature.value ∷ []) is.members_are,
      tbs_is profile is.signed is.tbs signed_fits is.signed_is,
      component_again 0x30 (same_list_algorithm is.tbs.head.signature) (next (is.algorithm ∷ is.signature.value ∷ [])) is.algorithm (is.signature.value ∷ []) tt refl is.algorithm_sequence (algorithm_again is.tbs.head.signature is.algorithm is.same_algorithm),
      component_again 0x03 signature_in_statement (next (is.signature.value ∷ [])) is.signature.value [] is.signature refl is.signature_is.bit_string (signature_again is.signature is.signature_is),
      ended_again Layout (next []) refl,
      is.fields_are,
    ) refl

pub list_is_exact_under : (profile : Profile) → CertificateListIsExactUnder profile
unfolding certificate_list_under
list_is_exact_under profile octets fields fits = (
  λ e.
      let value = bind_ok {A = Place} (as_statement_der (outermost octets)) (λ value. certificate_list_at_under profile value) fields e in
      let whole = outermost_ok octets value.0 fits (as_der_ok (outermost octets) value.0 value.1) in
      let at = subst (λ v. certificate_list_at_under profile v ≡ Ok fields) whole.0 value.2 in
      record { value = whole.1.0; der = whole.1.1; layout = is_list_at profile (record { octets = octets; at = 0 }) fields fits at },
  λ is. rw (outermost_again octets (is.value, is.der)) (list_at_is profile (record { octets = octets; at = 0 }) fields fits is.layout),
)

pub list_is_unique_under : (profile : Profile) → CertificateListIsUniqueUnder profile
list_is_unique_under profile octets one other fits is also =
    ok_is {E = StatementRule × ℕ} one other (sym ((list_is_exact_under profile octets one fits).1 is) ∙ (list_is_exact_under profile octets other fits).1 also)

-- the stated profile
pub list_is_exact : CertificateListIsExact
list_is_exact = list_is_exact_under Stated

pub list_is_unique : CertificateListIsUnique
list_is_unique = list_is_unique_under Stated
