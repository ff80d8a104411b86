-- The walk of a certificate finds what the standard calls one, and nothing else.
use Rattle.std.proofs.Common.{◌≡◌, ◌≢◌, ◌==◌, ℕ, true, false, List, [], ◌∷◌, ◌++◌, append-nil, Option, Some, None, Ok, refl, sym, ap, ◌∙◌, subst}
use Rattle.std.specs.Str.{bytes_eq}
use Rattle.std.specs.List.{AllByRecursion}
use Rattle.std.proofs.lemmas.Bool.{eqb-true}
use Rattle.std.proofs.lemmas.Slice.Eq.{bytes_eq-Decides}
use Rattle.asn.specs.DerLaws.{AreOctets}
use Rattle.asn.specs.Place.{Place, tag, body}
use Rattle.asn.specs.Members.{Members, members, begins, begins_in}
use Rattle.asn.specs.Walk.{optional}
use Rattle.asn.specs.Outermost.{outermost}
use Rattle.asn.proofs.Laws.{bind_ok, ok_is, check_ok, check_again, is_a_ok, is_a_again, next_or_ok, next_or_again, TakesOptional, optional_is, optional_there, optional_absent, ended_ok, ended_again, members_octets, outermost_ok, outermost_again}
use Rattle.cert.specs.declared.fault.CertRule.{CertRule}
use Rattle.cert.specs.declared.fault.CertRule.TheVariants as R
use Rattle.cert.specs.declared.version.Version.{Version}
use Rattle.cert.specs.declared.version.Version.TheVariants.{V1, V2, V3}
use Rattle.cert.specs.Fault.{as_der}
use Rattle.cert.specs.AlgorithmIdentifier.{AlgorithmIdentifier, algorithm_identifier, IsAlgorithmIdentifier}
use Rattle.cert.specs.Validity.{validity, IsValidity}
use Rattle.cert.specs.SubjectPublicKeyInfo.{key_info, IsSubjectPublicKeyInfo}
use Rattle.cert.specs.BitString.{BitString, bit_string_at, bits_in, has_no_unused_bits}
use Rattle.cert.specs.Version.{is_v3, IsVersion}
use Rattle.cert.specs.Extensions.{Extensions, no_extensions}
use Rattle.cert.specs.TbsCertificate.{TbsHead, Subject, next_read, component, serial_number, distinguished_name, issuer, unique_id, tbs_head, tbs_subject}
use Rattle.cert.specs.Certificate.{TbsCertificate, Certificate, extensions_in, optional_extensions, tbs_certificate, same_algorithm, signature_value, certificate_at, certificate}
use Rattle.cert.specs.CertificateForms.{IsSerialNumber, IsNameOf, IsUniqueId, AreTaggedExtensions, AreOptionalExtensions, IsTbsCertificate, IsSignature, IsCertificateAt, CertificateIsExact, CertificateIsUnique}
use Rattle.cert.proofs.ContainedValues.{as_der_ok}
use Rattle.cert.proofs.AlgorithmLaws.{is_algorithm, algorithm_is}
use Rattle.cert.proofs.ValidityLaws.{is_validity, validity_is}
use Rattle.cert.proofs.KeyInfoLaws.{is_key_info, key_info_is}
use Rattle.cert.proofs.VersionLaws.{version_ok, version_again}
use Rattle.cert.proofs.ExtensionListLaws.{all_behind, are_extensions, extensions_are}
use Rattle.cert.proofs.TbsLaws.{next_read_ok, next_read_again, component_ok, component_again, serial_ok, serial_again, name_ok, name_again, issuer_ok, issuer_again, unique_id_ok, unique_id_again}

-- extensions
v3_ok : (version : Version) → is_v3 version ≡ true → version ≡ V3
v3_ok V1 e = absurd cc
v3_ok V2 e = absurd cc
v3_ok V3 e = refl

v3_again : (version : Version) → version ≡ V3 → is_v3 version ≡ true
v3_again version e = rw e refl

pub record TakesExtensions (version : Version) (left : Members) (found : Extensions) (others : Members) : Type 0 where
  pub tagged : List Place
  pub values : left.values ≡ tagged ++ others.values
  pub end : others.end ≡ left.end
  pub are : AreOptionalExtensions tagged version found

abbrev Octets : Place → Type 0
Octets value = AreOctets value.octets

of_extensions : (version : Version) (left : Members) (found : Option Place) (others : Members) (x : Extensions × Members) → AllByRecursion Octets left.values → TakesOptional 0xA3 left found others → extensions_in version found others ≡ Ok x → TakesExtensions version left x.0 x.1
of_extensions version left None others x fits took e =
    let P : Extensions × Members → Type 0 = λ y. TakesExtensions version left y.0 y.1 in
    subst P (ok_is {E = CertRule × ℕ} (no_extensions, others) x e)
    record { tagged = []; values = sym (ap (λ m. m.values) took.0); end = ap (λ m. m.end) took.0; are = refl }
of_extensions version left (Some explicit) others x fits took e =
    let served = bind_ok _ _ x e in
    let list = bind_ok _ _ x served.2 in
    let read = bind_ok _ _ x list.2 in
    let done = bind_ok _ _ x read.2 in
    let inner = next_or_ok _ _ _ list.1 in
    let explicit_fits = (subst (AllByRecursion Octets) took.values fits).0 in
    let list_fits = (subst (AllByRecursion Octets) inner.values (members_octets explicit explicit_fits)).0 in
    let are = are_extensions list.0.0 read.0 list_fits read.1 in
    let P : Extensions × Members → Type 0 = λ y. TakesExtensions version left y.0 y.1 in
    subst P (ok_is {E = CertRule × ℕ} (read.0, others) x done.2) record {
      tagged = explicit ∷ [];
      values = took.values;
      end = took.end;
      are = record {
        list = list.0.0;
        explicit = took.tag_is;
        version_3 = v3_ok version (check_ok _ _ _ _ served.1);
        members_are = inner.values ∙ ap (◌∷◌ list.0.0) (ended_ok _ _ _ done.1);
        sequence = are.0;
        extensions_are = are.1;
      };
    }

optional_extensions_ok : (version : Version) (left : Members) (x : Extensions × Members) → AllByRecursion Octets left.values → optional_extensions version left ≡ Ok x → TakesExtensions version left x.0 x.1
unfolding optional_extensions
optional_extensions_ok version left x fits e = of_extensions version left (optional 0xA3 left).0 (optional 0xA3 left).1 x fits (optional_is 0xA3 left) e

tagged_again : (explicit : Place) (others : Members) (version : Version) (found : Extensions) → AreOctets explicit.octets → AreTaggedExtensions explicit version found → extensions_in version (Some explicit) others ≡ Ok (found, others)
tagged_again explicit others version found fits is =
    let list_fits = (subst (AllByRecursion Octets) is.members_are (members_octets explicit fits)).0 in
    rw (check_again (is_v3 version) R.Version explicit.at (v3_again version is.version_3), next_or_again R.Layout (members explicit) is.list [] is.members_are, extensions_are is.list found list_fits is.sequence is.extensions_are, ended_again R.Layout (record { values = []; end = (members explicit).end }) refl) refl

begins_none : (identifier : ℕ) (left : Members) → left.values ≡ [] → begins identifier left ≡ false
unfolding begins
begins_none identifier left none = rw none refl

optional_extensions_again : (version : Version) (left : Members) (tagged : List Place) (found : Extensions) → AllByRecursion Octets left.values → left.values ≡ tagged → AreOptionalExtensions tagged version found → optional_extensions version left ≡ Ok (found, record { values = []; end = left.end })
unfolding optional_extensions
optional_extensions_again version left [] found fits e are = rw (optional_absent 0xA3 left (begins_none 0xA3 left e), ← e, are) refl
optional_extensions_again version left (explicit ∷ []) found fits e are =
    let explicit_fits = (subst (AllByRecursion Octets) e fits).0 in
    rw (optional_there 0xA3 left explicit [] e are.explicit, tagged_again explicit (record { values = []; end = left.end }) version found explicit_fits are) refl
optional_extensions_again version left (explicit ∷ other ∷ tagged) found fits e are = absurd are

-- the components up to the validity
record TakesHead (left : Members) (head : TbsHead) (others : Members) : Type 0 where
  versions : List Place
  signature : Place
  issuer : Place
  validity : Place
  values : left.values ≡ versions ++ head.serial ∷ signature ∷ issuer ∷ validity ∷ others.values
  version_is : IsVersion versions head.version
  serial_is : IsSerialNumber head.serial (body head.serial)
  signature_is : IsAlgorithmIdentifier signature head.signature
  issuer_is : IsNameOf issuer head.issuer
  issuer_named : head.issuer.rdns ≢ []
  validity_is : IsValidity validity head.validity

head_ok : (left : Members) (x : TbsHead × Members) → tbs_head left ≡ Ok x → TakesHead left x.0 x.1
unfolding tbs_head
head_ok left x e =
    let version = bind_ok _ _ x e in
    let serial = bind_ok _ _ x version.2 in
    let signature = bind_ok _ _ x serial.2 in
    let issuer = bind_ok _ _ x signature.2 in
    let validity_found = bind_ok _ _ x issuer.2 in
    let first = version_ok left version.0 version.1 in
    let second = component_ok 0x02 serial_number version.0.1 serial.0 serial.1 in
    let third = next_read_ok (algorithm_identifier R.Layout) serial.0.1 signature.0 signature.1 in
    let fourth = component_ok 0x30 Rattle.cert.specs.TbsCertificate.issuer signature.0.1 issuer.0 issuer.1 in
    let fifth = next_read_ok validity issuer.0.1 validity_found.0 validity_found.1 in
    let named = issuer_ok fourth.value issuer.0.0 fourth.read_is in
    let integer = serial_ok second.value serial.0.0 second.took.tag_is second.read_is in
    let P : TbsHead × Members → Type 0 = λ y. TakesHead left y.0 y.1 in
    subst P (ok_is {E = CertRule × ℕ} _ x validity_found.2) record {
      versions = first.versions;
      signature = third.value;
      issuer = fourth.value;
      validity = fifth.value;
      values = first.values ∙ ap (◌++◌ first.versions) (second.took.values ∙ ap (λ s. s ∷ serial.0.1.values) integer.0 ∙ ap (◌∷◌ serial.0.0) (third.took.values ∙ ap (◌∷◌ third.value) (fourth.took.values ∙ ap (◌∷◌ fourth.value) fifth.took.values)));
      version_is = first.is_version;
      serial_is = integer.1;
      signature_is = is_algorithm R.Layout third.value signature.0.0 third.read_is;
      issuer_is = named.0;
      issuer_named = named.1;
      validity_is = is_validity fifth.value validity_found.0.0 fifth.read_is;
    }

no_version : (serial : Place) (others : List Place) → tag serial ≡ 0x02 → begins_in 0xA0 (serial ∷ others) ≡ false
no_version serial others is = rw is refl

head_again : (left others : Members) (head : TbsHead) → TakesHead left head others → others.end ≡ left.end → tbs_head left ≡ Ok (head, others)
unfolding tbs_head
head_again left others head is end =
    let next : List Place → Members = λ values. record { values = values; end = left.end } in
    let after_version = head.serial ∷ is.signature ∷ is.issuer ∷ is.validity ∷ others.values in
    let after_serial = is.signature ∷ is.issuer ∷ is.validity ∷ others.values in
    let after_signature = is.issuer ∷ is.validity ∷ others.values in
    let after_issuer = is.validity ∷ others.values in
    rw (
      version_again left is.versions after_version head.version is.values is.version_is (no_version head.serial after_serial is.serial_is.integer),
      component_again 0x02 serial_number (next after_version) head.serial after_serial head.serial refl is.serial_is.integer (serial_again head.serial is.serial_is),
      next_read_again (algorithm_identifier R.Layout) (next after_serial) is.signature after_signature head.signature refl (algorithm_is R.Layout is.signature head.signature is.signature_is),
      component_again 0x30 issuer (next after_signature) is.issuer after_issuer head.issuer refl is.issuer_is.is_name.sequence (issuer_again is.issuer head.issuer is.issuer_is is.issuer_named),
      next_read_again validity (next after_issuer) is.validity others.values head.validity refl (validity_is is.validity head.validity is.validity_is),
      ← end,
    ) refl

-- the components from the subject to the unique identifiers
record TakesSubject (version : Version) (left : Members) (subject : Subject) (others : Members) : Type 0 where
  name : Place
  key_info : Place
  issuer_ids : List Place
  subject_ids : List Place
  values : left.values ≡ name ∷ key_info ∷ issuer_ids ++ (subject_ids ++ others.values)
  name_is : IsNameOf name subject.name
  key_info_is : IsSubjectPublicKeyInfo key_info subject.key_info
  issuer_id_is : IsUniqueId 0x81 version issuer_ids
  subject_id_is : IsUniqueId 0x82 version subject_ids

subject_ok : (version : Version) (left : Members) (x : Subject × Members) → tbs_subject version left ≡ Ok x → TakesSubject version left x.0 x.1
unfolding tbs_subject
subject_ok version left x e =
    let name = bind_ok _ _ x e in
    let key = bind_ok _ _ x name.2 in
    let issuer_id = bind_ok _ _ x key.2 in
    let subject_id = bind_ok _ _ x issuer_id.2 in
    let first = component_ok 0x30 distinguished_name left name.0 name.1 in
    let second = next_read_ok key_info name.0.1 key.0 key.1 in
    let third = unique_id_ok 0x81 version key.0.1 issuer_id.0 issuer_id.1 in
    let fourth = unique_id_ok 0x82 version issuer_id.0 subject_id.0 subject_id.1 in
    let P : Subject × Members → Type 0 = λ y. TakesSubject version left y.0 y.1 in
    subst P (ok_is {E = CertRule × ℕ} _ x subject_id.2) record {
      name = first.value;
      key_info = second.value;
      issuer_ids = third.ids;
      subject_ids = fourth.ids;
      values = first.took.values ∙ ap (◌∷◌ first.value) (second.took.values ∙ ap (◌∷◌ second.value) (third.values ∙ ap (◌++◌ third.ids) fourth.values));
      name_is = name_ok first.value name.0.0 first.read_is;
      key_info_is = is_key_info second.value key.0.0 second.read_is;
      issuer_id_is = third.is_id;
      subject_id_is = fourth.is_id;
    }

-- tags tell unique identifiers and extensions apart
not_tag : (identifier : ℕ) (value : Place) (others : List Place) → tag value ≡ 0xA3 → (0xA3 == identifier) ≡ false → begins_in identifier (value ∷ others) ≡ false
not_tag identifier value others is differ = rw (is, differ) refl

no_id : (identifier : ℕ) (tagged : List Place) (version : Version) (found : Extensions) → (0xA3 == identifier) ≡ false → AreOptionalExtensions tagged version found → begins_in identifier tagged ≡ false
no_id identifier [] version found differ are = refl
no_id identifier (explicit ∷ []) version found differ are = not_tag identifier explicit [] are.explicit differ
no_id identifier (explicit ∷ other ∷ tagged) version found differ are = absurd are

no_issuer_id : (subject_ids tagged : List Place) (version : Version) (found : Extensions) → IsUniqueId 0x82 version subject_ids → AreOptionalExtensions tagged version found → begins_in 0x81 (subject_ids ++ tagged) ≡ false
no_issuer_id [] tagged version found is are = no_id 0x81 tagged version found refl are
no_issuer_id (id ∷ []) tagged version found is are = rw is.0 refl
no_issuer_id (id ∷ other ∷ ids) tagged version found is are = absurd is

subject_again : (version : Version) (left : Members) (subject : Subject) (tagged : List Place) (found : Extensions) (others : Members) → TakesSubject version left subject others → others.values ≡ tagged → AreOptionalExtensions tagged version found → others.end ≡ left.end → tbs_subject version left ≡ Ok (subject, others)
unfolding tbs_subject
subject_again version left subject tagged found others is same are end =
    let next : List Place → Members = λ values. record { values = values; end = left.end } in
    let after_key = is.issuer_ids ++ (is.subject_ids ++ others.values) in
    let after_issuer_id = is.subject_ids ++ others.values in
    let are = subst (λ t. AreOptionalExtensions t version found) (sym same) are in
    rw (
      component_again 0x30 distinguished_name left is.name (is.key_info ∷ after_key) subject.name is.values is.name_is.is_name.sequence (name_again is.name subject.name is.name_is),
      next_read_again key_info (next (is.key_info ∷ after_key)) is.key_info after_key subject.key_info refl (key_info_is is.key_info subject.key_info is.key_info_is),
      unique_id_again 0x81 version (next after_key) is.issuer_ids after_issuer_id refl is.issuer_id_is (no_issuer_id is.subject_ids others.values version found is.subject_id_is are),
      unique_id_again 0x82 version (next after_issuer_id) is.subject_ids others.values refl is.subject_id_is (no_id 0x82 others.values version found refl are),
      ← end,
    ) refl

-- the signed part
octets_behind : (front : List Place) (left others : List Place) → left ≡ front ++ others → AllByRecursion Octets left → AllByRecursion Octets others
octets_behind front left others e fits = all_behind Octets front others (subst (AllByRecursion Octets) e fits)

-- the members, from the values that the three steps took
in_order : {left behind_head behind_subject others : Members} {head : TbsHead} {version : Version} {subject : Subject} {found : Extensions} (first : TakesHead left head behind_head) (second : TakesSubject version behind_head subject behind_subject) (third : TakesExtensions version behind_subject found others)
    → others.values ≡ []
    → left.values ≡ first.versions ++ (head.serial ∷ first.signature ∷ first.issuer ∷ first.validity ∷ (second.name ∷ second.key_info ∷ second.issuer_ids ++ (second.subject_ids ++ third.tagged)))
in_order {head = head} first second third none =
    first.values
    ∙ ap (λ vs. first.versions ++ (head.serial ∷ first.signature ∷ first.issuer ∷ first.validity ∷ vs))
    (second.values
    ∙ ap (λ vs. second.name ∷ second.key_info ∷ second.issuer_ids ++ (second.subject_ids ++ vs))
    (third.values ∙ ap (◌++◌ third.tagged) none ∙ append-nil third.tagged))

pub is_tbs : (value : Place) (fields : TbsCertificate) → AreOctets value.octets → tbs_certificate value ≡ Ok fields → (tag value ≡ 0x30) × IsTbsCertificate value fields
unfolding tbs_certificate
is_tbs value fields fits e =
    let sequence = bind_ok _ _ fields e in
    let head = bind_ok _ _ fields sequence.2 in
    let subject = bind_ok _ _ fields head.2 in
    let extensions = bind_ok _ _ fields subject.2 in
    let done = bind_ok _ _ fields extensions.2 in
    let first = head_ok (members value) head.0 head.1 in
    let second = subject_ok head.0.0.version head.0.1 subject.0 subject.1 in
    let behind_head = (octets_behind first.versions ((members value).values) (head.0.0.serial ∷ first.signature ∷ first.issuer ∷ first.validity ∷ head.0.1.values) first.values (members_octets value fits)).1.1.1.1 in
    let behind_key = (subst (AllByRecursion Octets) {y = second.name ∷ second.key_info ∷ second.issuer_ids ++ (second.subject_ids ++ subject.0.1.values)} second.values behind_head).1.1 in
    let behind_ids = all_behind Octets second.subject_ids subject.0.1.values (all_behind Octets second.issuer_ids (second.subject_ids ++ subject.0.1.values) behind_key) in
    let third = optional_extensions_ok head.0.0.version subject.0.1 extensions.0 behind_ids extensions.1 in (
      is_a_ok _ _ _ _ sequence.1,
      subst (IsTbsCertificate value) (ok_is {E = CertRule × ℕ} _ fields done.2) record {
        versions = first.versions;
        signature = first.signature;
        issuer = first.issuer;
        validity = first.validity;
        subject = second.name;
        key_info = second.key_info;
        issuer_ids = second.issuer_ids;
        subject_ids = second.subject_ids;
        extensions = third.tagged;
        members_are = in_order first second third (ended_ok _ _ _ done.1);
        version_is = first.version_is;
        serial_is = first.serial_is;
        signature_is = first.signature_is;
        issuer_is = first.issuer_is;
        issuer_named = first.issuer_named;
        validity_is = first.validity_is;
        subject_is = second.name_is;
        key_info_is = second.key_info_is;
        issuer_id_is = second.issuer_id_is;
        subject_id_is = second.subject_id_is;
        extensions_are = third.are;
      },
    )

pub tbs_is : (value : Place) (fields : TbsCertificate) → AreOctets value.octets → tag value ≡ 0x30 → IsTbsCertificate value fields → tbs_certificate value ≡ Ok fields
unfolding tbs_certificate
tbs_is value fields fits sequence is =
    let next : List Place → Members = λ values. record { values = values; end = (members value).end } in
    let after_head = is.subject ∷ is.key_info ∷ is.issuer_ids ++ (is.subject_ids ++ is.extensions) in
    let head : TakesHead (members value) fields.head (next after_head) = record {
      versions = is.versions;
      signature = is.signature;
      issuer = is.issuer;
      validity = is.validity;
      values = is.members_are;
      version_is = is.version_is;
      serial_is = is.serial_is;
      signature_is = is.signature_is;
      issuer_is = is.issuer_is;
      issuer_named = is.issuer_named;
      validity_is = is.validity_is;
    } in
    let subject : TakesSubject fields.head.version (next after_head) fields.subject (next is.extensions) = record {
      name = is.subject;
      key_info = is.key_info;
      issuer_ids = is.issuer_ids;
      subject_ids = is.subject_ids;
      values = refl;
      name_is = is.subject_is;
      key_info_is = is.key_info_is;
      issuer_id_is = is.issuer_id_is;
      subject_id_is = is.subject_id_is;
    } in
    let behind_head = (octets_behind is.versions ((members value).values) (fields.head.serial ∷ is.signature ∷ is.issuer ∷ is.validity ∷ after_head) is.members_are (members_octets value fits)).1.1.1.1 in
    let behind_ids = all_behind Octets is.subject_ids is.extensions (all_behind Octets is.issuer_ids (is.subject_ids ++ is.extensions) behind_head.1.1) in
    rw (
      is_a_again 0x30 R.Layout value sequence,
      head_again (members value) (next after_head) fields.head head refl,
      subject_again fields.head.version (next after_head) fields.subject is.extensions fields.extensions (next is.extensions) subject refl is.extensions_are refl,
      optional_extensions_again fields.head.version (next is.extensions) is.extensions fields.extensions behind_ids refl is.extensions_are,
      ended_again R.Layout (next []) refl,
    ) refl

-- the signature
signature_ok : (value : Place) (read : BitString) → tag value ≡ 0x03 → signature_value value ≡ Ok read → (value ≡ read.value) × IsSignature read.value read.octets
unfolding signature_value
signature_ok value read t e =
    let whole = bind_ok _ _ read e in
    let P : BitString → Type 0 = λ b. (value ≡ b.value) × IsSignature b.value b.octets in
    subst P (ok_is {E = CertRule × ℕ} (bit_string_at value) read whole.2) (refl, record { bit_string = t; contents = by (body value) (check_ok _ _ _ _ whole.1) })
  where
    by : (contents : List ℕ) → has_no_unused_bits contents ≡ true → contents ≡ 0 ∷ bits_in contents
    by [] f = absurd cc
    by (unused ∷ bits) f = ap (λ (n : ℕ). n ∷ bits) (eqb-true unused 0 f)

signature_again : (read : BitString) → IsSignature read.value read.octets → signature_value read.value ≡ Ok read
unfolding signature_value
signature_again read is =
    let whole = check_again (has_no_unused_bits (body read.value)) R.SignatureBits read.value.at (ap has_no_unused_bits is.contents) in
    rw (whole, is.contents) refl

-- signatureAlgorithm
same_ok : (inner : AlgorithmIdentifier) (value : Place) (u : Unit {0}) → same_algorithm inner value ≡ Ok u → value.octets ≡ inner.value.octets
unfolding same_algorithm
same_ok inner value u e = (bytes_eq-Decides value.octets inner.value.octets).0 (check_ok _ _ _ _ e)

same_again : (inner : AlgorithmIdentifier) (value : Place) → value.octets ≡ inner.value.octets → same_algorithm inner value ≡ Ok tt
unfolding same_algorithm
same_again inner value same = check_again (bytes_eq value.octets inner.value.octets) R.AlgorithmsDiffer value.at ((bytes_eq-Decides value.octets inner.value.octets).1 same)

-- the whole certificate
pub is_certificate_at : (value : Place) (fields : Certificate) → AreOctets value.octets → certificate_at value ≡ Ok fields → IsCertificateAt value fields
unfolding certificate_at
is_certificate_at value fields fits e =
    let sequence = bind_ok _ _ fields e in
    let signed = bind_ok _ _ fields sequence.2 in
    let tbs = bind_ok _ _ fields signed.2 in
    let algorithm = bind_ok _ _ fields tbs.2 in
    let signature = bind_ok _ _ fields algorithm.2 in
    let done = bind_ok _ _ fields signature.2 in
    let first = next_or_ok _ _ _ signed.1 in
    let second = component_ok 0x30 (same_algorithm tbs.0.head.signature) signed.0.1 algorithm.0 algorithm.1 in
    let third = component_ok 0x03 signature_value algorithm.0.1 signature.0 signature.1 in
    let bits = signature_ok third.value signature.0.0 third.took.tag_is third.read_is in
    let signed_fits = (subst (AllByRecursion Octets) first.values (members_octets value fits)).0 in
    let part = is_tbs signed.0.0 tbs.0 signed_fits tbs.1 in
    record {
      signed = signed.0.0;
      algorithm = second.value;
      signature = signature.0.0;
      tbs = tbs.0;
      sequence = is_a_ok _ _ _ _ sequence.1;
      members_are = first.values ∙ ap (◌∷◌ signed.0.0) (second.took.values ∙ ap (◌∷◌ second.value) (third.took.values ∙ ap (λ s. s ∷ signature.0.1.values) bits.0 ∙ ap (◌∷◌ signature.0.0.value) (ended_ok _ _ _ done.1)));
      signed_sequence = part.0;
      signed_is = part.1;
      same_algorithm = same_ok tbs.0.head.signature second.value algorithm.0.0 second.read_is;
      algorithm_sequence = second.took.tag_is;
      signature_is = bits.1;
      fields_are = sym (ok_is {E = CertRule × ℕ} _ fields done.2);
    }

pub certificate_at_is : (value : Place) (fields : Certificate) → AreOctets value.octets → IsCertificateAt value fields → certificate_at value ≡ Ok fields
unfolding certificate_at
certificate_at_is value fields fits is =
    let next : List Place → Members = λ values. record { values = values; end = (members value).end } in
    let signed_fits = (subst (AllByRecursion Octets) is.members_are (members_octets value fits)).0 in
    rw (
      is_a_again 0x30 R.Layout value is.sequence,
      next_or_again R.Layout (members value) is.signed (is.algorithm ∷ is.signature.value ∷ []) is.members_are,
      tbs_is is.signed is.tbs signed_fits is.signed_sequence is.signed_is,
      component_again 0x30 (same_algorithm is.tbs.head.signature) (next (is.algorithm ∷ is.signature.value ∷ [])) is.algorithm (is.signature.value ∷ []) tt refl is.algorithm_sequence (same_again is.tbs.head.signature is.algorithm is.same_algorithm),
      component_again 0x03 signature_value (next (is.signature.value ∷ [])) is.signature.value [] is.signature refl is.signature_is.bit_string (signature_again is.signature is.signature_is),
      ended_again R.Layout (next []) refl,
      ← is.fields_are,
    ) refl

pub certificate_is_exact : CertificateIsExact
unfolding certificate
certificate_is_exact octets fields fits = (
  λ e.
      let value = bind_ok (as_der (outermost octets)) (λ value. certificate_at value) fields e in
      let whole = outermost_ok octets value.0 fits (as_der_ok (outermost octets) value.0 value.1) in
      let at = subst (λ v. certificate_at v ≡ Ok fields) whole.0 value.2 in
      record { value = whole.1.0; der = whole.1.1; layout = is_certificate_at (record { octets = octets; at = 0 }) fields fits at },
  λ is. rw (outermost_again octets (is.value, is.der)) (certificate_at_is (record { octets = octets; at = 0 }) fields fits is.layout),
)

pub certificate_is_unique : CertificateIsUnique
certificate_is_unique octets one other fits is also =
    ok_is {E = CertRule × ℕ} one other (sym ((certificate_is_exact octets one fits).1 is) ∙ (certificate_is_exact octets other fits).1 also)
