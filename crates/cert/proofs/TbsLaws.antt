-- The walk of the signed part finds what the standard calls one, and nothing else.
use Rattle.std.proofs.Common.{◌≡◌, ◌≢◌, ℕ, true, false, not, List, [], ◌∷◌, ◌++◌, length, nat_lt, Option, Some, None, Result, Ok, arith, refl, sym, ap, ◌∙◌, subst}
use Rattle.std.proofs.lemmas.Bool.{and_parts, and_from, ltb-true, lt-ltb}
use Rattle.asn.specs.Place.{Place, tag, body}
use Rattle.asn.specs.Members.{Members, begins, begins_in}
use Rattle.asn.specs.Walk.{optional}
use Rattle.asn.proofs.Laws.{bind_ok, ok_is, check_ok, check_again, Takes, required_ok, required_again, TakesNext, next_or_ok, next_or_again, TakesOptional, optional_is, optional_there, optional_absent}
use Rattle.names.specs.DistinguishedName.{RdnMap}
use Rattle.names.specs.NameLayout.{name}
use Rattle.names.specs.GeneralLayout.{NameContents, contents_at}
use Rattle.names.proofs.Laws.{name_is_exact}
use Rattle.cert.specs.declared.fault.CertRule.{CertRule}
use Rattle.cert.specs.declared.fault.CertRule.TheVariants as R
use Rattle.cert.specs.declared.version.Version.{Version}
use Rattle.cert.specs.declared.version.Version.TheVariants.{V1, V2, V3}
use Rattle.cert.specs.Fault.{as_name}
use Rattle.cert.specs.Version.{is_v1}
use Rattle.cert.specs.TbsCertificate.{next_read, component, is_serial, serial_number, distinguished_name, is_empty_name, issuer, unique_id_in, unique_id}
use Rattle.cert.proofs.Rooms.{as_name_ok}
use Rattle.cert.specs.CertificateForms.{IsSerialNumber, IsNameOf, IsUniqueId}

-- a value that is there, whatever it is
pub record TakesRead {A : Type 0} (read : Place → Result A (CertRule × ℕ)) (left : Members) (found : A) (others : Members) : Type 0 where
  pub value : Place
  pub took : TakesNext left value others
  pub read_is : read value ≡ Ok found

pub next_read_ok : {A : Type 0} (read : Place → Result A (CertRule × ℕ)) (left : Members) (x : A × Members) → next_read read left ≡ Ok x → TakesRead read left x.0 x.1
unfolding next_read
next_read_ok {A = A} read left x e =
    let value = bind_ok _ _ x e in
    let found = bind_ok (read value.0.0) _ x value.2 in
    let P : A × Members → Type 0 = λ y. TakesRead read left y.0 y.1 in
    subst P (ok_is {E = CertRule × ℕ} (found.0, value.0.1) x found.2)
    record { value = value.0.0; took = next_or_ok R.Layout left value.0 value.1; read_is = found.1 }

pub next_read_again : {A : Type 0} (read : Place → Result A (CertRule × ℕ)) (left : Members) (value : Place) (others : List Place) (found : A) → left.values ≡ value ∷ others → read value ≡ Ok found → next_read read left ≡ Ok (found, record { values = others; end = left.end })
unfolding next_read
next_read_again read left value others found e r = rw (next_or_again R.Layout left value others e, r) refl

-- a component that is there
pub record TakesComponent {A : Type 0} (identifier : ℕ) (read : Place → Result A (CertRule × ℕ)) (left : Members) (found : A) (others : Members) : Type 0 where
  pub value : Place
  pub took : Takes identifier left value others
  pub read_is : read value ≡ Ok found

pub component_ok : {A : Type 0} (identifier : ℕ) (read : Place → Result A (CertRule × ℕ)) (left : Members) (x : A × Members) → component identifier read left ≡ Ok x → TakesComponent identifier read left x.0 x.1
unfolding component
component_ok {A = A} identifier read left x e =
    let value = bind_ok _ _ x e in
    let found = bind_ok (read value.0.0) _ x value.2 in
    let P : A × Members → Type 0 = λ y. TakesComponent identifier read left y.0 y.1 in
    subst P (ok_is {E = CertRule × ℕ} (found.0, value.0.1) x found.2)
    record { value = value.0.0; took = required_ok identifier R.Layout left value.0 value.1; read_is = found.1 }

pub component_again : {A : Type 0} (identifier : ℕ) (read : Place → Result A (CertRule × ℕ)) (left : Members) (value : Place) (others : List Place) (found : A) → left.values ≡ value ∷ others → tag value ≡ identifier → read value ≡ Ok found → component identifier read left ≡ Ok (found, record { values = others; end = left.end })
unfolding component
component_again identifier read left value others found e t r = rw (required_again identifier R.Layout left value others e t, r) refl

-- serialNumber
pub serial_ok : (value serial : Place) → tag value ≡ 0x02 → serial_number value ≡ Ok serial → (value ≡ serial) × IsSerialNumber serial (body serial)
unfolding serial_number
serial_ok value serial t e =
    let short = bind_ok _ _ serial e in
    let both = and_parts (nat_lt 0 (length (body value))) (nat_lt (length (body value)) 33) (check_ok _ _ _ _ short.1) in
    let low = ltb-true 0 (length (body value)) both.0 in
    let high = ltb-true (length (body value)) 33 both.1 in
    let same = ok_is {E = CertRule × ℕ} value serial short.2 in
    (same, subst (λ s. IsSerialNumber s (body s)) same (record { integer = t; some = low; short = omega arith; contents = refl }))

pub serial_again : (value : Place) → IsSerialNumber value (body value) → serial_number value ≡ Ok value
unfolding serial_number
serial_again value is =
    let some = is.some in
    let short = is.short in
    let fits = and_from (nat_lt 0 (length (body value))) (nat_lt (length (body value)) 33) (lt-ltb 0 (length (body value)) some) (lt-ltb (length (body value)) 33 (omega arith)) in
    rw (check_again (is_serial (body value)) R.Serial value.at fits) refl

-- names
pub name_ok : (value : Place) (contents : NameContents) → distinguished_name value ≡ Ok contents → IsNameOf value contents
unfolding distinguished_name
name_ok value contents e =
    let read = bind_ok (as_name (name value)) _ contents e in
    let is : name value ≡ Ok tt = as_name_ok (name value) read.0 read.1 in
    record { is_name = (name_is_exact value).0 is; contents = sym (ok_is {E = CertRule × ℕ} (contents_at value) contents read.2) }

pub name_again : (value : Place) (contents : NameContents) → IsNameOf value contents → distinguished_name value ≡ Ok contents
unfolding distinguished_name
name_again value contents is = rw ((name_is_exact value).1 is.is_name, ← is.contents) refl

named_ok : (rdns : List RdnMap) → not (is_empty_name rdns) ≡ true → rdns ≢ []
named_ok [] e none = absurd cc
named_ok (rdn ∷ rdns) e none = absurd cc

named_again : (rdns : List RdnMap) → rdns ≢ [] → not (is_empty_name rdns) ≡ true
named_again [] some = absurd (some refl)
named_again (rdn ∷ rdns) some = refl

pub issuer_ok : (value : Place) (contents : NameContents) → issuer value ≡ Ok contents → IsNameOf value contents × (contents.rdns ≢ [])
unfolding issuer
issuer_ok value contents e =
    let read = bind_ok _ _ contents e in
    let named = bind_ok _ _ contents read.2 in
    let some = named_ok read.0.rdns (check_ok _ _ _ _ named.1) in
    let P : NameContents → Type 0 = λ c. IsNameOf value c × (c.rdns ≢ []) in
    subst P (ok_is {E = CertRule × ℕ} read.0 contents named.2) (name_ok value read.0 read.1, some)

pub issuer_again : (value : Place) (contents : NameContents) → IsNameOf value contents → contents.rdns ≢ [] → issuer value ≡ Ok contents
unfolding issuer
issuer_again value contents is some =
    rw (name_again value contents is, check_again (not (is_empty_name contents.rdns)) R.EmptyIssuer value.at (named_again contents.rdns some)) refl

-- unique identifiers
pub record TakesUniqueId (identifier : ℕ) (version : Version) (left others : Members) : Type 0 where
  pub ids : List Place
  pub values : left.values ≡ ids ++ others.values
  pub end : others.end ≡ left.end
  pub is_id : IsUniqueId identifier version ids

not_v1 : (version : Version) → not (is_v1 version) ≡ true → version ≢ V1
not_v1 V1 e same = absurd cc
not_v1 V2 e same = absurd cc
not_v1 V3 e same = absurd cc

later_than_v1 : (version : Version) → version ≢ V1 → not (is_v1 version) ≡ true
later_than_v1 V1 differ = absurd (differ refl)
later_than_v1 V2 differ = refl
later_than_v1 V3 differ = refl

of_id : (identifier : ℕ) (version : Version) (left : Members) (found : Option Place) (others x : Members) → TakesOptional identifier left found others → unique_id_in version found others ≡ Ok x → TakesUniqueId identifier version left x
of_id identifier version left None others x took e =
    subst (TakesUniqueId identifier version left) (ok_is {E = CertRule × ℕ} others x e)
    record { ids = []; values = sym (ap (λ m. m.values) took.0); end = ap (λ m. m.end) took.0; is_id = tt }
of_id identifier version left (Some id) others x took e =
    let served = bind_ok _ _ x e in
    subst (TakesUniqueId identifier version left) (ok_is {E = CertRule × ℕ} others x served.2)
    record { ids = id ∷ []; values = took.values; end = took.end; is_id = (took.tag_is, not_v1 version (check_ok _ _ _ _ served.1)) }

pub unique_id_ok : (identifier : ℕ) (version : Version) (left x : Members) → unique_id identifier version left ≡ Ok x → TakesUniqueId identifier version left x
unfolding unique_id
unique_id_ok identifier version left x e = of_id identifier version left (optional identifier left).0 (optional identifier left).1 x (optional_is identifier left) e

pub unique_id_again : (identifier : ℕ) (version : Version) (left : Members) (ids others : List Place) → left.values ≡ ids ++ others → IsUniqueId identifier version ids → begins_in identifier others ≡ false → unique_id identifier version left ≡ Ok (record { values = others; end = left.end })
unfolding unique_id begins
unique_id_again identifier version left [] others e is absent = rw (optional_absent identifier left (ap (begins_in identifier) e ∙ absent), ← e) refl
unique_id_again identifier version left (id ∷ []) others e is absent =
    rw (optional_there identifier left id others e is.0, check_again (not (is_v1 version)) R.Version id.at (later_than_v1 version is.1)) refl
unique_id_again identifier version left (id ∷ other ∷ ids) others e is absent = absurd is
