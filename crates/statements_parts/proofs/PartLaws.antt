-- What the parts of statements are, where their walks succeed, and that these succeed there.
use Rattle.std.proofs.Common.{◌≡◌, ℕ, Bool, true, false, not, List, [], ◌∷◌, length, nat_lt, Result, Ok, Err, arith, refl, sym, ap, subst}
use Rattle.std.specs.FinSet.{contains, insert}
use Rattle.std.proofs.lemmas.Bool.{and_parts, and_from, ltb-true, lt-ltb, eqb-true}
use Rattle.asn.specs.DerLaws.{AreOctets}
use Rattle.asn.specs.Rule.{Rule}
use Rattle.asn.specs.Part.{IsWhole}
use Rattle.asn.specs.Place.{Place, tag, body, body_place}
use Rattle.asn.specs.Members.{Members}
use Rattle.asn.specs.Outermost.{nested}
use Rattle.asn.proofs.Laws.{bind_ok, ok_is, check_ok, check_again, Takes, required_ok, required_again, TakesNext, next_or_ok, next_or_again, nested_ok, nested_again}
use Rattle.names.specs.NameRule.{NameRule}
use Rattle.names.specs.NameLayout.{name}
use Rattle.names.specs.GeneralLayout.{NameContents, contents_at}
use Rattle.names.proofs.Laws.{name_is_exact}
use Rattle.cert.specs.BitString.{BitString, bit_string_at, bits_in, has_no_unused_bits}
use Rattle.cert.specs.TbsCertificate.{is_serial}
use Rattle.cert.specs.CertificateForms.{IsSerialNumber, IsNameOf, IsSignature}
use Rattle.cert.specs.Extension.{Extension, IsExtension}
use Rattle.cert.specs.OidSet.{Oids}
use Rattle.cert.proofs.Laws.{is_extension, extension_is}
use Rattle.statements_parts.specs.declared.fault.StatementRule.{StatementRule}
use Rattle.statements_parts.specs.declared.fault.StatementRule.TheVariants.{Layout}
use Rattle.statements_parts.specs.Fault.{as_statement_der, as_statement_name}
use Rattle.statements_parts.specs.Parts.{next_in_statement, statement_component, serial_in_statement, name_in_statement, signature_in_statement, new_extension}

-- faults of the layers below
pub as_der_ok : {A : Type 0} (r : Result A (Rule × ℕ)) (x : A) → as_statement_der r ≡ Ok x → r ≡ Ok x
as_der_ok (Ok y) x e = cc
as_der_ok (Err fault) x e = absurd cc

as_name_ok : {A : Type 0} (r : Result A (NameRule × ℕ)) (x : A) → as_statement_name r ≡ Ok x → r ≡ Ok x
as_name_ok (Ok y) x e = cc
as_name_ok (Err fault) x e = absurd cc

-- the value that an OCTET STRING holds
pub contained_ok : (octet_string value : Place) → AreOctets (body octet_string) → as_statement_der (nested octet_string) ≡ Ok value → (value ≡ body_place octet_string) × IsWhole (body octet_string)
contained_ok octet_string value fits e = nested_ok octet_string value fits (as_der_ok (nested octet_string) value e)

pub contained_again : (octet_string : Place) → IsWhole (body octet_string) → as_statement_der (nested octet_string) ≡ Ok (body_place octet_string)
contained_again octet_string whole = ap as_statement_der (nested_again octet_string whole)

-- a value that is there, whatever it is
pub record TakesRead {A : Type 0} (read : Place → Result A (StatementRule × ℕ)) (left : Members) (found : A) (others : Members) : Type 0 where
  pub value : Place
  pub took : TakesNext left value others
  pub read_is : read value ≡ Ok found

pub next_read_ok : {A : Type 0} (read : Place → Result A (StatementRule × ℕ)) (left : Members) (x : A × Members) → next_in_statement read left ≡ Ok x → TakesRead read left x.0 x.1
unfolding next_in_statement
next_read_ok {A = A} read left x e =
    let value = bind_ok _ _ x e in
    let found = bind_ok (read value.0.0) _ x value.2 in
    let P : A × Members → Type 0 = λ y. TakesRead read left y.0 y.1 in
    subst P (ok_is {E = StatementRule × ℕ} (found.0, value.0.1) x found.2)
    record { value = value.0.0; took = next_or_ok Layout left value.0 value.1; read_is = found.1 }

pub next_read_again : {A : Type 0} (read : Place → Result A (StatementRule × ℕ)) (left : Members) (value : Place) (others : List Place) (found : A) → left.values ≡ value ∷ others → read value ≡ Ok found → next_in_statement read left ≡ Ok (found, record { values = others; end = left.end })
unfolding next_in_statement
next_read_again read left value others found e r = rw (next_or_again Layout left value others e, r) refl

-- a component that is there
pub record TakesComponent {A : Type 0} (identifier : ℕ) (read : Place → Result A (StatementRule × ℕ)) (left : Members) (found : A) (others : Members) : Type 0 where
  pub value : Place
  pub took : Takes identifier left value others
  pub read_is : read value ≡ Ok found

pub component_ok : {A : Type 0} (identifier : ℕ) (read : Place → Result A (StatementRule × ℕ)) (left : Members) (x : A × Members) → statement_component identifier read left ≡ Ok x → TakesComponent identifier read left x.0 x.1
unfolding statement_component
component_ok {A = A} identifier read left x e =
    let value = bind_ok _ _ x e in
    let found = bind_ok (read value.0.0) _ x value.2 in
    let P : A × Members → Type 0 = λ y. TakesComponent identifier read left y.0 y.1 in
    subst P (ok_is {E = StatementRule × ℕ} (found.0, value.0.1) x found.2)
    record { value = value.0.0; took = required_ok identifier Layout left value.0 value.1; read_is = found.1 }

pub component_again : {A : Type 0} (identifier : ℕ) (read : Place → Result A (StatementRule × ℕ)) (left : Members) (value : Place) (others : List Place) (found : A) → left.values ≡ value ∷ others → tag value ≡ identifier → read value ≡ Ok found → statement_component identifier read left ≡ Ok (found, record { values = others; end = left.end })
unfolding statement_component
component_again identifier read left value others found e t r = rw (required_again identifier Layout left value others e t, r) refl

-- serial numbers
pub serial_ok : (value : Place) (serial : List ℕ) → tag value ≡ 0x02 → serial_in_statement value ≡ Ok serial → IsSerialNumber value serial
unfolding serial_in_statement
serial_ok value serial t e =
    let short = bind_ok _ _ serial e in
    let both = and_parts (nat_lt 0 (length (body value))) (nat_lt (length (body value)) 33) (check_ok _ _ _ _ short.1) in
    let low = ltb-true 0 (length (body value)) both.0 in
    let high = ltb-true (length (body value)) 33 both.1 in
    record { integer = t; some = low; short = omega arith; contents = sym (ok_is {E = StatementRule × ℕ} (body value) serial short.2) }

pub serial_again : (value : Place) (serial : List ℕ) → IsSerialNumber value serial → serial_in_statement value ≡ Ok serial
unfolding serial_in_statement
serial_again value serial is =
    let some = is.some in
    let short = is.short in
    let fits = and_from (nat_lt 0 (length (body value))) (nat_lt (length (body value)) 33) (lt-ltb 0 (length (body value)) some) (lt-ltb (length (body value)) 33 (omega arith)) in
    rw (check_again (is_serial (body value)) Layout value.at fits, ← is.contents) refl

-- names
pub name_ok : (value : Place) (contents : NameContents) → name_in_statement value ≡ Ok contents → IsNameOf value contents
unfolding name_in_statement
name_ok value contents e =
    let read = bind_ok (as_statement_name (name value)) _ contents e in
    let is : name value ≡ Ok tt = as_name_ok (name value) read.0 read.1 in
    record { is_name = (name_is_exact value).0 is; contents = sym (ok_is {E = StatementRule × ℕ} (contents_at value) contents read.2) }

pub name_again : (value : Place) (contents : NameContents) → IsNameOf value contents → name_in_statement value ≡ Ok contents
unfolding name_in_statement
name_again value contents is = rw ((name_is_exact value).1 is.is_name, ← is.contents) refl

-- signatures
pub signature_ok : (value : Place) (read : BitString) → tag value ≡ 0x03 → signature_in_statement value ≡ Ok read → (value ≡ read.value) × IsSignature read.value read.octets
unfolding signature_in_statement
signature_ok value read t e =
    let whole = bind_ok _ _ read e in
    let P : BitString → Type 0 = λ b. (value ≡ b.value) × IsSignature b.value b.octets in
    subst P (ok_is {E = StatementRule × ℕ} (bit_string_at value) read whole.2) (refl, record { bit_string = t; contents = by (body value) (check_ok _ _ _ _ whole.1) })
  where
    by : (contents : List ℕ) → has_no_unused_bits contents ≡ true → contents ≡ 0 ∷ bits_in contents
    by [] f = absurd cc
    by (unused ∷ bits) f = ap (λ (n : ℕ). n ∷ bits) (eqb-true unused 0 f)

pub signature_again : (read : BitString) → IsSignature read.value read.octets → signature_in_statement read.value ≡ Ok read
unfolding signature_in_statement
signature_again read is =
    let whole = check_again (has_no_unused_bits (body read.value)) Layout read.value.at (ap has_no_unused_bits is.contents) in
    rw (whole, is.contents) refl

-- an extension of a new type
pub record NewExtension (types : Oids) (value : Place) (one : Extension) (added : Oids) : Type 0 where
  pub is : IsExtension value one
  pub new : contains types one.oid ≡ false
  pub added_is : added ≡ insert types one.oid

false_of : (b : Bool) → not b ≡ true → b ≡ false
false_of true e = absurd cc
false_of false e = refl

pub new_extension_ok : (types : Oids) (value : Place) (x : Extension × Oids) → new_extension types value ≡ Ok x → NewExtension types value x.0 x.1
unfolding new_extension
new_extension_ok types value x e =
    let read = bind_ok {A = Extension} _ _ x e in
    let new = bind_ok {A = Unit {0}} _ _ x read.2 in
    let P : Extension × Oids → Type 0 = λ y. NewExtension types value y.0 y.1 in
    subst P (ok_is {E = StatementRule × ℕ} (read.0, insert types read.0.oid) x new.2)
    record { is = is_extension Layout value read.0 read.1; new = false_of (contains types read.0.oid) (check_ok _ _ _ _ new.1); added_is = refl }

pub new_extension_again : (types : Oids) (value : Place) (one : Extension) → IsExtension value one → contains types one.oid ≡ false → new_extension types value ≡ Ok (one, insert types one.oid)
unfolding new_extension
new_extension_again types value one is new =
    rw (extension_is Layout value one is, check_again (not (contains types one.oid)) Layout value.at (ap not new)) refl
