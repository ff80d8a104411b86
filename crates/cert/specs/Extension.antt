-- Extensions (RFC 5280, 4.2):
-- SEQUENCE { extnID OBJECT IDENTIFIER, critical BOOLEAN DEFAULT FALSE, extnValue OCTET STRING }
use Rattle.std.specs.Prelude.{◌≡◌, ◌↔◌, ℕ, Bool, List, [], ◌∷◌, ◌++◌, Result, Ok}
use Rattle.asn.specs.Value.{Value, primitive, constructed, none, more}
use Rattle.asn.specs.Encoding.{EncodesAt}
use Rattle.asn.specs.Place.{Place, seen_tlv, tag, body}
use Rattle.asn.specs.Members.{members}
use Rattle.asn.specs.Walk.{◌>>=◌, is_a, required, default_false, ended}
use Rattle.asn.specs.Layout.{IsDefaultFalse, with_default_false}
use Rattle.asn.specs.Oid.{oid_contents}
use Rattle.cert.specs.declared.extension.Extension as code
use Rattle.cert.specs.declared.fault.CertRule.TheVariants.{Layout}

-- where the whole value stands, the contents octets of the OBJECT IDENTIFIER, and where the OCTET STRING stands
pub record Extension : Type 0 where
  pub whole : Place
  pub oid : List ℕ
  pub critical : Bool
  pub value : Place

abbrev pub seen_extension : code.Extension → Extension
seen_extension read = record { whole = seen_tlv read.whole; oid = oid_contents read.oid; critical = read.critical; value = seen_tlv read.value }

-- The checks in their order. The fault is that of the layout round the value.
unfoldable pub extension : {F : Type 0} → F → Place → Result Extension (F × ℕ)
extension layout value = do
  sequence ← is_a 0x30 layout value
  oid ← required 0x06 layout (members value)
  critical ← default_false layout oid.1
  content ← required 0x04 layout critical.1
  done ← ended layout content.1
  Ok (record { whole = value; oid = body oid.0; critical = critical.0; value = content.0 })

-- The place is a SEQUENCE of an OBJECT IDENTIFIER, TRUE or nothing, and an OCTET STRING.
pub record IsExtension (value : Place) (fields : Extension) : Type 0 where
  pub id : Place
  pub flags : List Place
  pub sequence : tag value ≡ 0x30
  pub members_are : (members value).values ≡ id ∷ flags ++ fields.value ∷ []
  pub identifier : tag id ≡ 0x06
  pub critical : IsDefaultFalse flags fields.critical
  pub octet_string : tag fields.value ≡ 0x04
  pub whole : fields.whole ≡ value
  pub oid : fields.oid ≡ body id

-- The same of a value.
abbrev pub extension_of : List ℕ → Bool → List ℕ → Value
extension_of oid critical contents =
    constructed 0x30 (more (primitive 0x06 oid) (with_default_false critical (more (primitive 0x04 contents) none)))

abbrev pub ExtensionIsExact : Type 0
ExtensionIsExact = (value : Place) (fields : Extension) → (extension Layout value ≡ Ok fields) ↔ IsExtension value fields

-- what the fields show of a value
pub record ShowsExtension (fields : Extension) (oid : List ℕ) (critical : Bool) (contents : List ℕ) : Type 0 where
  pub oid_is : fields.oid ≡ oid
  pub critical_is : fields.critical ≡ critical
  pub contents_are : body fields.value ≡ contents

abbrev pub ExtensionHasLayout : Type 0
ExtensionHasLayout =
    (depth : ℕ) (value : Value) (place : Place)
    (oid : List ℕ) (critical : Bool) (contents : List ℕ) →
    EncodesAt depth place.octets value →
    ((fields : Extension) × (extension Layout place ≡ Ok fields) × ShowsExtension fields oid critical contents)
    ↔ (value ≡ extension_of oid critical contents)
