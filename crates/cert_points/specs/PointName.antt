-- DistributionPointName (RFC 5280, 4.2.1.13 and 5.2.5):
-- CHOICE { fullName [0] GeneralNames, nameRelativeToCRLIssuer [1] RelativeDistinguishedName }
use Rattle.std.specs.Prelude.{◌≡◌, ◌↔◌, ◌==◌, ℕ, List, [], ◌∷◌, Result, Ok, if◌then◌else◌}
use Rattle.asn.specs.Place.{Place, tag}
use Rattle.asn.specs.Members.{members}
use Rattle.asn.specs.Walk.{◌>>=◌, is_a, next_or, ended}
use Rattle.cert.specs.declared.fault.CertRule.{CertRule}
use Rattle.cert.specs.declared.fault.CertRule.TheVariants.{ExtensionValue}
use Rattle.cert_points.specs.declared.point_name.PointName as code
use Rattle.cert_points.specs.declared.point_name.PointName.TheVariants as V
use Rattle.cert_points.specs.GeneralNames.{general_names, AreGeneralNames, seen_general_names}
use Rattle.cert_points.specs.RelativeName.{relative_name, IsRelativeName}

-- full names, or one relative to the issuer of the list, of which nothing more is told
pub data PointName : Type 0 where
  full_name : List (List ℕ) → PointName
  relative : PointName

abbrev pub seen_point_name : code.PointName → PointName
seen_point_name (V.FullName names) = full_name (seen_general_names names)
seen_point_name V.Relative = relative

-- the name that is chosen
unfoldable pub chosen_name : Place → Result PointName (CertRule × ℕ)
chosen_name value =
    if tag value == 0xA0 then (general_names value >>= λ names. Ok (full_name names))
    else (relative_name value >>= λ done. Ok relative)

-- The checks in their order, of the value with the explicit tag [0] round the choice.
unfoldable pub point_name : Place → Result PointName (CertRule × ℕ)
point_name value = do
  tagged ← is_a 0xA0 ExtensionValue value
  choice ← next_or ExtensionValue (members value)
  name ← chosen_name choice.0
  done ← ended ExtensionValue choice.1
  Ok name

-- general names under the tag [0], or a relative name under the tag [1]
abbrev pub IsChosen : Place → PointName → Type 0
IsChosen value (full_name names) = (tag value ≡ 0xA0) × AreGeneralNames value names
IsChosen value relative = IsRelativeName value

-- The value is the tag [0] round such a choice. It is explicit, since a CHOICE has no tag of its own (X.680,
-- 31.2.7).
pub record IsPointName (value : Place) (name : PointName) : Type 0 where
  pub choice : Place
  pub explicit : tag value ≡ 0xA0
  pub members_are : (members value).values ≡ choice ∷ []
  pub chosen : IsChosen choice name

abbrev pub PointNameIsExact : Type 0
PointNameIsExact =
    (value : Place) (name : PointName) → (point_name value ≡ Ok name) ↔ IsPointName value name
