-- The walk of the name of a point finds what the standard calls one, and nothing else.
use Rattle.std.proofs.Common.{◌≡◌, ◌==◌, ℕ, Bool, true, false, [], ◌∷◌, Ok, if◌then◌else◌, eqb-true, eq-eqb, refl, ap, ◌∙◌, subst}
use Rattle.asn.specs.Members.{Members, members}
use Rattle.asn.specs.Place.{Place, tag}
use Rattle.asn.specs.Walk.{◌>>=◌}
use Rattle.asn.proofs.Laws.{bind_ok, ok_is, is_a_ok, is_a_again, next_or_ok, next_or_again, ended_ok, ended_again}
use Rattle.cert.specs.declared.fault.CertRule.{CertRule}
use Rattle.cert.specs.declared.fault.CertRule.TheVariants.{ExtensionValue}
use Rattle.cert_points.specs.GeneralNames.{general_names}
use Rattle.cert_points.specs.RelativeName.{relative_name}
use Rattle.cert_points.specs.PointName.{PointName, full_name, relative, chosen_name, point_name, IsChosen, IsPointName}
use Rattle.cert_points.proofs.ListedNames.{are_names, names_are}
use Rattle.cert_points.proofs.RelativeParts.{is_relative, relative_is}

is_chosen : (value : Place) (name : PointName) → chosen_name value ≡ Ok name → IsChosen value name
unfolding chosen_name
is_chosen value name e = by (tag value == 0xA0) refl e
  where
    by : (full : Bool) → (tag value == 0xA0) ≡ full
        → (if full then (general_names value >>= λ names. Ok (full_name names)) else (relative_name value >>= λ done. Ok relative)) ≡ Ok name → IsChosen value name
    by true full r =
        let names = bind_ok (general_names value) (λ names. Ok (full_name names)) name r in
        subst (IsChosen value) (ok_is {E = CertRule × ℕ} (full_name names.0) name names.2) (eqb-true (tag value) 0xA0 full, are_names value names.0 names.1)
    by false other r =
        let done = bind_ok (relative_name value) (λ done. Ok relative) name r in
        subst (IsChosen value) (ok_is {E = CertRule × ℕ} relative name done.2) (is_relative value done.1)

chosen_is : (value : Place) (name : PointName) → IsChosen value name → chosen_name value ≡ Ok name
unfolding chosen_name
chosen_is value (full_name names) is = rw (eq-eqb (tag value) 0xA0 is.0, names_are value names is.1) refl
chosen_is value relative is =
    let other : (tag value == 0xA0) ≡ false = ap (λ (t : ℕ). t == 0xA0) is.relative in
    rw (other, relative_is value is) refl

pub is_point_name : (value : Place) (name : PointName) → point_name value ≡ Ok name → IsPointName value name
unfolding point_name
is_point_name value name e =
    let tagged = bind_ok _ _ name e in
    let choice = bind_ok _ _ name tagged.2 in
    let chosen = bind_ok _ _ name choice.2 in
    let done = bind_ok _ _ name chosen.2 in
    let first = next_or_ok _ _ _ choice.1 in
    subst (IsPointName value) (ok_is {E = CertRule × ℕ} chosen.0 name done.2) record {
      choice = choice.0.0;
      explicit = is_a_ok _ _ _ _ tagged.1;
      members_are = first.values ∙ ap (◌∷◌ choice.0.0) (ended_ok _ _ _ done.1);
      chosen = is_chosen choice.0.0 chosen.0 chosen.1;
    }

pub point_name_is : (value : Place) (name : PointName) → IsPointName value name → point_name value ≡ Ok name
unfolding point_name
point_name_is value name is =
    let nothing : Members = record { values = []; end = (members value).end } in
    rw (is_a_again 0xA0 ExtensionValue value is.explicit, next_or_again ExtensionValue (members value) is.choice [] is.members_are, chosen_is is.choice name is.chosen, ended_again ExtensionValue nothing refl) refl
