-- Values that are passed over on the way to a certificate.
use Rattle.std.proofs.Common.{◌≡◌, ◌≤◌, ℕ, suc, List, [], ◌∷◌, ◌++◌, length, None, Err, arith, refl, sym, ap, subst, ◌∙◌}
use Rattle.std.specs.List.{filter_map, AllByRecursion}
use Rattle.asn.specs.Place.{Place}
use Rattle.cert.specs.Certificate.{certificate_at}
use Rattle.cert.specs.declared.fault.CertRule.{CertRule}
use Rattle.statements_ocsp.specs.Certificates.{certificate_in, read_of, PassesOver}

pub none_passed : (values : List Place) → PassesOver values values
none_passed values = ([], refl, tt)

append_one : (passed : List Place) (value : Place) (rest : List Place) → passed ++ (value ∷ rest) ≡ (passed ++ value ∷ []) ++ rest
append_one [] value rest = refl
append_one (x ∷ passed) value rest = ap (λ l. x ∷ l) (append_one passed value rest)

all_and_one : (passed : List Place) (value : Place) → AllByRecursion (λ value. certificate_in value ≡ None) passed → certificate_in value ≡ None → AllByRecursion (λ value. certificate_in value ≡ None) (passed ++ value ∷ [])
all_and_one [] value all none = (none, tt)
all_and_one (x ∷ passed) value all none = (all.0, all_and_one passed value all.1 none)

pub one_more_passed : (values rest : List Place) (value : Place) → PassesOver values (value ∷ rest) → certificate_in value ≡ None → PassesOver values rest
one_more_passed values rest value over none = (over.0 ++ value ∷ [], over.1 ∙ append_one over.0 value rest, all_and_one over.0 value over.2 none)

-- one value more is passed over, which is no certificate
pub past_refused : (old self behind new : List Place) (value : Place) (fault : CertRule × ℕ) → certificate_at value ≡ Err fault → behind ≡ value ∷ new
    → (filter_map certificate_in self ≡ filter_map certificate_in old) × (length self ≤ length old) × (behind ≡ self) × PassesOver old self
    → (filter_map certificate_in new ≡ filter_map certificate_in old) × (length new ≤ length old) × (new ≡ new) × PassesOver old new
past_refused old self behind new value fault refused step (found, short, same, over) =
    let none : certificate_in value ≡ None = ap read_of refused in
    let here : self ≡ value ∷ new = sym same ∙ step in
    let shorter : length self ≡ suc (length new) = ap length here in
    (sym (ap (filter_map certificate_in) here ∙ skipped value new none) ∙ found, omega (arith, shorter, short), refl, one_more_passed old new value (subst (PassesOver old) here over) none)
  where
    skipped : (value : Place) (new : List Place) → certificate_in value ≡ None → filter_map certificate_in (value ∷ new) ≡ filter_map certificate_in new
    skipped value new none = rw none refl
