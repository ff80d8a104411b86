-- Whether a name is among others.
use Rattle.std.proofs.Common.{◌≡◌, ◌≢◌, ◌↔◌, ℕ, zero, suc, List, ◌∷◌, arith, sym, subst, Contains}
use Rattle.asn.specs.Members.{octets_of_each}
use Rattle.asn.specs.Place.{Place}

-- a name that is not the first is among the others
pub not_first : (values others : List Place) (value : Place) (name : List ℕ) → values ≡ value ∷ others → (value.octets ≢ name)
    → Contains (octets_of_each values) name ↔ Contains (octets_of_each others) name
not_first values others value name more differs = (to, from)
  where
    behind : Contains (value.octets ∷ octets_of_each others) name → Contains (octets_of_each others) name
    behind (zero, within, found) = absurd (differs found)
    behind (suc k, within, found) = (k, omega (arith, within), found)

    to : Contains (octets_of_each values) name → Contains (octets_of_each others) name
    to has = behind (subst (λ (vs : List Place). Contains (octets_of_each vs) name) more has)

    from : Contains (octets_of_each others) name → Contains (octets_of_each values) name
    from (k, within, found) = subst (λ (vs : List Place). Contains (octets_of_each vs) name) (sym more) (suc k, omega (arith, within), found)
