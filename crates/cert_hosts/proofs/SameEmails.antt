-- The emailAddresses of a name are those of its octets, wherever they stand.
use Rattle.std.proofs.Common.{◌≡◌, ℕ, Bool, true, false, List, [], ◌∷◌, ◌++◌, slice_index, refl, ap, ap₂, ◌∙◌}
use Rattle.std.specs.Prelude.{flat_map}
use Rattle.asn.specs.Identifier.{is_constructed}
use Rattle.asn.specs.Place.{Place, tag}
use Rattle.asn.specs.Members.{octets_of_each}
use Rattle.asn.proofs.Laws.{members_same}
use Rattle.cert_hosts.specs.Mailboxes.{MailValue}
use Rattle.cert_hosts.specs.OwnNames.{inner_of, inner, email_in, email_of, emails_of_rdn}

IsOfOctets : (Place → List MailValue) → Type 0
IsOfOctets emails = (one other : Place) → one.octets ≡ other.octets → emails one ≡ emails other

firsts : (x y : Place) (xs ys : List Place) → octets_of_each (x ∷ xs) ≡ octets_of_each (y ∷ ys) → (x.octets ≡ y.octets) × (octets_of_each xs ≡ octets_of_each ys)
firsts x y xs ys e = (cc, cc)

inner_same : (one other : Place) → one.octets ≡ other.octets → octets_of_each (inner one) ≡ octets_of_each (inner other)
inner_same one other same = ap (λ octets. octets_of_each (inner_of (is_constructed (slice_index octets 0)) one)) same ∙ by (is_constructed (tag other))
  where
    by : (form : Bool) → octets_of_each (inner_of form one) ≡ octets_of_each (inner_of form other)
    by true = members_same one other same
    by false = refl

email_in_same : (xs ys : List Place) → octets_of_each xs ≡ octets_of_each ys → email_in xs ≡ email_in ys
email_in_same [] [] e = refl
email_in_same [] (y ∷ ys) e = absurd cc
email_in_same (x ∷ xs) [] e = absurd cc
email_in_same (x ∷ []) (y ∷ []) e = refl
email_in_same (x ∷ []) (y ∷ w ∷ ys) e = let rest = (firsts x y [] (w ∷ ys) e).1 in absurd cc
email_in_same (x ∷ v ∷ xs) (y ∷ []) e = let rest = (firsts x y (v ∷ xs) [] e).1 in absurd cc
email_in_same (x ∷ v ∷ xs) (y ∷ w ∷ ys) e =
    let type = firsts x y (v ∷ xs) (w ∷ ys) e in
    let value = firsts v w xs ys type.1 in
    ap₂ (λ (t u : List ℕ). email_in (record { octets = t; at = 0 } ∷ record { octets = u; at = 0 } ∷ [])) type.0 value.0

email_same : IsOfOctets email_of
unfolding IsOfOctets
email_same one other same = email_in_same (inner one) (inner other) (inner_same one other same)

all_same : (emails : Place → List MailValue) → IsOfOctets emails → (xs ys : List Place) → octets_of_each xs ≡ octets_of_each ys → flat_map emails xs ≡ flat_map emails ys
unfolding IsOfOctets
all_same emails of_octets [] [] e = refl
all_same emails of_octets [] (y ∷ ys) e = absurd cc
all_same emails of_octets (x ∷ xs) [] e = absurd cc
all_same emails of_octets (x ∷ xs) (y ∷ ys) e = let parts = firsts x y xs ys e in ap₂ ◌++◌ (of_octets x y parts.0) (all_same emails of_octets xs ys parts.1)

rdn_same : IsOfOctets emails_of_rdn
unfolding IsOfOctets
rdn_same one other same = all_same email_of email_same (inner one) (inner other) (inner_same one other same)

pub rdns_same : (xs ys : List Place) → octets_of_each xs ≡ octets_of_each ys → flat_map emails_of_rdn xs ≡ flat_map emails_of_rdn ys
rdns_same xs ys e = all_same emails_of_rdn rdn_same xs ys e
