-- DNS names as lists of labels (RFC 1034, 3.1 and 3.5; RFC 5280, 4.2.1.6), and the constraints on them (4.2.1.10).
use Rattle.std.specs.Prelude.{◌≡◌, ◌≢◌, ◌≤◌, ◌<◌, ℕ, List, [], ◌∷◌, ◌++◌, Bool, true, false, not, ◌==◌, ◌&&◌, nat_eq, nat_lt, nat_le, length, map}
use Rattle.std.specs.List.{slice_split, ends_with, join_with_byte, list_all, All}
use Rattle.std.specs.Cmp.Lexicographic.{pointwise}
use Rattle.std.specs.Char.{to_ascii_lowercase}
use Rattle.names.specs.declared.dns.Domain.{Domain}
use Rattle.names.specs.declared.dns.Domain.TheVariants as D

-- an octet of a label: any that prints, except the dot (a choice of this profile)
pub record IsLabelOctet (octet : ℕ) : Type 0 where
  pub from : 33 ≤ octet
  pub to : octet ≤ 126
  pub no_dot : octet ≢ 46

pub record IsLabel (label : List ℕ) : Type 0 where
  pub some : 0 < length label
  pub short : length label ≤ 63
  pub octets : All IsLabelOctet label

-- one label or more, joined by dots
pub record IsDnsName (name : List ℕ) : Type 0 where
  pub parts : List (List ℕ)
  pub some : 0 < length parts
  pub each : All IsLabel parts
  pub joined : name ≡ join_with_byte 46 parts
  pub short : length name ≤ 253

-- the base of a constraint: empty, a name, or a dot and a name
abbrev pub IsBaseOf : List ℕ → Domain → Type 0
IsBaseOf base D.Every = base ≡ []
IsBaseOf base (D.Within name) = (base ≡ name.now) × IsDnsName name.now
IsBaseOf base (D.Below name) = (base ≡ 46 ∷ name.now) × IsDnsName name.now

abbrev pub is_dot : ℕ → Bool
is_dot octet = octet == 46

-- the labels, with ASCII case folded
abbrev pub labels : List ℕ → List (List ℕ)
labels text = slice_split is_dot (map to_ascii_lowercase text)

-- the first list ends in the second
pub record EndsIn (list end : List (List ℕ)) : Type 0 where
  pub front : List (List ℕ)
  pub joined : list ≡ front ++ end

-- the same, with at least one element more
pub record EndsInMore (list end : List (List ℕ)) : Type 0 where
  pub first : List ℕ
  pub front : List (List ℕ)
  pub joined : list ≡ (first ∷ front) ++ end

-- the name lies in the domain
abbrev pub IsInDomain : List ℕ → Domain → Type 0
IsInDomain name D.Every = Unit {0}
IsInDomain name (D.Within base) = EndsIn (labels name) (labels base.now)
IsInDomain name (D.Below base) = EndsInMore (labels name) (labels base.now)

-- tests of these facts

abbrev pub is_label_octet : ℕ → Bool
is_label_octet octet = nat_le 33 octet && (nat_le octet 126 && not (octet == 46))

abbrev pub is_label_length : ℕ → Bool
is_label_length count = nat_lt 0 count && nat_le count 63

abbrev pub is_label : List ℕ → Bool
is_label label = nat_lt 0 (length label) && (nat_le (length label) 63 && list_all is_label_octet label)

abbrev pub same_label : List ℕ → List ℕ → Bool
same_label = pointwise nat_eq

abbrev pub ends_in_labels : List ℕ → List ℕ → Bool
ends_in_labels name base = ends_with same_label (labels name) (labels base)

abbrev pub ends_in_more_labels : List ℕ → List ℕ → Bool
ends_in_more_labels name base = nat_lt (length (labels base)) (length (labels name)) && ends_in_labels name base

unfoldable pub is_in_domain : List ℕ → Domain → Bool
is_in_domain name D.Every = true
is_in_domain name (D.Within base) = ends_in_labels name base.now
is_in_domain name (D.Below base) = ends_in_more_labels name base.now

-- whether the first domain is below the second
unfoldable pub is_domain_inside : Domain → Domain → Bool
is_domain_inside s D.Every = true
is_domain_inside D.Every t = false
is_domain_inside (D.Within s) (D.Within t) = ends_in_labels s.now t.now
is_domain_inside (D.Within s) (D.Below t) = ends_in_more_labels s.now t.now
is_domain_inside (D.Below s) (D.Within t) = ends_in_labels s.now t.now
is_domain_inside (D.Below s) (D.Below t) = ends_in_labels s.now t.now
