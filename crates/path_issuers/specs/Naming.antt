-- Who has the name of whose issuer, by numbers of the names.
use Rattle.std.specs.Prelude.{◌≡◌, ◌+◌, ◌<◌, ◌≤◌, ℕ, List, ◌∷◌, [], ◌++◌, Bool, true, false, Contains, cond, length, map, nat_lt, slice_index, slice_index_or}
use Rattle.std.specs.Global.{Vec}
use Rattle.std.specs.List.Sorted.{IsStrictlyIncreasing}
use Rattle.names.specs.NameKey.{name_key}
use Rattle.names.specs.NameOctets.{rdns_of}
use Rattle.cert.specs.declared.certificate.Certificate.{Certificate}
use Rattle.path_issuers.specs.Search.{Search}
use Rattle.path_issuers.specs.Questions.{IsNamedBy, LeadsToTarget}
use Rattle.path_issuers.specs.Lists.{list_at, lists_of}
use Rattle.path_issuers.specs.Keys.{HasKey, number_of}
use Rattle.path_issuers.specs.declared.question.Issuer.TheVariants.{Anchor, Bag}
use Rattle.path_issuers.specs.declared.search.Search as code
use Rattle.path_issuers.specs.declared.naming.Naming.{Naming}

abbrev pub subject_key : Certificate → List ℕ
subject_key c = name_key (rdns_of c.subject)

abbrev pub issuer_key : Certificate → List ℕ
issuer_key c = name_key (rdns_of c.issuer)

-- the keys of the names of certificates are behind the others
abbrev pub AddsKeys : (Certificate → List ℕ) → List Certificate → List (Vec ℕ) → List (Vec ℕ) → Type 0
AddsKeys key certificates old new = lists_of new ≡ lists_of old ++ map key certificates

-- the keys of all names that are compared are there
pub record HasKeysOf (search : code.Search) (keys : List (Vec ℕ)) : Type 0 where
  pub anchors : (place : ℕ) (d : Certificate) → place < length search.anchors.now → HasKey keys (subject_key (slice_index_or search.anchors.now place d))
  pub subjects : (place : ℕ) (d : Certificate) → place < length search.bag.now → HasKey keys (subject_key (slice_index_or search.bag.now place d))
  pub issuers : (place : ℕ) (d : Certificate) → place < length search.bag.now → HasKey keys (issuer_key (slice_index_or search.bag.now place d))
  pub target : HasKey keys (issuer_key search.target.now)

abbrev pub subject_number : List (Vec ℕ) → Certificate → ℕ
subject_number keys c = number_of keys (subject_key c)

abbrev pub issuer_number : List (Vec ℕ) → Certificate → ℕ
issuer_number keys c = number_of keys (issuer_key c)

-- of the issuers of the bag, and of the target
abbrev pub issuer_numbers : List (Vec ℕ) → code.Search → List ℕ
issuer_numbers keys search = map (issuer_number keys) search.bag.now ++ issuer_number keys search.target.now ∷ []

-- the place is not in the bag, or the name of its certificate is wanted
abbrev pub is_wanted : List ℕ → List Bool → ℕ → Bool
is_wanted subjects wanted place = cond (nat_lt place (length subjects)) (slice_index_or wanted (slice_index subjects place) false) true

-- a chain from a name to the target: it is the name of the issuer of the first, whose own is that of the issuer of the next one
abbrev pub IsChainBelow : List ℕ → List ℕ → ℕ → List ℕ → Type 0
IsChainBelow subjects issuers number [] = number ≡ slice_index issuers (length subjects)
IsChainBelow subjects issuers number (place ∷ below) =
    (place < length subjects) × (number ≡ slice_index issuers place) × IsChainBelow subjects issuers (slice_index subjects place) below

abbrev pub LeadsBelow : List ℕ → List ℕ → ℕ → Type 0
LeadsBelow subjects issuers number = (below : List ℕ) × IsChainBelow subjects issuers number below

-- the issuer's name of the target is wanted, and of each whose own name is, and no other
pub record AreWanted (subjects issuers : List ℕ) (wanted : List Bool) : Type 0 where
  pub first : slice_index_or wanted (slice_index issuers (length subjects)) false ≡ true
  pub next : (place : ℕ) → place < length subjects → slice_index_or wanted (slice_index subjects place) false ≡ true
      → slice_index_or wanted (slice_index issuers place) false ≡ true
  pub only : (number : ℕ) → slice_index_or wanted number false ≡ true → LeadsBelow subjects issuers number

-- the issuers of those that are not wanted have the number that no name has
pub record AreInUse (subjects issuers : List ℕ) (wanted : List Bool) (none : ℕ) (used : List ℕ) : Type 0 where
  pub count : length used ≡ length issuers
  pub each : (place : ℕ) → place < length issuers → slice_index used place ≡ cond (is_wanted subjects wanted place) (slice_index issuers place) none

-- the certificate leads up from the target by names
abbrev pub IsUseful : Naming → ℕ → Type 0
IsUseful naming place = slice_index naming.issuers.items place < naming.none

-- those whose issuer's name is that of the certificate at the place
abbrev pub named_by : Naming → ℕ → List ℕ
named_by naming place = list_at (lists_of naming.by_issuer.items) (slice_index naming.subjects.items place)

-- the anchors with the issuer's name
abbrev pub anchors_naming : Naming → ℕ → List ℕ
anchors_naming naming place = list_at (lists_of naming.by_anchor.items) (slice_index naming.issuers.items place)

-- the target is useful, and who has the name of the issuer of one that is useful, and no other; and these find each other
pub record IsNaming (s : Search) (naming : Naming) : Type 0 where
  pub target : IsUseful naming (length s.bag)
  pub above : (below place : ℕ) → below ≤ length s.bag → IsUseful naming below → place < length s.bag → IsNamedBy s below (Bag place) → IsUseful naming place
  pub leads : (place : ℕ) → place ≤ length s.bag → IsUseful naming place → LeadsToTarget s place
  pub named : (below place : ℕ) → below ≤ length s.bag → IsUseful naming below → place < length s.bag → IsNamedBy s below (Bag place)
      → Contains (named_by naming place) below
  pub named_only : (below place : ℕ) → place < length s.bag → Contains (named_by naming place) below → IsUseful naming below × IsNamedBy s below (Bag place)
  pub named_within : (below place : ℕ) → Contains (named_by naming place) below → below < length s.bag + 1
  pub named_ascend : (place : ℕ) → IsStrictlyIncreasing (named_by naming place)
  pub anchors : (below anchor : ℕ) → below ≤ length s.bag → IsUseful naming below → anchor < length s.anchors → IsNamedBy s below (Anchor anchor)
      → Contains (anchors_naming naming below) anchor
  pub anchors_only : (below anchor : ℕ) → below ≤ length s.bag → Contains (anchors_naming naming below) anchor
      → IsUseful naming below × IsNamedBy s below (Anchor anchor)
  pub anchors_within : (below anchor : ℕ) → Contains (anchors_naming naming below) anchor → anchor < length s.anchors
  pub anchors_ascend : (below : ℕ) → IsStrictlyIncreasing (anchors_naming naming below)
