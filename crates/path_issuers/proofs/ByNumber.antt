-- Who has the name of whose issuer is found by numbers.
use Rattle.std.proofs.Common.{◌≡◌, ◌<◌, ◌≤◌, ◌+◌, ℕ, List, [], ◌∷◌, ◌++◌, Bool, true, false, cond, length, get_or, map, arith, refl, ap, sym, ◌∙◌, subst, inl, inr, length-append, vec_len}
use Rattle.std.specs.Global.{Vec}
use Rattle.std.specs.List.{All, Contains}
use Rattle.std.proofs.lemmas.Bool.{cases_Bool, cases_lt, lt-ltb, le-ltb}
use Rattle.std.proofs.lemmas.List.{length-map, get_or-map as get_or-map_within}
use Rattle.std.proofs.lemmas.List.Elements.{All-map, All-weaker, All-from_get_or, All-append, All-cons, All-nil}
use Rattle.std.proofs.lemmas.List.Sums.{count_by-le-length}
use Rattle.std.proofs.Math.ListN.{get_or-map, get_or-append, get_or-eq_default}
use Rattle.std.proofs.Math.Seq.{get_or-append_seam}
use Rattle.names.specs.NameKey.{name_key}
use Rattle.names.specs.NameOctets.{rdns_of, KeysDecideMatching}
use Rattle.names.specs.DistinguishedName.{NamesMatch}
use Rattle.cert.specs.Certificate.{seen_certificate, Certificate as Seen}
use Rattle.cert.specs.declared.certificate.Certificate.{Certificate}
use Rattle.path_issuers.specs.View.{seen_search}
use Rattle.path_issuers.specs.Keys.{HasKey, number_of, is_less}
use Rattle.path_issuers.specs.Links.{certificate_at, anchor_at}
use Rattle.path_issuers.specs.Questions.{IsNamedBy, LeadsToTarget}
use Rattle.path_issuers.specs.declared.question.Issuer.TheVariants.{Anchor, Bag}
use Rattle.path_issuers.specs.Lists.{ArePlacesByNumber, list_at, lists_of}
use Rattle.path_issuers.specs.Naming.{AreWanted, AreInUse, IsNaming, HasKeysOf, IsChainBelow, IsUseful, issuer_key, subject_key, named_by, anchors_naming, is_wanted, subject_number, issuer_number, issuer_numbers}
use Rattle.path_issuers.specs.declared.naming.Naming.{Naming}
use Rattle.path_issuers.specs.declared.search.Search as code
use Rattle.path_issuers.proofs.Numbers.{same_key}

-- the numbers of names are small

pub number_small : (keys : Vec (Vec ℕ)) (key : List ℕ) → number_of keys.items key < vec_len keys + 1
number_small keys key = omega (arith, keys.ok.0, count_by-le-length (λ (other : Vec ℕ). is_less other.items key) keys.items)

pub subjects_small : (keys : Vec (Vec ℕ)) (cs : List Certificate) → All (λ number. number < vec_len keys + 1) (map (subject_number keys.items) cs)
subjects_small keys cs =
    All-map (λ number. number < vec_len keys + 1) (subject_number keys.items) cs (λ k d there. number_small keys (name_key (rdns_of (get_or cs k d).subject)))

pub issuers_small : (keys : Vec (Vec ℕ)) (search : code.Search) → All (λ number. number < vec_len keys + 1) (issuer_numbers keys.items search)
issuers_small keys search =
    let P = λ (number : ℕ). number < vec_len keys + 1 in
    let target = issuer_number keys.items search.target.now in
    All-append P (map (issuer_number keys.items) search.bag.now) (target ∷ [])
    (All-map P (issuer_number keys.items) search.bag.now (λ k d there. number_small keys (name_key (rdns_of (get_or search.bag.now k d).issuer))))
    (All-cons P target [] (number_small keys (name_key (rdns_of search.target.now.issuer))) (All-nil P))

pub small_as : (xs ys : List ℕ) (a b : ℕ) → xs ≡ ys → a ≡ b → All (λ number. number < b) ys → All (λ number. number < a) xs
small_as xs ys a b same bound all =
    subst (λ (l : List ℕ). All (λ number. number < a) l) (sym same) (subst (λ (m : ℕ). All (λ number. number < m) ys) (sym bound) all)

pub smaller_than_next : (none : ℕ) (xs : List ℕ) → All (λ number. number < none) xs → All (λ number. number < none + 1) xs
smaller_than_next none xs all = All-weaker (λ number. number < none) (λ number. number < none + 1) (λ x less. omega arith) xs all

pub used_small : (subjects issuers used : List ℕ) (wanted : List Bool) (none : ℕ) → All (λ number. number < none) issuers
    → AreInUse subjects issuers wanted none used
    → All (λ number. number < none + 1) used
used_small subjects issuers used wanted none small in_use =
    All-from_get_or (λ number. number < none + 1) used 0
    (λ i there.
    let size = in_use.count in
    let less = small i 0 (omega arith) in
    elim (cases_Bool (is_wanted subjects wanted i)) [
      | inl want ↦
          let e : get_or used i 0 ≡ get_or issuers i 0 = in_use.each i (omega arith) ∙ ap (λ (b : Bool). cond b (get_or issuers i 0) none) want in
          omega (arith, e, less)
      | inr not_so ↦
          let e : get_or used i 0 ≡ none = in_use.each i (omega arith) ∙ ap (λ (b : Bool). cond b (get_or issuers i 0) none) not_so in
          omega (arith, e)
    ])

-- names that match have one number

module _ (law : KeysDecideMatching) (keys : List (Vec ℕ)) (search : code.Search) (has : HasKeysOf search keys) where
  abbrev at : ℕ → Certificate
  at place = get_or search.bag.now place search.target.now

  seen_at : (place : ℕ) → certificate_at (seen_search search) place ≡ seen_certificate (at place)
  seen_at place = get_or-map seen_certificate search.bag.now place search.target.now

  issuer_at : (place : ℕ) → place ≤ length search.bag.now → get_or (issuer_numbers keys search) place 0 ≡ issuer_number keys (at place)
  issuer_at place within =
      let bag = map (issuer_number keys) search.bag.now in
      let target = issuer_number keys search.target.now in
      let size : length bag ≡ length search.bag.now = length-map search.bag.now (issuer_number keys) in
      elim (cases_lt place (length search.bag.now)) [
        | inl there ↦ get_or-append bag (target ∷ []) 0 place (omega arith)
            ∙ get_or-map_within (issuer_number keys) search.bag.now place search.target.now 0 there
        | inr behind ↦
            let last : place ≡ length bag = omega arith in
            ap (λ n. get_or (bag ++ target ∷ []) n 0) last ∙ (get_or-append_seam bag target [] 0
            ∙ ap (issuer_number keys) (sym (get_or-eq_default search.bag.now search.target.now behind)))
      ]

  pub same_number : (below place : ℕ) → below ≤ length search.bag.now → place < length search.bag.now → IsNamedBy (seen_search search) below (Bag place)
      → get_or (issuer_numbers keys search) below 0 ≡ get_or (map (subject_number keys) search.bag.now) place 0
  same_number below place within there named =
      let s = seen_search search in
      let first = subst (λ (c : Seen). NamesMatch c.issuer.rdns (certificate_at s place).subject.rdns) (seen_at below) named in
      let both = subst (λ (c : Seen). NamesMatch (rdns_of (at below).issuer) c.subject.rdns) (seen_at place) first in
      issuer_at below within
      ∙ (ap (λ (key : List ℕ). number_of keys key) ((law (at below).issuer (at place).subject).1 both)
      ∙ sym (get_or-map_within (subject_number keys) search.bag.now place search.target.now 0 there))

  pub same_number_anchor : (below anchor : ℕ) → below ≤ length search.bag.now → anchor < length search.anchors.now
      → IsNamedBy (seen_search search) below (Anchor anchor)
      → get_or (issuer_numbers keys search) below 0 ≡ get_or (map (subject_number keys) search.anchors.now) anchor 0
  same_number_anchor below anchor within there named =
      let s = seen_search search in
      let anchor_of = get_or search.anchors.now anchor search.target.now in
      let first = subst (λ (c : Seen). NamesMatch c.issuer.rdns (anchor_at s anchor).subject.rdns) (seen_at below) named in
      let both =
      subst (λ (c : Seen). NamesMatch (rdns_of (at below).issuer) c.subject.rdns)
      (get_or-map seen_certificate search.anchors.now anchor search.target.now) first in
      issuer_at below within
      ∙ (ap (λ (key : List ℕ). number_of keys key) ((law (at below).issuer anchor_of.subject).1 both)
      ∙ sym (get_or-map_within (subject_number keys) search.anchors.now anchor search.target.now 0 there))

  -- and names that have one number match

  has_issuer : (place : ℕ) → place ≤ length search.bag.now → HasKey keys (issuer_key (at place))
  has_issuer place within =
      elim (cases_lt place (length search.bag.now)) [
        | inl there ↦ has.issuers place search.target.now there
        | inr behind ↦
            subst (λ (c : Certificate). HasKey keys (issuer_key c)) (sym (get_or-eq_default search.bag.now search.target.now behind)) has.target
      ]

  matches : (below : ℕ) (c : Certificate) → below ≤ length search.bag.now → HasKey keys (subject_key c)
      → get_or (issuer_numbers keys search) below 0 ≡ subject_number keys c → NamesMatch (rdns_of (at below).issuer) (rdns_of c.subject)
  matches below c within there same =
      (law (at below).issuer c.subject).0
      (same_key keys (issuer_key (at below)) (subject_key c) (has_issuer below within) there (sym (issuer_at below within) ∙ same))

  pub named_if : (below place : ℕ) → below ≤ length search.bag.now → place < length search.bag.now
      → get_or (issuer_numbers keys search) below 0 ≡ get_or (map (subject_number keys) search.bag.now) place 0 → IsNamedBy (seen_search search) below (Bag place)
  named_if below place within there same =
      let s = seen_search search in
      let match =
      matches below (at place) within (has.subjects place search.target.now there)
      (same ∙ get_or-map_within (subject_number keys) search.bag.now place search.target.now 0 there) in
      subst (λ (c : Seen). NamesMatch c.issuer.rdns (certificate_at s place).subject.rdns) (sym (seen_at below))
      (subst (λ (c : Seen). NamesMatch (rdns_of (at below).issuer) c.subject.rdns) (sym (seen_at place)) match)

  pub named_by_anchor_if : (below anchor : ℕ) → below ≤ length search.bag.now → anchor < length search.anchors.now
      → get_or (issuer_numbers keys search) below 0 ≡ get_or (map (subject_number keys) search.anchors.now) anchor 0
      → IsNamedBy (seen_search search) below (Anchor anchor)
  named_by_anchor_if below anchor within there same =
      let s = seen_search search in
      let anchor_of = get_or search.anchors.now anchor search.target.now in
      let match =
      matches below anchor_of within (has.anchors anchor search.target.now there)
      (same ∙ get_or-map_within (subject_number keys) search.anchors.now anchor search.target.now 0 there) in
      subst (λ (c : Seen). NamesMatch c.issuer.rdns (anchor_at s anchor).subject.rdns) (sym (seen_at below))
      (subst (λ (c : Seen). NamesMatch (rdns_of (at below).issuer) c.subject.rdns)
      (sym (get_or-map seen_certificate search.anchors.now anchor search.target.now)) match)

-- the target is useful, and who has the name of the issuer of one that is useful

module _ (n : ℕ) (subjects issuers used : List ℕ) (wanted : List Bool) (none : ℕ) (all : length subjects ≡ n) (one_more : length issuers ≡ n + 1)
    (small : All (λ number. number < none) issuers) (are : AreWanted subjects issuers wanted) (in_use : AreInUse subjects issuers wanted none used) where
  abbrev IsInUse : ℕ → Type 0
  IsInUse place = get_or used place 0 < none

  in_use_if : (place : ℕ) → place ≤ n → is_wanted subjects wanted place ≡ true → get_or used place 0 ≡ get_or issuers place 0
  in_use_if place within want =
      in_use.each place (omega arith) ∙ ap (λ (b : Bool). cond b (get_or issuers place 0) none) want

  useful_if : (place : ℕ) → place ≤ n → is_wanted subjects wanted place ≡ true → IsInUse place
  useful_if place within want =
      let e = in_use_if place within want in
      let less = small place 0 (omega arith) in
      omega (arith, e, less)

  wanted_if : (place : ℕ) → place ≤ n → IsInUse place → is_wanted subjects wanted place ≡ true
  wanted_if place within useful =
      elim (cases_Bool (is_wanted subjects wanted place)) [
        | inl want ↦ want
        | inr not_so ↦
            let e : get_or used place 0 ≡ none = in_use.each place (omega arith) ∙ ap (λ (b : Bool). cond b (get_or issuers place 0) none) not_so in
            absurd (omega (arith, e, useful))
      ]

  pub useful_number : (place : ℕ) → place ≤ n → IsInUse place → get_or used place 0 ≡ get_or issuers place 0
  useful_number place within useful = in_use_if place within (wanted_if place within useful)

  pub target_useful : IsInUse n
  target_useful =
      useful_if n (omega arith) (ap (λ (b : Bool). cond b (get_or wanted (get_or subjects n 0) false) true) (le-ltb n (length subjects) (omega arith)))

  wanted_in_bag : (place : ℕ) → place < n → is_wanted subjects wanted place ≡ get_or wanted (get_or subjects place 0) false
  wanted_in_bag place there =
      ap (λ (b : Bool). cond b (get_or wanted (get_or subjects place 0) false) true) (lt-ltb place (length subjects) (omega arith))

  issuer_wanted : (place : ℕ) → place ≤ n → IsInUse place → get_or wanted (get_or issuers place 0) false ≡ true
  issuer_wanted place within useful =
      elim (cases_lt place n) [
        | inl there ↦ are.next place (omega arith) (sym (wanted_in_bag place there) ∙ wanted_if place within useful)
        | inr behind ↦
            let last : length subjects ≡ place = omega arith in
            subst (λ (p : ℕ). get_or wanted (get_or issuers p 0) false ≡ true) last are.first
      ]

  pub name_wanted : (place : ℕ) → place < n → IsInUse place → get_or wanted (get_or subjects place 0) false ≡ true
  name_wanted place there useful = sym (wanted_in_bag place there) ∙ wanted_if place (omega arith) useful

  pub useful_next : (below place : ℕ) → below ≤ n → IsInUse below → place < n → get_or issuers below 0 ≡ get_or subjects place 0 → IsInUse place
  useful_next below place within useful there same =
      useful_if place (omega arith)
      (wanted_in_bag place there ∙ subst (λ (number : ℕ). get_or wanted number false ≡ true) same (issuer_wanted below within useful))

-- these find each other, and no others

module _ (law : KeysDecideMatching) (keys : Vec (Vec ℕ)) (search : code.Search) (naming : Naming) (wanted : List Bool)
    (has : HasKeysOf search keys.items) (none : naming.none ≡ vec_len keys + 1)
    (subjects : naming.subjects.items ≡ map (subject_number keys.items) search.bag.now)
    (are : AreWanted naming.subjects.items (issuer_numbers keys.items search) wanted)
    (in_use : AreInUse naming.subjects.items (issuer_numbers keys.items search) wanted naming.none naming.issuers.items)
    (by_issuer : ArePlacesByNumber naming.issuers.items (lists_of naming.by_issuer.items))
    (by_anchor : ArePlacesByNumber (map (subject_number keys.items) search.anchors.now) (lists_of naming.by_anchor.items)) where
  bag_size : length (seen_search search).bag ≡ length search.bag.now
  bag_size = length-map search.bag.now seen_certificate

  anchors_size : length (seen_search search).anchors ≡ length search.anchors.now
  anchors_size = length-map search.anchors.now seen_certificate

  subjects_size : length naming.subjects.items ≡ length search.bag.now
  subjects_size = ap length subjects ∙ length-map search.bag.now (subject_number keys.items)

  issuers_size : length (issuer_numbers keys.items search) ≡ length search.bag.now + 1
  issuers_size =
      length-append (map (issuer_number keys.items) search.bag.now) (issuer_number keys.items search.target.now ∷ [])
      ∙ ap (λ (size : ℕ). size + 1) (length-map search.bag.now (issuer_number keys.items))

  small : All (λ number. number < naming.none) (issuer_numbers keys.items search)
  small = small_as (issuer_numbers keys.items search) (issuer_numbers keys.items search) naming.none (vec_len keys + 1) refl none (issuers_small keys search)

  same_name : (below place : ℕ) → below ≤ length search.bag.now → place < length search.bag.now → IsNamedBy (seen_search search) below (Bag place)
      → get_or (issuer_numbers keys.items search) below 0 ≡ get_or naming.subjects.items place 0
  same_name below place within there named =
      same_number law keys.items search has below place within there named ∙ ap (λ (xs : List ℕ). get_or xs place 0) (sym subjects)

  used_number : (place : ℕ) → place ≤ length search.bag.now → IsUseful naming place
      → get_or naming.issuers.items place 0 ≡ get_or (issuer_numbers keys.items search) place 0
  used_number = useful_number (length search.bag.now) naming.subjects.items
      (issuer_numbers keys.items search) naming.issuers.items wanted naming.none subjects_size issuers_size small are in_use

  named_by_it : (below place : ℕ) → below ≤ length search.bag.now → IsUseful naming below → place < length search.bag.now
      → IsNamedBy (seen_search search) below (Bag place)
      → Contains (named_by naming place) below
  named_by_it below place within useful there named =
      let size = in_use.count ∙ issuers_size in
      subst (λ (number : ℕ). Contains (list_at (lists_of naming.by_issuer.items) number) below)
      (used_number below within useful ∙ same_name below place within there named)
      (by_issuer.all below (omega arith))

  anchors_of_it : (below anchor : ℕ) → below ≤ length search.bag.now → IsUseful naming below → anchor < length search.anchors.now
      → IsNamedBy (seen_search search) below (Anchor anchor)
      → Contains (anchors_naming naming below) anchor
  anchors_of_it below anchor within useful there named =
      let size = length-map search.anchors.now (subject_number keys.items) in
      subst (λ (number : ℕ). Contains (list_at (lists_of naming.by_anchor.items) number) anchor)
      (sym (used_number below within useful ∙ same_number_anchor law keys.items search has below anchor within there named))
      (by_anchor.all anchor (omega (arith, size)))

  -- and those that are found have the name

  bag_numbered : (place : ℕ) → place < length search.bag.now
      → get_or naming.subjects.items place 0 ≡ get_or (map (subject_number keys.items) search.bag.now) place 0
  bag_numbered place there = ap (λ (xs : List ℕ). get_or xs place 0) subjects

  subject_small : (place : ℕ) → place < length search.bag.now → get_or naming.subjects.items place 0 < naming.none
  subject_small place there =
      let size = subjects_size in
      let small = subjects_small keys search.bag.now place 0 (omega (arith, length-map search.bag.now (subject_number keys.items))) in
      omega (arith, small, none, bag_numbered place there)

  named_only : (below place : ℕ) → place < length search.bag.now → Contains (named_by naming place) below
      → IsUseful naming below × IsNamedBy (seen_search search) below (Bag place)
  named_only below place there among =
      let listed = by_issuer.places (get_or naming.subjects.items place 0) below among in
      let within : below ≤ length search.bag.now = omega (arith, listed.0, in_use.count, issuers_size) in
      let useful : IsUseful naming below = omega (arith, listed.1, subject_small place there) in (
        useful,
        named_if law keys.items search has below place within there (sym (used_number below within useful) ∙ (listed.1 ∙ bag_numbered place there)),
      )

  anchors_only : (below anchor : ℕ) → below ≤ length search.bag.now → Contains (anchors_naming naming below) anchor
      → IsUseful naming below × IsNamedBy (seen_search search) below (Anchor anchor)
  anchors_only below anchor within among =
      let listed = by_anchor.places (get_or naming.issuers.items below 0) anchor among in
      let size = length-map search.anchors.now (subject_number keys.items) in
      let small = subjects_small keys search.anchors.now anchor 0 listed.0 in
      let useful : IsUseful naming below = omega (arith, listed.1, small, none) in (
        useful,
        named_by_anchor_if law keys.items search has below anchor within (omega (arith, listed.0, size))
            (sym (used_number below within useful) ∙ sym listed.1),
      )

  -- a chain of numbers is one of names
  chain_down : (place : ℕ) (below : List ℕ) → place < length search.bag.now
      → IsChainBelow naming.subjects.items (issuer_numbers keys.items search) (get_or naming.subjects.items place 0) below
      → LeadsToTarget (seen_search search) place
  chain_down place [] there is =
      let n = length search.bag.now in
      let last = subst (λ (k : ℕ). get_or naming.subjects.items place 0 ≡ get_or (issuer_numbers keys.items search) k 0) subjects_size is in
      let named = named_if law keys.items search has n place (omega arith) there (sym last ∙ bag_numbered place there) in
      (n ∷ [], (omega (arith, there, bag_size), named, sym bag_size))
  chain_down place (next ∷ below) there is =
      let inside : next < length search.bag.now = omega (arith, is.0, subjects_size) in
      let more = chain_down next below inside is.2 in
      let named = named_if law keys.items search has next place (omega arith) there (sym is.1 ∙ bag_numbered place there) in
      (next ∷ more.0, (omega (arith, there, bag_size), named, more.1))

  useful_leads : (place : ℕ) → place ≤ length search.bag.now → IsUseful naming place → LeadsToTarget (seen_search search) place
  useful_leads place within useful =
      elim (cases_lt place (length search.bag.now)) [
        | inr behind ↦ ([], omega (arith, within, behind, bag_size))
        | inl there ↦
            let wanted_here =
            name_wanted (length search.bag.now) naming.subjects.items
            (issuer_numbers keys.items search) naming.issuers.items wanted naming.none subjects_size issuers_size small are in_use place there useful in
            let chain = are.only (get_or naming.subjects.items place 0) wanted_here in
            chain_down place chain.0 there chain.1
      ]

  pub is_naming : IsNaming (seen_search search) naming
  is_naming = record {
    target = subst (λ (place : ℕ). IsUseful naming place) (sym bag_size)
        (target_useful (length search.bag.now) naming.subjects.items
        (issuer_numbers keys.items search) naming.issuers.items wanted naming.none subjects_size issuers_size small are in_use);
    above = λ below place within useful there named.
        useful_next (length search.bag.now) naming.subjects.items
        (issuer_numbers keys.items search) naming.issuers.items wanted naming.none subjects_size issuers_size small are in_use
        below place (omega (arith, bag_size)) useful (omega (arith, bag_size))
        (same_name below place (omega (arith, bag_size)) (omega (arith, bag_size)) named);
    leads = λ place within useful. useful_leads place (omega (arith, bag_size)) useful;
    named_only = λ below place there among. named_only below place (omega (arith, bag_size)) among;
    anchors_only = λ below anchor within among. anchors_only below anchor (omega (arith, bag_size)) among;
    named = λ below place within useful there named. named_by_it below place (omega (arith, bag_size)) useful (omega (arith, bag_size)) named;
    named_within = λ below place among.
        let listed = by_issuer.places (get_or naming.subjects.items place 0) below among in
        omega (arith, listed.0, in_use.count, issuers_size, bag_size);
    named_ascend = λ place. by_issuer.ascending (get_or naming.subjects.items place 0);
    anchors = λ below anchor within useful there named. anchors_of_it below anchor (omega (arith, bag_size)) useful (omega (arith, anchors_size)) named;
    anchors_within = λ below anchor among.
        let listed = by_anchor.places (get_or naming.issuers.items below 0) anchor among in
        omega (arith, listed.0, length-map search.anchors.now (subject_number keys.items), anchors_size);
    anchors_ascend = λ below. by_anchor.ascending (get_or naming.issuers.items below 0);
  }
