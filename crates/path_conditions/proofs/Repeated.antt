-- Lists of subtrees that repeat others hold the same names, and narrow to themselves.
use Rattle.std.proofs.Common.{◌≡◌, ◌<◌, ◌≤◌, ◌+◌, ℕ, zero, suc, arith, ◌-◌, List, [], ◌∷◌, ◌++◌, Bool, true, false, not, cond, get_or, ◌==◌, ◌&&◌, ◌||◌, filter, length, take, drop, refl, ap, ap₂, sym, ◌∙◌, append-nil, Option, None, Some}
use Rattle.std.specs.Prelude.{nat_le}
use Rattle.std.specs.Str.{bytes_eq}
use Rattle.std.proofs.lemmas.Bool.{and_parts, and_from, or_left, or_right, false≢true, eqb-true, le-leb}
use Rattle.std.proofs.lemmas.List.{take-append-drop, map-append, drop-map, length-map, length-drop, take_all, at_drop_more}
use Rattle.std.proofs.lemmas.List.Folds.{list_any-append}
use Rattle.std.proofs.lemmas.Slice.Eq.{bytes_eq-Decides}
use Rattle.names.specs.declared.general.Form.{Form}
use Rattle.names.specs.declared.subtree.Subtree.{Subtree}
use Rattle.names.specs.Bases.{DomainNames, every_name, names_within, names_below, AddressRange}
use Rattle.names.specs.DistinguishedName.{is_within}
use Rattle.names.specs.Ip.{agree}
use Rattle.names.specs.GeneralLayout.{GeneralName, SubtreeBase, directory_name, dns_name, ip_address, other_name, directory_base, dns_base, ip_base}
use Rattle.names.specs.GeneralView.{subtree_base}
use Rattle.names.specs.GeneralCoverage.{is_covered, is_base_inside, is_domain_among, are_among, is_address_of, is_range_of, is_of_form}
use Rattle.names.proofs.Laws.{coverage_test_is_exact, matching_is_exact}
use Rattle.path_conditions.specs.Narrowing.{bases_of, is_in_one_of, is_inside_one_of, are_about, of_form, enters, kept, narrowed, changed, change_of}
use Rattle.path_conditions.specs.Repetition.{are_same_names, are_same_ranges, is_same_base, begins_same, repeats, repeats_form, repeats_end, is_held_again, HoldSameNames}
use Rattle.path_conditions.proofs.Selecting.{list_any-weaker, list_any-filter}

names_equal : (one other : DomainNames) → are_same_names one other ≡ true → one ≡ other
unfolding are_same_names
names_equal every_name every_name h = refl
names_equal (names_within a) (names_within b) h = ap (λ text. names_within text) ((bytes_eq-Decides a b).0 h)
names_equal (names_below a) (names_below b) h = ap (λ text. names_below text) ((bytes_eq-Decides a b).0 h)
names_equal one other h = absurd (false≢true h)

ranges_equal : (one other : AddressRange) → are_same_ranges one other ≡ true → one ≡ other
unfolding are_same_ranges
ranges_equal one other h =
    let both = and_parts (one.prefix == other.prefix) (bytes_eq one.address other.address) h in
    let prefixes = eqb-true one.prefix other.prefix both.0 in
    let addresses = (bytes_eq-Decides one.address other.address).0 both.1 in
    λ i. record { address = addresses i; prefix = prefixes i }

-- a subtree of a processed form is a part of itself

names_inside : (names : DomainNames) → are_among names names ≡ true
unfolding are_among is_covered is_domain_among
names_inside every_name = refl
names_inside (names_within x) = (coverage_test_is_exact (dns_name x) (dns_base (names_within x))).1 (record { front = []; joined = refl })
names_inside (names_below x) = (coverage_test_is_exact (dns_name x) (dns_base (names_within x))).1 (record { front = []; joined = refl })

range_inside : (range : AddressRange) → is_range_of range range ≡ true
unfolding is_range_of is_covered is_address_of
range_inside range =
    let covered = (coverage_test_is_exact (ip_address range.address) (ip_base range)).1 (record { same_length = refl; agree = λ i _. refl }) in
    let both = and_parts (length range.address == length range.address) (agree range.prefix range.address range.address) covered in
    and_from (length range.address == length range.address) _ both.0 (and_from (nat_le range.prefix range.prefix) _ (le-leb range.prefix range.prefix (omega arith)) both.1)

same_inside : (s t : SubtreeBase) → is_same_base s t ≡ true → is_base_inside s t ≡ true
unfolding is_same_base is_base_inside is_covered
same_inside (directory_base a) (directory_base b) h =
    (coverage_test_is_exact (directory_name a) (directory_base b)).1 (record { rest = []; joined = (matching_is_exact a.rdns b.rdns).0 h ∙ sym (append-nil b.rdns) })
same_inside (dns_base a) (dns_base b) h = ap (λ (n : DomainNames). are_among a n) (sym (names_equal a b h)) ∙ names_inside a
same_inside (ip_base a) (ip_base b) h = ap (λ (r : AddressRange). is_range_of a r) (sym (ranges_equal a b h)) ∙ range_inside a
same_inside s t h = absurd (false≢true h)

-- a list that is carried again narrows to itself

all_kept : (held more all : List SubtreeBase) → repeats held more ≡ true → ((s : SubtreeBase) → is_inside_one_of more s ≡ true → is_inside_one_of all s ≡ true)
    → filter (λ base. is_inside_one_of all base) held ≡ held
all_kept [] more all h among = refl
all_kept (s ∷ held) [] all h among = absurd (false≢true h)
all_kept (s ∷ held) (t ∷ more) all h among =
    let both = and_parts (is_same_base s t) (repeats held more) h in
    let inside = among s (or_left (is_base_inside s t) (is_inside_one_of more s) (same_inside s t both.0)) in
    rw inside (ap (λ (l : List SubtreeBase). s ∷ l) (all_kept held more all both.1 (λ r i. among r (or_right (is_base_inside r t) (is_inside_one_of more r) i))))

of_form_among : (form : Form) (carried : List SubtreeBase) (s : SubtreeBase) → is_inside_one_of (of_form form carried) s ≡ true → is_inside_one_of carried s ≡ true
of_form_among form carried s h =
    list_any-weaker (λ t. is_of_form t form && is_base_inside s t) (λ t. is_base_inside s t) carried (λ t e. (and_parts (is_of_form t form) _ e).1)
    (sym (list_any-filter (λ t. is_base_inside s t) (λ t. is_of_form t form) carried) ∙ h)

not_both : (a b : Bool) → (a && (b && not b)) ≡ false
not_both true true = refl
not_both true false = refl
not_both false b = refl

none_enter : (form : Form) (held carried : List SubtreeBase) → filter (λ base. enters form held held base) carried ≡ []
none_enter form held [] = refl
none_enter form held (s ∷ carried) = rw (not_both (is_of_form s form) (is_inside_one_of held s)) (none_enter form held carried)

-- where all that are held are kept, the list stays
pub narrowed_kept : (form : Form) (held carried : List SubtreeBase) → kept held carried ≡ held → narrowed form held carried ≡ held
narrowed_kept form held carried all =
    ap (λ (l : List SubtreeBase). l ++ filter (λ base. enters form held l base) carried) all
    ∙ (ap (λ (l : List SubtreeBase). held ++ l) (none_enter form held carried) ∙ append-nil held)

narrowed_again : (form : Form) (held carried : List SubtreeBase) → repeats_form form held carried ≡ true → narrowed form held carried ≡ held
narrowed_again form held carried h = narrowed_kept form held carried (all_kept held (of_form form carried) carried h (of_form_among form carried))

stays : (form : Form) (list carried : List SubtreeBase) → repeats_form form list carried ≡ true → (b : Bool) → are_about carried form ≡ b → Some list ≡ changed (Some list) (change_of form (Some list) carried)
stays form list carried h true e = rw e (ap (λ (l : List SubtreeBase). Some l) (sym (narrowed_again form list carried h)))
stays form list carried h false e = rw e refl

pub held_again : (form : Form) (held : Option (List SubtreeBase)) (carried : List SubtreeBase) → is_held_again form held carried ≡ true → held ≡ changed held (change_of form held carried)
held_again form None carried h = absurd (false≢true h)
held_again form (Some list) carried h = stays form list carried h (are_about carried form) refl

-- the same names lie in the same subtrees

same_covers : (name : GeneralName) (s t : SubtreeBase) → is_same_base s t ≡ true → is_covered name s ≡ is_covered name t
unfolding is_same_base is_covered
same_covers (directory_name x) (directory_base a) (directory_base b) h = ap (λ r. is_within x.rdns r) ((matching_is_exact a.rdns b.rdns).0 h)
same_covers (dns_name x) (directory_base a) (directory_base b) h = refl
same_covers (ip_address x) (directory_base a) (directory_base b) h = refl
same_covers (other_name n x) (directory_base a) (directory_base b) h = refl
same_covers name (dns_base a) (dns_base b) h = ap (λ (n : DomainNames). is_covered name (dns_base n)) (names_equal a b h)
same_covers name (ip_base a) (ip_base b) h = ap (λ (r : AddressRange). is_covered name (ip_base r)) (ranges_equal a b h)
same_covers name s t h = absurd (false≢true h)

repeated_covers : (name : GeneralName) (list more : List SubtreeBase) → repeats list more ≡ true → is_in_one_of list name ≡ is_in_one_of more name
repeated_covers name [] [] h = refl
repeated_covers name [] (t ∷ more) h = absurd (false≢true h)
repeated_covers name (s ∷ list) [] h = absurd (false≢true h)
repeated_covers name (s ∷ list) (t ∷ more) h =
    let both = and_parts (is_same_base s t) (repeats list more) h in
    λ i. same_covers name s t both.0 i || repeated_covers name list more both.1 i

or_again : (a b : Bool) → ((a || b) || b) ≡ (a || b)
or_again true b = refl
or_again false true = refl
or_again false false = refl

-- names lie in a list and in the same at its end where they lie in the list
end_again : (list more : List SubtreeBase) (name : GeneralName) → repeats_end list more ≡ true → is_in_one_of (list ++ more) name ≡ is_in_one_of list name
end_again list more name h =
    let k = length list - length more in
    let within = λ (l : List SubtreeBase). is_in_one_of l name in
    let whole = ap within (sym (take-append-drop k list)) ∙ list_any-append (λ base. is_covered name base) (take k list) (drop k list) in
    list_any-append (λ base. is_covered name base) list more
    ∙ (ap (λ b. within list || b) (sym (repeated_covers name (drop k list) more h))
    ∙ (ap (λ b. b || within (drop k list)) whole ∙ (or_again (within (take k list)) (within (drop k list)) ∙ sym whole)))

added_again : (index : List SubtreeBase) (list more new : List Subtree) → HoldSameNames index (bases_of list) → repeats_end (bases_of list) (bases_of more) ≡ true → new ≡ list ++ more
    → HoldSameNames index (bases_of new)
added_again index list more new same h made name =
    same name
    ∙ (sym (end_again (bases_of list) (bases_of more) name h) ∙ ap (λ (l : List SubtreeBase). is_in_one_of l name) (sym (ap bases_of made ∙ map-append subtree_base list more)))

-- where there is memory for them
pub added_if : (added : Bool) (index : List SubtreeBase) (list more new : List Subtree) → HoldSameNames index (bases_of list) → repeats_end (bases_of list) (bases_of more) ≡ true
    → new ≡ cond added (list ++ more) list → HoldSameNames index (bases_of new)
added_if true index list more new same h made name = added_again index list more new same h made name
added_if false index list more new same h made name = same name ∙ ap (λ (l : List Subtree). is_in_one_of (bases_of l) name) (sym made)

-- lists that are compared one by one: what is left of both is compared as the whole is

advanced : (k : ℕ) (list : List Subtree) (other : SubtreeBase) (more : List SubtreeBase) → begins_same (drop k list) other ≡ true
    → repeats (bases_of (drop k list)) (other ∷ more) ≡ repeats (bases_of (drop (k + 1) list)) more
advanced zero [] other more h = absurd (false≢true h)
advanced (suc k) [] other more h = absurd (false≢true h)
advanced zero (s ∷ list) other more h = rw h refl
advanced (suc k) (s ∷ list) other more h =
    let next : suc (k + 1) ≡ suc k + 1 = omega arith in
    advanced k list other more h ∙ ap (λ (n : ℕ). repeats (bases_of (drop n (s ∷ list))) more) next

within : (k : ℕ) (list : List Subtree) (other : SubtreeBase) → begins_same (drop k list) other ≡ true → k + 1 ≤ length list
within zero [] other h = absurd (false≢true h)
within (suc k) [] other h = absurd (false≢true h)
within zero (s ∷ list) other h = omega arith
within (suc k) (s ∷ list) other h = let less = within k list other h in omega arith

next_is : (list : List Subtree) (i : ℕ) (s : Subtree) → i < length list → s ≡ get_or list i s → drop i list ≡ s ∷ drop (i + 1) list
next_is list i s lt is = at_drop_more (λ (l : List Subtree). l) list i s lt ∙ ap (λ (t : Subtree). t ∷ drop (i + 1) list) (sym is)

of_form_next : (form : Form) (base : SubtreeBase) (more : List SubtreeBase) → is_of_form base form ≡ true → of_form form (base ∷ more) ≡ base ∷ of_form form more
of_form_next form base more h = rw h refl

of_form_skips : (form : Form) (base : SubtreeBase) (more : List SubtreeBase) → is_of_form base form ≡ false → of_form form (base ∷ more) ≡ of_form form more
of_form_skips form base more h = rw h refl

pub end_is : (list more : List Subtree) (start : ℕ) → start ≡ length list - length more → repeats (bases_of (take (length list - start) (drop start list))) (bases_of more) ≡ repeats_end (bases_of list) (bases_of more)
end_is list more start is =
    ap (λ (l : List SubtreeBase). repeats l (bases_of more))
    (ap bases_of (take_all (length list - start) (drop start list) (omega (arith, length-drop start list)))
    ∙ (sym (drop-map subtree_base start list)
    ∙ ap (λ (k : ℕ). drop k (bases_of list)) (is ∙ ap₂ ◌-◌ (sym (length-map list subtree_base)) (sym (length-map more subtree_base)))))

module _ (list more : List Subtree) (k i : ℕ) (s : Subtree) (lt : i < length more) (is : s ≡ get_or more i s) where
  pub one_more : (whole : Bool) → begins_same (drop k list) (subtree_base s) ≡ true → whole ≡ repeats (bases_of (drop k list)) (bases_of (drop i more))
      → (k + 1 ≤ length list) × (whole ≡ repeats (bases_of (drop (k + 1) list)) (bases_of (drop (i + 1) more)))
  one_more whole same e = (
    within k list (subtree_base s) same,
    e ∙ (ap (λ (l : List Subtree). repeats (bases_of (drop k list)) (bases_of l)) (next_is more i s lt is) ∙ advanced k list (subtree_base s) (bases_of (drop (i + 1) more)) same),
  )

  module _ (form : Form) where
    pub form_more : (whole : Bool) → is_of_form (subtree_base s) form ≡ true → begins_same (drop k list) (subtree_base s) ≡ true
        → whole ≡ repeats_form form (bases_of (drop k list)) (bases_of (drop i more))
        → (k + 1 ≤ length list) × (whole ≡ repeats_form form (bases_of (drop (k + 1) list)) (bases_of (drop (i + 1) more)))
    form_more whole about same e = (
      within k list (subtree_base s) same,
      e
          ∙ (ap (λ (l : List Subtree). repeats_form form (bases_of (drop k list)) (bases_of l)) (next_is more i s lt is)
          ∙ (ap (λ (l : List SubtreeBase). repeats (bases_of (drop k list)) l) (of_form_next form (subtree_base s) (bases_of (drop (i + 1) more)) about)
          ∙ advanced k list (subtree_base s) (of_form form (bases_of (drop (i + 1) more))) same)),
    )

    pub form_skipped : (whole : Bool) → is_of_form (subtree_base s) form ≡ false → whole ≡ repeats_form form (bases_of (drop k list)) (bases_of (drop i more))
        → whole ≡ repeats_form form (bases_of (drop k list)) (bases_of (drop (i + 1) more))
    form_skipped whole about e =
        e
        ∙ (ap (λ (l : List Subtree). repeats_form form (bases_of (drop k list)) (bases_of l)) (next_is more i s lt is)
        ∙ ap (λ (l : List SubtreeBase). repeats (bases_of (drop k list)) l) (of_form_skips form (subtree_base s) (bases_of (drop (i + 1) more)) about))
