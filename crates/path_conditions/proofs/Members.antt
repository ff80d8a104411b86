-- Lists with the same members pass the same tests.
use Rattle.std.proofs.Common.{◌≡◌, ◌-◌, ℕ, zero, suc, arith, length, take, drop, List, [], ◌∷◌, true, false, refl, append-nil, ◌++◌, Bool, ◌&&◌, ◌||◌, not, filter, ap, ◌∙◌, sym}
use Rattle.std.specs.List.{list_any}
use Rattle.std.proofs.lemmas.List.{map-append, take_all, length-drop}
use Rattle.names.specs.GeneralView.{subtree_base}
use Rattle.std.proofs.lemmas.List.Folds.{list_any-append}
use Rattle.names.specs.declared.subtree.Subtree.{Subtree}
use Rattle.names.specs.declared.general.Form.{Form}
use Rattle.names.specs.GeneralLayout.{SubtreeBase}
use Rattle.names.specs.GeneralCoverage.{is_base_inside, is_of_form}
use Rattle.names_order.specs.Index.{HasSameMembers, all_of}
use Rattle.path_conditions.specs.Narrowing.{bases_of, members_of, selected, is_inside_one_of, kept, enters, narrowed}
use Rattle.path_conditions.proofs.Selecting.{list_any-filter, list_any-map, none_fails, filter_all}
use Rattle.path_conditions.proofs.NarrowedLists.{bases_of-selected}
use Rattle.path_conditions.proofs.Repeated.{narrowed_kept}

pub same_append : (index front back : List SubtreeBase) → HasSameMembers index front → HasSameMembers (index ++ back) (front ++ back)
same_append index front back same test =
    list_any-append test index back ∙ (ap (λ b. b || list_any test back) (same test) ∙ sym (list_any-append test front back))

pub same_filter : (p : SubtreeBase → Bool) (index list : List SubtreeBase) → HasSameMembers index list → HasSameMembers (filter p index) (filter p list)
same_filter p index list same test = list_any-filter test p index ∙ (same (λ b. p b && test b) ∙ sym (list_any-filter test p list))

inside_same : (index list : List SubtreeBase) → HasSameMembers index list → (base : SubtreeBase) → is_inside_one_of index base ≡ is_inside_one_of list base
inside_same index list same base = same (λ other. is_base_inside base other)

kept_same : (held index carried : List SubtreeBase) → HasSameMembers index carried → filter (λ base. is_inside_one_of index base) held ≡ kept held carried
kept_same held index carried same = λ i. filter (λ base. inside_same index carried same base i) held

-- an index of those that are kept, from an index of those that are held and one of those that are carried
pub kept_indexed : (kept_index held_index held index carried : List SubtreeBase) → HasSameMembers kept_index (filter (λ base. is_inside_one_of index base) held_index)
    → HasSameMembers held_index held → HasSameMembers index carried → HasSameMembers kept_index (kept held carried)
kept_indexed kept_index held_index held index carried made same_held same_carried test =
    made test
    ∙ (same_filter (λ base. is_inside_one_of index base) held_index held same_held test
    ∙ ap (λ (l : List SubtreeBase). list_any test l) (kept_same held index carried same_carried))

pub entering_same : (form : Form) (held_index held kept_index kept_list carried : List SubtreeBase) → HasSameMembers held_index held → HasSameMembers kept_index kept_list
    → filter (λ base. enters form held_index kept_index base) carried ≡ filter (λ base. enters form held kept_list base) carried
entering_same form held_index held kept_index kept_list carried same_held same_kept =
    λ i. filter (λ base. is_of_form base form && (inside_same held_index held same_held base i && not (inside_same kept_index kept_list same_kept base i))) carried

-- what the code keeps, of what its bases say
pub kept_is : (items kept_items : List Subtree) (index held carried : List SubtreeBase) → bases_of items ≡ held → HasSameMembers index carried
    → kept_items ≡ selected (λ base. is_inside_one_of index base) items → bases_of kept_items ≡ kept held carried
kept_is items kept_items index held carried items_are same made =
    ap bases_of made
    ∙ (bases_of-selected (λ base. is_inside_one_of index base) items
    ∙ (ap (λ (l : List SubtreeBase). filter (λ base. is_inside_one_of index base) l) items_are ∙ kept_same held index carried same))

pub narrowed_is : (form : Form) (front back carried : List Subtree) (held held_index kept_index : List SubtreeBase) → HasSameMembers held_index held → HasSameMembers kept_index (kept held (bases_of carried))
    → bases_of front ≡ kept held (bases_of carried) → back ≡ selected (λ base. enters form held_index kept_index base) carried
    → bases_of front ++ bases_of back ≡ narrowed form held (bases_of carried)
narrowed_is form front back carried held held_index kept_index same_held same_kept front_is back_is =
    ap (λ (l : List SubtreeBase). l ++ bases_of back) front_is
    ∙ ap (λ (l : List SubtreeBase). kept held (bases_of carried) ++ l)
    (ap bases_of back_is
    ∙ (bases_of-selected (λ base. enters form held_index kept_index base) carried
    ∙ entering_same form held_index held kept_index (kept held (bases_of carried)) (bases_of carried) same_held same_kept))

-- those that were kept of the index in its order
pub order_made : (kept_index held_index index : List SubtreeBase) (subtrees in_order : List Subtree) → bases_of subtrees ≡ held_index → in_order ≡ selected (λ base. is_inside_one_of index base) subtrees
    → HasSameMembers kept_index (bases_of in_order) → HasSameMembers kept_index (filter (λ base. is_inside_one_of index base) held_index)
order_made kept_index held_index index subtrees in_order subtrees_are made same test =
    same test
    ∙ ap (λ (l : List SubtreeBase). list_any test l)
    (ap bases_of made
    ∙ (bases_of-selected (λ base. is_inside_one_of index base) subtrees
    ∙ ap (λ (l : List SubtreeBase). filter (λ base. is_inside_one_of index base) l) subtrees_are))

pub of_items : (index list : List SubtreeBase) (items : List Subtree) → bases_of items ≡ list → HasSameMembers index list → HasSameMembers index (bases_of items)
of_items index list items are same test = same test ∙ ap (λ (l : List SubtreeBase). list_any test l) (sym are)

-- where as many are kept as are held, the list stays
pub all_stay : (form : Form) (held_index index held carried : List SubtreeBase) (subtrees in_order : List Subtree) → bases_of subtrees ≡ held_index → in_order ≡ selected (λ base. is_inside_one_of index base) subtrees
    → length in_order ≡ length subtrees → HasSameMembers held_index held → HasSameMembers index carried → narrowed form held carried ≡ held
all_stay form held_index index held carried subtrees in_order subtrees_are made as_many same_held same_carried =
    let fails = λ (base : SubtreeBase). not (is_inside_one_of index base) in
    let none = none_fails (λ s. is_inside_one_of index (subtree_base s)) subtrees (sym (ap length made) ∙ as_many) in
    let none_held = sym (same_held fails) ∙ (ap (list_any fails) (sym subtrees_are) ∙ (list_any-map fails subtree_base subtrees ∙ none)) in
    narrowed_kept form held carried (sym (kept_same held index carried same_carried) ∙ filter_all (λ base. is_inside_one_of index base) held none_held)

-- a list, of whose parts there are indexes

pub any_members : (test : SubtreeBase → Bool) (lists : List (List SubtreeBase)) → list_any test (members_of lists) ≡ list_any (λ list. list_any test list) lists
any_members test [] = refl
any_members test (list ∷ lists) = list_any-append test list (members_of lists) ∙ ap (λ b. list_any test list || b) (any_members test lists)

all_are : (lists : List (List SubtreeBase)) → all_of lists ≡ members_of lists
all_are [] = refl
all_are (list ∷ lists) = ap (λ (l : List SubtreeBase). list ++ l) (all_are lists)

or_or : (a b c : Bool) → ((a || b) || c) ≡ (a || (b || c))
or_or true b c = refl
or_or false b c = refl

any_parts : (test : SubtreeBase → Bool) (k : ℕ) (lists : List (List SubtreeBase)) → list_any test (members_of lists) ≡ (list_any test (members_of (take k lists)) || list_any test (members_of (drop k lists)))
any_parts test zero lists = refl
any_parts test (suc k) [] = refl
any_parts test (suc k) (list ∷ lists) =
    list_any-append test list (members_of lists)
    ∙ (ap (λ b. list_any test list || b) (any_parts test k lists)
    ∙ (sym (or_or (list_any test list) (list_any test (members_of (take k lists))) (list_any test (members_of (drop k lists))))
    ∙ ap (λ b. b || list_any test (members_of (drop k lists))) (sym (list_any-append test list (members_of (take k lists))))))

any_added : (test : SubtreeBase → Bool) (lists : List (List SubtreeBase)) (list : List SubtreeBase) → list_any test (members_of (lists ++ list ∷ [])) ≡ (list_any test (members_of lists) || list_any test list)
any_added test [] list = ap (λ (l : List SubtreeBase). list_any test l) (append-nil list)
any_added test (first ∷ lists) list =
    list_any-append test first (members_of (lists ++ list ∷ []))
    ∙ (ap (λ b. list_any test first || b) (any_added test lists list)
    ∙ (sym (or_or (list_any test first) (list_any test (members_of lists)) (list_any test list))
    ∙ ap (λ b. b || list_any test list) (sym (list_any-append test first (members_of lists)))))

-- one index stands in place of all from a place on, and of more
pub grown : (test : SubtreeBase → Bool) (k : ℕ) (lists : List (List SubtreeBase)) (index coming : List SubtreeBase) (list more new : List Subtree) (kept : List (List SubtreeBase))
    → list_any test index ≡ list_any test (all_of (take (length lists - k) (drop k lists)) ++ coming) → list_any test coming ≡ list_any test (bases_of more) → list_any test (members_of lists) ≡ list_any test (bases_of list) → new ≡ list ++ more → kept ≡ take k lists ++ index ∷ []
    → list_any test (members_of kept) ≡ list_any test (bases_of new)
grown test k lists index coming list more new kept joined of_more same made kept_are =
    let back = list_any test (members_of (drop k lists)) in
    let whole = all_are (take (length lists - k) (drop k lists)) ∙ ap members_of (take_all (length lists - k) (drop k lists) (omega (arith, length-drop k lists))) in
    let front = list_any test (members_of (take k lists)) in
    ap (λ (l : List (List SubtreeBase)). list_any test (members_of l)) kept_are
    ∙ (any_added test (take k lists) index
    ∙ (ap (λ b. front || b) (joined ∙ (ap (λ (l : List SubtreeBase). list_any test (l ++ coming)) whole ∙ list_any-append test (members_of (drop k lists)) coming ∙ ap (λ b. back || b) of_more))
    ∙ (sym (or_or front back (list_any test (bases_of more)))
    ∙ (ap (λ b. b || list_any test (bases_of more)) (sym (any_parts test k lists) ∙ same)
    ∙ (sym (list_any-append test (bases_of list) (bases_of more))
    ∙ ap (λ (l : List SubtreeBase). list_any test l) (sym (ap bases_of made ∙ map-append subtree_base list more)))))))
