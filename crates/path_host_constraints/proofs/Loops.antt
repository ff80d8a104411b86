-- Loops over bases and names, one more at a time.
use Rattle.std.proofs.Common.{◌≡◌, ◌≢◌, ◌==◌, ◌⊎◌, ◌↔◌, ◌||◌, Bool, true, false, ◌<◌, ◌≤◌, ◌+◌, ◌-◌, ℕ, zero, suc, List, append_assoc, append-nil, [], ◌∷◌, ◌++◌, length, map, take, drop, get_or, Option, None, Some, arith, refl, sym, ap, subst, ◌∙◌, inl, inr, Contains}
use Rattle.std.proofs.lemmas.List.{get_or_default, map_more, map-append, take-append-drop, take_all, drop_all, length-drop, length-map, length-append}
use Rattle.std.proofs.lemmas.List.Elements.{Contains-append_cases, Contains-append_right}
use Rattle.std.proofs.lemmas.Bool.{false≢true}
use Rattle.std.proofs.Math.Seq.{drop-cons}
use Rattle.path_host_constraints.specs.Lists.{Has, Selects, TakesIf, left_of, changed, size_of, members_of}
use Rattle.path_host_constraints.specs.Indexes.{with_joined}
use Rattle.path_host_constraints.specs.declared.indexes.Joined.{Joined}
use Rattle.path_host_constraints.proofs.Narrowed.{only, one_selected, one_passed_over, any_left, any_right, any_cases, in_none, Nests}

-- one more item of a list that code goes over
module _ {C B : Type 0} (view : C → B) (list : List C) (i : ℕ) (it : C) (low : i < length list) (is : it ≡ get_or list i it) where
  abbrev pub Front : ℕ → List B
  Front n = map view (take n list)

  front_more : Front (i + 1) ≡ Front i ++ view it ∷ []
  front_more = map_more view list i it low ∙ ap (λ (d : C). Front i ++ view d ∷ []) (sym is)

  -- what holds of all so far and of one more
  pub holds_more : (P : B → Type 0) → ((x : B) → Contains (Front i) x → P x) → P (view it) → (x : B) → Contains (Front (i + 1)) x → P x
  holds_more P before here x within =
      elim (Contains-append_cases (Front i) (view it ∷ []) x (subst (λ (l : List B). Contains l x) front_more within)) [
        | inl earlier ↦ before x earlier
        | inr last ↦ subst P (only (view it) x last) here
      ]

  cut_here : drop i list ≡ it ∷ drop (suc i) list
  cut_here = drop-cons list i it low ∙ ap (λ (d : C). d ∷ drop (suc i) list) (sym is)

  -- the item is one of all
  pub is_one : Contains (map view list) (view it)
  is_one =
      subst (λ (l : List B). Contains l (view it)) (sym (map-append view (take i list) (drop i list)) ∙ ap (map view) (take-append-drop i list))
      (Contains-append_right (Front i) (map view (drop i list)) (view it)
      (subst (λ (l : List C). Contains (map view l) (view it)) (sym cut_here) (0, omega arith, refl)))

  module _ {X : Type 0} (Among : X → B → Type 0) (Inside : B → B → Type 0) (nests : Nests Among Inside) (within except old new : List B) where
    -- it is selected, or passed over
    pub selects_more : TakesIf Inside within except (view it) old new → Selects Among Inside within except (Front i) old → Selects Among Inside within except (Front (i + 1)) new
    selects_more takes before = subst (λ (l : List B). Selects Among Inside within except l new) (sym front_more) (by takes)
      where
        by : TakesIf Inside within except (view it) old new → Selects Among Inside within except (Front i ++ view it ∷ []) new
        by (inl (holds, made)) =
            subst (λ (l : List B). Selects Among Inside within except (Front i ++ view it ∷ []) l) (sym made)
            (one_selected Among Inside nests within except (Front i) old (view it) holds before)
        by (inr (stays, made)) =
            subst (λ (l : List B). Selects Among Inside within except (Front i ++ view it ∷ []) l) (sym made)
            (one_passed_over Among Inside nests within except (Front i) old (view it) stays before)

-- the same of the item at a place
pub holds_more_at : {C B : Type 0} (view : C → B) (list : List C) (i : ℕ) (d : C) → i < length list → (P : B → Type 0)
    → ((x : B) → Contains (map view (take i list)) x → P x) → P (view (get_or list i d)) → (x : B) → Contains (map view (take (i + 1) list)) x → P x
holds_more_at view list i d low P = holds_more view list i (get_or list i d) low (get_or_default list i d (get_or list i d) low) P

pub selects_more_at : {C B X : Type 0} (view : C → B) (list : List C) (i : ℕ) (d : C) → i < length list → (Among : X → B → Type 0) (Inside : B → B → Type 0) (nests : Nests Among Inside) (within except old new : List B)
    → TakesIf Inside within except (view (get_or list i d)) old new → Selects Among Inside within except (map view (take i list)) old → Selects Among Inside within except (map view (take (i + 1) list)) new
selects_more_at view list i d low = selects_more view list i (get_or list i d) low (get_or_default list i d (get_or list i d) low)

pub not_empty : {C B : Type 0} (view : C → B) (list : List C) → false ≡ (length list == 0) → map view list ≢ []
not_empty view [] e = absurd (false≢true e)
not_empty view (c ∷ cs) e = λ none. let long : length (map view (c ∷ cs)) ≡ 0 = ap length none in omega arith

pub is_one_at : {C B : Type 0} (view : C → B) (list : List C) (i : ℕ) (d : C) → i < length list → Contains (map view list) (view (get_or list i d))
is_one_at view list i d low = is_one view list i (get_or list i d) low (get_or_default list i d (get_or list i d) low)

-- what is true of the front that is the whole list
pub all_of : {C B : Type 0} (view : C → B) (list : List C) (i : ℕ) (P : List B → Type 0) → length list ≤ i → P (map view (take i list)) → P (map view list)
all_of view list i P high is = subst (λ l. P (map view l)) (take_all i list high) is

-- the names of several lists
module _ {X B : Type 0} (Among : X → B → Type 0) (lists : List (List B)) (i : ℕ) (it : List B) (x : X) (low : i < length lists) (is : it ≡ get_or lists i it) where
  cut : drop i lists ≡ it ∷ drop (i + 1) lists
  cut =
      drop-cons lists i it low
      ∙ (ap (λ (d : List B). d ∷ drop (suc i) lists) (sym is) ∙ ap (λ (n : ℕ). it ∷ drop n lists) {x = suc i} {y = i + 1} (omega arith))

  -- the first of those that are left does not have the name, or does
  pub left_out : ¬ Has Among it x → Has Among (members_of lists) x ↔ Has Among (members_of (drop i lists)) x → Has Among (members_of lists) x ↔ Has Among (members_of (drop (i + 1) lists)) x
  left_out not_here all = (λ has. forth (all.0 has), λ has. all.1 (back has))
    where
      forth : Has Among (members_of (drop i lists)) x → Has Among (members_of (drop (i + 1) lists)) x
      forth has = elim (any_cases (λ b. Among x b) it (members_of (drop (i + 1) lists)) (subst (λ l. Has Among (members_of l) x) cut has)) [
        | inl here ↦ absurd (not_here here)
        | inr behind ↦ behind
      ]

      back : Has Among (members_of (drop (i + 1) lists)) x → Has Among (members_of (drop i lists)) x
      back has = subst (λ l. Has Among (members_of l) x) (sym cut) (any_right (λ b. Among x b) it (members_of (drop (i + 1) lists)) has)

  pub has_here : Has Among it x → Has Among (members_of (drop i lists)) x
  has_here here = subst (λ l. Has Among (members_of l) x) (sym cut) (any_left (λ b. Among x b) it (members_of (drop (i + 1) lists)) here)

pub none_left : {X B : Type 0} (Among : X → B → Type 0) (lists : List (List B)) (i : ℕ) (x : X) → length lists ≤ i → ¬ Has Among (members_of (drop i lists)) x
none_left Among lists i x high has = in_none (λ b. Among x b) (subst (λ l. Has Among (members_of l) x) (drop_all i lists high) has)

pub members_split : {B : Type 0} (k : ℕ) (lists : List (List B)) → members_of lists ≡ members_of (take k lists) ++ members_of (drop k lists)
members_split zero lists = refl
members_split (suc k) [] = refl
members_split (suc k) (list ∷ lists) = ap (λ l. list ++ l) (members_split k lists) ∙ sym (append_assoc list (members_of (take k lists)) (members_of (drop k lists)))

pub members_added : {B : Type 0} (lists : List (List B)) (list : List B) → members_of (lists ++ list ∷ []) ≡ members_of lists ++ list
members_added [] list = append-nil list
members_added (first ∷ lists) list = ap (λ l. first ++ l) (members_added lists list) ∙ sym (append_assoc first (members_of lists) list)

-- one list stands in place of all from a place on, and of more
pub joined_members : {B : Type 0} (k : ℕ) (lists : List (List B)) (more : List B)
    → members_of (take k lists ++ (members_of (drop k lists) ++ more) ∷ []) ≡ members_of lists ++ more
joined_members k lists more =
    members_added (take k lists) (members_of (drop k lists) ++ more)
    ∙ (sym (append_assoc (members_of (take k lists)) (members_of (drop k lists)) more)
    ∙ ap (λ l. l ++ more) (sym (members_split k lists)))

-- the lists behind one more certificate: those from a place on are joined with what comes
pub excluded_more : {C B : Type 0} (view : C → B) (k : ℕ) (lists : List (List B)) (joined more all : List C) (index : List B) (cut new : List (List B))
    → map view joined ≡ members_of (take (length lists - k) (drop k lists)) → all ≡ joined ++ more → index ≡ map view all → cut ≡ take k lists → new ≡ cut ++ index ∷ []
    → members_of new ≡ members_of lists ++ map view more
excluded_more view k lists joined more all index cut new joined_is all_is index_is cut_is new_is =
    ap members_of (new_is ∙ (ap (λ l. l ++ index ∷ []) cut_is ∙ ap (λ i. take k lists ++ i ∷ []) whole))
    ∙ joined_members k lists (map view more)
  where
    rest : take (length lists - k) (drop k lists) ≡ drop k lists
    rest = take_all (length lists - k) (drop k lists) (omega (arith, length-drop k lists))

    whole : index ≡ members_of (drop k lists) ++ map view more
    whole =
        index_is
        ∙ (ap (map view) all_is
        ∙ (map-append view joined more
        ∙ ap (λ l. l ++ map view more) (joined_is ∙ ap members_of rest)))

pub has_appended : {X B : Type 0} (Among : X → B → Type 0) (new old more : List B) (x : X) → new ≡ old ++ more → Has Among new x ↔ (Has Among old x ⊎ Has Among more x)
has_appended Among new old more x is = (forth, back)
  where
    forth : Has Among new x → Has Among old x ⊎ Has Among more x
    forth has = any_cases (λ b. Among x b) old more (subst (λ l. Has Among l x) is has)

    back : Has Among old x ⊎ Has Among more x → Has Among new x
    back (inl has) = subst (λ l. Has Among l x) (sym is) (any_left (λ b. Among x b) old more has)
    back (inr has) = subst (λ l. Has Among l x) (sym is) (any_right (λ b. Among x b) old more has)

pub or_more : (a b : Bool) (P : Type 0) → (b ≡ true) ↔ P → ((a || b) ≡ true) ↔ ((a ≡ true) ⊎ P)
or_more true b P test = (λ t. inl refl, λ either. refl)
or_more false b P test = (λ t. inr (test.0 t), back)
  where
    back : (false ≡ true) ⊎ P → b ≡ true
    back (inl never) = absurd (false≢true never)
    back (inr p) = test.1 p

-- what is kept of some bases, and what enters of others, are at most as many as there are of both
pub joined_fewer : {C B : Type 0} (view : C → B) (bases carried kept entering : List C) (held kept_index index : List B)
    → map view bases ≡ held → kept_index ≡ map view kept → index ≡ map view entering ++ kept_index → length kept ≤ length bases → length entering ≤ length carried
    → length index ≤ length held + length carried
joined_fewer view bases carried kept entering held kept_index index held_is kept_is index_is kept_fewer entering_fewer =
    let h : length bases ≡ length held = sym (length-map bases view) ∙ ap length held_is in
    let k : length kept_index ≡ length kept = ap length kept_is ∙ length-map kept view in
    let e : length (map view entering) ≡ length entering = length-map entering view in
    let i : length index ≡ length (map view entering) + length kept_index = ap length index_is ∙ length-append (map view entering) kept_index in
    omega arith

-- a list that is held is no longer than what its change leaves
pub size_after : {B : Type 0} (held : List B) (more : ℕ) (change : Option (List B)) → length (left_of held change) ≤ length held + more
    → size_of (changed (Some held) change) ≤ size_of (Some held) + more
size_after held more None fewer = fewer
size_after held more (Some list) fewer = fewer

-- the index that joins what comes is put in place of those that do not last
pub put_behind : {B : Type 0} (joined : Option (Joined (List B))) (held given room new : List (List B)) (more coming : List B)
    → given ≡ held → room ≡ held → coming ≡ more → members_of (with_joined joined given) ≡ members_of given ++ coming → new ≡ with_joined joined room
    → members_of new ≡ members_of held ++ more
put_behind joined held given room new more coming given_is room_is coming_is joined_is new_is =
    ap members_of (new_is ∙ ap (λ l. with_joined joined l) (room_is ∙ sym given_is))
    ∙ (joined_is ∙ (ap (λ l. members_of l ++ coming) given_is ∙ ap (λ m. members_of held ++ m) coming_is))
