-- Lists of bases of which two that share a name are nested: what is selected of two lists has just the names that both have.
use Rattle.std.proofs.Common.{◌≡◌, ◌⊎◌, ◌↔◌, zero, suc, List, [], ◌∷◌, ◌++◌, arith, refl, sym, subst, inl, inr, Contains}
use Rattle.std.specs.Prelude.{Any}
use Rattle.std.proofs.lemmas.List.Elements.{Contains-append_left, Contains-append_right, Contains-append_cases}
use Rattle.path_host_constraints.specs.Lists.{Has, Holds, Selects}

-- an element that has a property
pub record Found {B : Type 0} (P : B → Type 0) (list : List B) : Type 0 where
  pub item : B
  pub within : Contains list item
  pub has : P item

pub found : {B : Type 0} (P : B → Type 0) (list : List B) → Any P list → Found P list
found P list any = record { item = any.1; within = (any.0, any.2, any.3); has = any.4 }

pub some : {B : Type 0} (P : B → Type 0) (list : List B) (item : B) → Contains list item → P item → Any P list
some P list item within has = (within.0, item, within.1, within.2, has)

pub in_none : {B : Type 0} (P : B → Type 0) → Any P [] → ⊥
in_none P any = let low = any.2 in omega arith

pub any_left : {B : Type 0} (P : B → Type 0) (one other : List B) → Any P one → Any P (one ++ other)
any_left P one other any = let f = found P one any in some P (one ++ other) f.item (Contains-append_left one other f.item f.within) f.has

pub any_right : {B : Type 0} (P : B → Type 0) (one other : List B) → Any P other → Any P (one ++ other)
any_right P one other any = let f = found P other any in some P (one ++ other) f.item (Contains-append_right one other f.item f.within) f.has

pub any_cases : {B : Type 0} (P : B → Type 0) (one other : List B) → Any P (one ++ other) → Any P one ⊎ Any P other
any_cases P one other any =
    let f = found P (one ++ other) any in
    elim (Contains-append_cases one other f.item f.within) [
      | inl left ↦ inl (some P one f.item left f.has)
      | inr right ↦ inr (some P other f.item right f.has)
    ]

pub only : {B : Type 0} (item other : B) → Contains (item ∷ []) other → item ≡ other
only item other (zero, low, same) = same
only item other (suc k, low, same) = absurd (omega (arith, low))

pub the_only : {B : Type 0} (item : B) → Contains (item ∷ []) item
the_only item = (0, omega arith, refl)

pub any_only : {B : Type 0} (P : B → Type 0) (item : B) → Any P (item ∷ []) → P item
any_only P item any = let f = found P (item ∷ []) any in subst P (sym (only item f.item f.within)) f.has

pub only_any : {B : Type 0} (P : B → Type 0) (item : B) → P item → Any P (item ∷ [])
only_any P item has = some P (item ∷ []) item (the_only item) has

-- what the lists rest on: a base inside another has its names alone, and two that share a name are nested
pub record Nests {X B : Type 0} (Among : X → B → Type 0) (Inside : B → B → Type 0) : Type 0 where
  pub sound : (s t : B) (x : X) → Inside s t → Among x s → Among x t
  pub nested : (x : X) (s t : B) → Among x s → Among x t → Inside s t ⊎ Inside t s

module _ {X B : Type 0} (Among : X → B → Type 0) (Inside : B → B → Type 0) (nests : Nests Among Inside) where
  abbrev Both : List B → X → B → Type 0
  Both within x base = Holds Inside within base × Among x base

  held_has : (bases : List B) (base : B) (x : X) → Holds Inside bases base → Among x base → Has Among bases x
  held_has bases base x holds among =
      let f = found (λ other. Inside base other) bases holds in
      some (λ other. Among x other) bases f.item f.within (nests.sound base f.item x f.has among)

  pub none_selected : (within except : List B) → Selects Among Inside within except [] []
  none_selected within except = record {
    sound = λ x any. absurd (in_none (λ base. Among x base) any);
    complete = λ x any. absurd (in_none (λ base. Both within x base) any);
  }

  pub one_selected : (within except list selected : List B) (base : B) → Holds Inside within base → Selects Among Inside within except list selected
      → Selects Among Inside within except (list ++ base ∷ []) (selected ++ base ∷ [])
  one_selected within except list selected base holds is = record { sound = sound; complete = complete }
    where
      sound : (x : X) → Has Among (selected ++ base ∷ []) x → Any (λ b. Both within x b) (list ++ base ∷ [])
      sound x any = elim (any_cases (λ b. Among x b) selected (base ∷ []) any) [
        | inl old ↦ any_left (λ b. Both within x b) list (base ∷ []) (is.sound x old)
        | inr new ↦ any_right (λ b. Both within x b) list (base ∷ []) (only_any (λ b. Both within x b) base (holds, any_only (λ b. Among x b) base new))
      ]

      complete : (x : X) → Any (λ b. Both within x b) (list ++ base ∷ []) → Has Among (selected ++ base ∷ []) x ⊎ Has Among except x
      complete x any = elim (any_cases (λ b. Both within x b) list (base ∷ []) any) [
        | inl old ↦ elim (is.complete x old) [
          | inl here ↦ inl (any_left (λ b. Among x b) selected (base ∷ []) here)
          | inr there ↦ inr there
        ]
        | inr new ↦ inl (any_right (λ b. Among x b) selected (base ∷ []) (only_any (λ b. Among x b) base (any_only (λ b. Both within x b) base new).1))
      ]

  pub one_passed_over : (within except list selected : List B) (base : B) → (Holds Inside within base → Holds Inside except base) → Selects Among Inside within except list selected
      → Selects Among Inside within except (list ++ base ∷ []) selected
  one_passed_over within except list selected base stays is = record {
    sound = λ x any. any_left (λ b. Both within x b) list (base ∷ []) (is.sound x any);
    complete = complete;
  }
    where
      complete : (x : X) → Any (λ b. Both within x b) (list ++ base ∷ []) → Has Among selected x ⊎ Has Among except x
      complete x any = elim (any_cases (λ b. Both within x b) list (base ∷ []) any) [
        | inl old ↦ is.complete x old
        | inr new ↦ let both = any_only (λ b. Both within x b) base new in inr (held_has except base x (stays both.0) both.1)
      ]

  -- a list whose bases all lie in others has just the names that both have
  pub lying_in : (held carried : List B) → ((base : B) → Contains held base → Holds Inside carried base) → (x : X) → Has Among held x ↔ (Has Among held x × Has Among carried x)
  lying_in held carried lie x = (
    λ any. let f = found (λ b. Among x b) held any in (any, held_has carried f.item x (lie f.item f.within) f.has),
    λ both. both.0,
  )

  module _ (held carried kept entering : List B) (keeps : Selects Among Inside carried [] held kept) (enters : Selects Among Inside held kept carried entering) (x : X) where
    kept_both : Has Among kept x → Has Among held x × Has Among carried x
    kept_both any =
        let f = found (λ b. Both carried x b) held (keeps.sound x any) in
        (some (λ b. Among x b) held f.item f.within f.has.1, held_has carried f.item x f.has.0 f.has.1)

    entering_both : Has Among entering x → Has Among held x × Has Among carried x
    entering_both any =
        let f = found (λ b. Both held x b) carried (enters.sound x any) in
        (held_has held f.item x f.has.0 f.has.1, some (λ b. Among x b) carried f.item f.within f.has.1)

    in_either : Has Among held x → Has Among carried x → Has Among entering x ⊎ Has Among kept x
    in_either in_held in_carried =
        let h = found (λ b. Among x b) held in_held in
        let c = found (λ b. Among x b) carried in_carried in
        elim (nests.nested x h.item c.item h.has c.has) [
          | inl inside ↦ elim (keeps.complete x (some (λ b. Both carried x b) held h.item h.within (some (λ o. Inside h.item o) carried c.item c.within inside, h.has))) [
            | inl here ↦ inr here
            | inr never ↦ absurd (in_none (λ b. Among x b) never)
          ]
          | inr inside ↦ enters.complete x (some (λ b. Both held x b) carried c.item c.within (some (λ o. Inside c.item o) held h.item h.within inside, c.has))
        ]

    pub narrowed : Has Among (entering ++ kept) x ↔ (Has Among held x × Has Among carried x)
    narrowed = (forth, back)
      where
        forth : Has Among (entering ++ kept) x → Has Among held x × Has Among carried x
        forth any = elim (any_cases (λ b. Among x b) entering kept any) [
          | inl new ↦ entering_both new
          | inr old ↦ kept_both old
        ]

        back : Has Among held x × Has Among carried x → Has Among (entering ++ kept) x
        back both = elim (in_either both.0 both.1) [
          | inl new ↦ any_left (λ b. Among x b) entering kept new
          | inr old ↦ any_right (λ b. Among x b) entering kept old
        ]

    pub narrowed_alone : entering ≡ [] → Has Among kept x ↔ (Has Among held x × Has Among carried x)
    narrowed_alone none = subst (λ l. Has Among (l ++ kept) x ↔ (Has Among held x × Has Among carried x)) none narrowed
