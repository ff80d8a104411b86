-- How a queue of tails grows, in order, and what waits in it.
use Rattle.std.proofs.Common.{◌≡◌, ◌≢◌, ◌⊎◌, ℕ, suc, ◌+◌, ◌<◌, ◌≤◌, List, [], ◌∷◌, ◌++◌, Some, slice_get, length, take, get_or, arith, refl, ap, subst, ◌∙◌, sym, inl, inr}
use Rattle.std.specs.List.{All, AllPairs, AllByRecursion, Contains}
use Rattle.std.specs.List.Sorted.{IsStrictlyIncreasing}
use Rattle.std.proofs.lemmas.Bool.{cases_order}
use Rattle.std.proofs.lemmas.Option.{get_or_from_slice_get, slice_get_within}
use Rattle.std.proofs.lemmas.List.{length_push, get_or_push, get_or_append_left, get_or_default, length-take-le, take_all, take_more}
use Rattle.std.proofs.lemmas.List.Elements.{All-push, recursion_from_All}
use Rattle.std.proofs.lemmas.List.Quantifiers.{all_pairs_push}
use Rattle.std.proofs.lemmas.List.Kept.{AllPairs-from_increasing}
use Rattle.path_issuers.specs.Search.{ArePlacesBefore}
use Rattle.path_search.specs.Queue.{IsTailBefore, IsTried, IsUntried, IsGrown, IsWaiting, IsQueue}
use Rattle.path_search.specs.Answer.{AreDifferent}

-- the order of tails

places_before_trans : (a b c : List ℕ) → ArePlacesBefore a b → ArePlacesBefore b c → ArePlacesBefore a c
places_before_trans [] b c p q = absurd p
places_before_trans (x ∷ xs) [] c p q = absurd p
places_before_trans (x ∷ xs) (y ∷ ys) [] p q = absurd q
places_before_trans (x ∷ xs) (y ∷ ys) (z ∷ zs) p q =
    elim p [
      | inl less ↦ elim q [ inl more ↦ inl (omega arith) | inr same ↦ inl (omega (arith, same.0)) ]
      | inr same ↦ elim q [ inl more ↦ inl (omega (arith, same.0)) | inr again ↦ inr (same.0 ∙ again.0, places_before_trans xs ys zs same.1 again.1) ]
    ]

places_not_before : (a : List ℕ) → ArePlacesBefore a a → ⊥
places_not_before [] p = p
places_not_before (x ∷ xs) p = elim p [ inl less ↦ absurd (omega arith) | inr same ↦ places_not_before xs same.1 ]

places_before_more : (a b u v : List ℕ) → ArePlacesBefore a b → ArePlacesBefore (a ++ u) (b ++ v)
places_before_more [] b u v p = absurd p
places_before_more (x ∷ xs) [] u v p = absurd p
places_before_more (x ∷ xs) (y ∷ ys) u v p = elim p [ inl less ↦ inl less | inr same ↦ inr (same.0, places_before_more xs ys u v same.1) ]

places_before_last : (a : List ℕ) (x y : ℕ) → x < y → ArePlacesBefore (a ++ x ∷ []) (a ++ y ∷ [])
places_before_last [] x y less = inl less
places_before_last (z ∷ zs) x y less = inr (refl, places_before_last zs x y less)

pub tail_before_trans : (a b c : List ℕ) → IsTailBefore a b → IsTailBefore b c → IsTailBefore a c
tail_before_trans a b c p q =
    elim p [
      | inl less ↦ elim q [ inl more ↦ inl (omega arith) | inr same ↦ inl (omega (arith, same.0)) ]
      | inr same ↦ elim q [ inl more ↦ inl (omega (arith, same.0)) | inr again ↦ inr (same.0 ∙ again.0, places_before_trans a b c same.1 again.1) ]
    ]

pub tail_not_before : (a : List ℕ) → IsTailBefore a a → ⊥
tail_not_before a p = elim p [ inl less ↦ absurd (omega arith) | inr same ↦ places_not_before a same.1 ]

grown_before : (a b : List ℕ) (x y : ℕ) → IsTailBefore a b → IsTailBefore (a ++ x ∷ []) (b ++ y ∷ [])
grown_before a b x y p =
    let m = length_push a x in
    let n = length_push b y in
    elim p [ inl less ↦ inl (omega arith) | inr same ↦ inr (omega (arith, same.0), places_before_more a b (x ∷ []) (y ∷ []) same.1) ]

last_before : (a : List ℕ) (x y : ℕ) → x < y → IsTailBefore (a ++ x ∷ []) (a ++ y ∷ [])
last_before a x y less = inr (length_push a x ∙ sym (length_push a y), places_before_last a x y less)

-- a front is not after the whole
front_before : (a whole : List ℕ) (n : ℕ) → n ≤ length whole → (a ≡ take n whole) ⊎ IsTailBefore a (take n whole) → (a ≡ whole) ⊎ IsTailBefore a whole
front_before a whole n short p =
    let len = length-take-le n whole short in
    elim (cases_order n (length whole)) [
      | inl all ↦ subst (λ l. (a ≡ l) ⊎ IsTailBefore a l) (take_all n whole (omega arith)) p
      | inr o ↦ elim o [
        | inl less ↦ inr (inl (elim p [
          | inl same ↦ omega (arith, ap (λ l. length l) same)
          | inr before ↦ elim before [ inl shorter ↦ omega arith | inr equal ↦ omega (arith, equal.0) ]
        ]))
        | inr more ↦ absurd (omega arith)
      ]
    ]

-- lists that get an element more

old_or_new : (tails : List (List ℕ)) (tail : List ℕ) (k : ℕ) → k < length (tails ++ tail ∷ []) → (k < length tails) ⊎ (k ≡ length tails)
old_or_new tails tail k h =
    let n = length_push tails tail in
    elim (cases_order k (length tails)) [ inl e ↦ inr e | inr o ↦ elim o [ inl less ↦ inl less | inr more ↦ absurd (omega arith) ] ]

module _ (next : List ℕ → List ℕ) (ascending : (above : List ℕ) → IsStrictlyIncreasing (next above)) where
  -- a place tried is below one not tried
  tried_below : (above : List ℕ) (tried place : ℕ) → IsTried (next above) tried place → tried < length (next above) → place < get_or (next above) tried 0
  tried_below above tried place (k, early, inside, is) h =
      subst (λ p. p < get_or (next above) tried 0) is (AllPairs-from_increasing (next above) (ascending above) k tried 0 early h)

  -- a tail that is in the queue comes before the one that is put behind it
  reached_before : (above : List ℕ) (tried : ℕ) (tail : List ℕ) → tried < length (next above) → (tail ≡ []) ⊎ IsGrown next above tried tail
      → IsTailBefore tail (above ++ get_or (next above) tried 0 ∷ [])
  reached_before above tried tail h (inl empty) =
      let place = get_or (next above) tried 0 in
      inl (omega (arith, ap (λ l. length l) empty, length_push above place))
  reached_before above tried tail h (inr grown) =
      let place = get_or (next above) tried 0 in
      subst (λ l. IsTailBefore l (above ++ place ∷ [])) (sym grown.is) (elim grown.early [
        | inl before ↦ grown_before grown.below above grown.place place before
        | inr same ↦
            subst (λ l. IsTailBefore (l ++ grown.place ∷ []) (above ++ place ∷ [])) (sym same.0)
            (last_before above grown.place place (tried_below above tried grown.place same.1 h))
      ])

  still_tried : (places : List ℕ) (tried place : ℕ) → IsTried places tried place → IsTried places (tried + 1) place
  still_tried places tried place (k, early, inside, is) = (k, omega arith, inside, is)

  still_reached : (above : List ℕ) (tried : ℕ) (tail : List ℕ) → (tail ≡ []) ⊎ IsGrown next above tried tail → (tail ≡ []) ⊎ IsGrown next above (tried + 1) tail
  still_reached above tried tail (inl empty) = inl empty
  still_reached above tried tail (inr grown) = inr record {
    below = grown.below;
    place = grown.place;
    is = grown.is;
    early = elim grown.early [ inl before ↦ inl before | inr same ↦ inr (same.0, still_tried (next above) tried grown.place same.1) ];
  }

  -- where the next tail is after `above`, whatever was tried is before it
  later_reached : (above later : List ℕ) (tried : ℕ) (tail : List ℕ) → IsTailBefore above later
      → (tail ≡ []) ⊎ IsGrown next above tried tail → (tail ≡ []) ⊎ IsGrown next later 0 tail
  later_reached above later tried tail after (inl empty) = inl empty
  later_reached above later tried tail after (inr grown) = inr record {
    below = grown.below;
    place = grown.place;
    is = grown.is;
    early = inl (elim grown.early [
      | inl before ↦ tail_before_trans grown.below above later before after
      | inr same ↦ subst (λ l. IsTailBefore l later) (sym same.0) after
    ]);
  }

  -- of the places that are not tried one is tried
  later_untried : (places : List ℕ) (tried place : ℕ) → IsUntried places tried place → (get_or places tried 0 ≡ place) ⊎ IsUntried places (tried + 1) place
  later_untried places tried place (k, late, inside, is) =
      elim (cases_order tried k) [
        | inl e ↦ inl (ap (λ n. get_or places n 0) e ∙ is)
        | inr o ↦ elim o [ inl less ↦ inr (k, omega arith, inside, is) | inr more ↦ absurd (omega arith) ]
      ]

  -- each place of a tail that is wanted may be tried above those before it
  abbrev LeadsThere : (List ℕ → Type 0) → Type 0
  LeadsThere Wanted = (above : List ℕ) (k : ℕ) → Wanted above → k < length above → Contains (next (take k above)) (get_or above k 0)

  module _ (Right Wanted : List ℕ → Type 0) (leads : LeadsThere Wanted) where
    abbrev Queue : List (List ℕ) → ℕ → ℕ → Type 0
    Queue tails index tried = IsQueue next Right Wanted tails index tried

    all_untried : (above : List ℕ) (k : ℕ) → Wanted above → k < length above → IsUntried (next (take k above)) 0 (get_or above k 0)
    all_untried above k wanted h =
        let c = leads above k wanted h in
        (c.0, omega arith, c.1, get_or_default (next (take k above)) c.0 0 (get_or above k 0) c.1 ∙ c.2)

    -- a place more has been tried, and its tail stands behind the others

    still_there : (tails : List (List ℕ)) (tail : List ℕ) (k : ℕ) → k < length tails → get_or (tails ++ tail ∷ []) k [] ≡ get_or tails k []
    still_there tails tail k h = get_or_append_left tails (tail ∷ []) [] k h

    -- what waits elsewhere, waits on
    waits_on : (tails : List (List ℕ)) (tail : List ℕ) (index tried : ℕ) (above : List ℕ) (w : IsWaiting next tails index tried above)
        → (w.at ≡ index → w.front < length above → IsUntried (next (take w.front above)) (tried + 1) (get_or above w.front 0))
        → IsWaiting next (tails ++ tail ∷ []) index (tried + 1) above
    waits_on tails tail index tried above w untried =
        let n = length_push tails tail in
        let there : w.at < length tails = w.there in record {
          front = w.front;
          at = w.at;
          short = w.short;
          there = omega arith;
          ahead = w.ahead;
          is = still_there tails tail w.at w.there ∙ w.is;
          untried = untried;
        }

    -- a longer front waits at the end
    waits_behind : (tails : List (List ℕ)) (index tried : ℕ) (above : List ℕ) (front place : ℕ)
        → index < length tails → front < length above → place ≡ get_or above front 0
        → IsWaiting next (tails ++ (take front above ++ place ∷ []) ∷ []) index (tried + 1) above
    waits_behind tails index tried above front place h shorter is =
        let tail = take front above ++ place ∷ [] in
        let n = length_push tails tail in record {
          front = front + 1;
          at = length tails;
          short = omega arith;
          there = omega arith;
          ahead = omega arith;
          is = get_or_push tails tail [] (length tails) refl ∙ (ap (λ p. take front above ++ p ∷ []) is ∙ sym (take_more above front 0 shorter));
          untried = λ same longer. absurd (omega arith);
        }

    waits_with_more : (tails : List (List ℕ)) (index tried : ℕ) (above : List ℕ) → index < length tails → IsWaiting next tails index tried above
        → IsWaiting next (tails ++ (get_or tails index [] ++ get_or (next (get_or tails index [])) tried 0 ∷ []) ∷ []) index (tried + 1) above
    waits_with_more tails index tried above h w =
        let top = get_or tails index [] in
        let tail = top ++ get_or (next top) tried 0 ∷ [] in
        elim (cases_order w.at index) [
          | inl same ↦
              let here : top ≡ take w.front above = sym (ap (λ n. get_or tails n []) same) ∙ w.is in
              elim (cases_order w.front (length above)) [
                | inl whole ↦ waits_on tails tail index tried above w (λ e shorter. absurd (omega arith))
                | inr o ↦ elim o [
                  | inl shorter ↦ elim (later_untried (next (take w.front above)) tried (get_or above w.front 0) (w.untried same shorter)) [
                    | inl taken ↦
                        subst (λ l. IsWaiting next (tails ++ (l ++ get_or (next l) tried 0 ∷ []) ∷ []) index (tried + 1) above) (sym here)
                        (waits_behind tails index tried above w.front (get_or (next (take w.front above)) tried 0) h shorter taken)
                    | inr later ↦ waits_on tails tail index tried above w (λ e s. later)
                  ]
                  | inr longer ↦ absurd (omega (arith, w.short))
                ]
              ]
          | inr elsewhere ↦ waits_on tails tail index tried above w (λ e shorter. absurd (elim elsewhere [ inl less ↦ omega arith | inr more ↦ omega arith ]))
        ]

    grown_with_more : (tails : List (List ℕ)) (index tried : ℕ) → index < length tails → tried < length (next (get_or tails index []))
        → All (λ tail. (tail ≡ []) ⊎ IsGrown next (get_or tails index []) tried tail) tails
        → All (λ tail. (tail ≡ []) ⊎ IsGrown next (get_or tails index []) (tried + 1) tail)
        (tails ++ (get_or tails index [] ++ get_or (next (get_or tails index [])) tried 0 ∷ []) ∷ [])
    grown_with_more tails index tried h inside all =
        let top = get_or tails index [] in
        let place = get_or (next top) tried 0 in
        All-push (λ tail. (tail ≡ []) ⊎ IsGrown next top (tried + 1) tail) tails (top ++ place ∷ [])
        (λ k d l. still_reached top tried (get_or tails k d) (all k d l))
        (inr record { below = top; place = place; is = refl; early = inr (refl, (tried, omega arith, inside, refl)) })

    -- the next place above the tail is tried: its tail is right, and stands behind the others now
    pub pushed : (tails : List (List ℕ)) (index tried : ℕ) → index < length tails → tried < length (next (get_or tails index []))
        → Right (get_or tails index [] ++ get_or (next (get_or tails index [])) tried 0 ∷ [])
        → Queue tails index tried → Queue (tails ++ (get_or tails index [] ++ get_or (next (get_or tails index [])) tried 0 ∷ []) ∷ []) index (tried + 1)
    pushed tails index tried h inside right queue =
        let top = get_or tails index [] in
        let place = get_or (next top) tried 0 in
        let tail = top ++ place ∷ [] in record {
          right = All-push Right tails tail queue.right right;
          ordered = all_pairs_push IsTailBefore tails tail queue.ordered
              (λ k d l. reached_before top tried (get_or tails k d) inside (queue.grown h k d l));
          grown = λ more.
              subst (λ l. All (λ t. (t ≡ []) ⊎ IsGrown next l (tried + 1) t) (tails ++ tail ∷ [])) (sym (still_there tails tail index h))
              (grown_with_more tails index tried h inside (queue.grown h));
          waiting = λ above wanted. waits_with_more tails index tried above h (queue.waiting above wanted);
        }

    -- the next place above the tail does not stand there, so that what waits does so for another one
    pub passed : (tails : List (List ℕ)) (index tried : ℕ) → index < length tails
        → ((above : List ℕ) (k : ℕ) → Wanted above → k < length above → take k above ≡ get_or tails index []
        → get_or above k 0 ≡ get_or (next (get_or tails index [])) tried 0 → ⊥)
        → Queue tails index tried → Queue tails index (tried + 1)
    passed tails index tried h other queue = record {
      right = queue.right;
      ordered = queue.ordered;
      grown = λ more k d l. still_reached (get_or tails index []) tried (get_or tails k d) (queue.grown h k d l);
      waiting = λ above wanted.
          let w = queue.waiting above wanted in record {
            front = w.front;
            at = w.at;
            short = w.short;
            there = w.there;
            ahead = w.ahead;
            is = w.is;
            untried = λ same shorter.
                let here : take w.front above ≡ get_or tails index [] = sym w.is ∙ ap (λ n. get_or tails n []) same in
                elim (later_untried (next (take w.front above)) tried (get_or above w.front 0) (w.untried same shorter)) [
                  | inl taken ↦ absurd (other above w.front wanted shorter here (sym taken ∙ ap (λ l. get_or (next l) tried 0) here))
                  | inr later ↦ later
                ];
          };
    }

    -- what waits, waits further on
    ahead : (tails : List (List ℕ)) (index tried : ℕ) (above : List ℕ) → length (next (get_or tails index [])) ≤ tried
        → (Wanted (get_or tails index []) → ⊥) → Wanted above → (w : IsWaiting next tails index tried above) → index + 1 ≤ w.at
    ahead tails index tried above all unwanted wanted w =
        let from : index ≤ w.at = w.ahead in
        elim (cases_order w.at index) [
          | inl same ↦
              let here : take w.front above ≡ get_or tails index [] = sym w.is ∙ ap (λ n. get_or tails n []) same in
              elim (cases_order w.front (length above)) [
                | inl whole ↦ absurd (unwanted (subst Wanted (sym (take_all w.front above (omega arith)) ∙ here) wanted))
                | inr o ↦ elim o [
                  | inl shorter ↦
                      let untried = w.untried same shorter in
                      let inside : untried.0 < length (next (get_or tails index [])) = subst (λ l. untried.0 < length (next l)) here untried.2 in
                      absurd (omega (arith, untried.1))
                  | inr longer ↦ absurd (omega (arith, w.short))
                ]
              ]
          | inr o ↦ elim o [ inl less ↦ absurd (omega arith) | inr more ↦ omega arith ]
        ]

    -- each place above the tail was tried, and it is not looked for itself
    pub turned : (tails : List (List ℕ)) (index tried : ℕ) → index < length tails → length (next (get_or tails index [])) ≤ tried
        → (Wanted (get_or tails index []) → ⊥)
        → Queue tails index tried → Queue tails (index + 1) 0
    turned tails index tried h all unwanted queue = record {
      right = queue.right;
      ordered = queue.ordered;
      grown = λ more k d l.
          later_reached (get_or tails index []) (get_or tails (index + 1) []) tried (get_or tails k d)
          (queue.ordered index (index + 1) [] (omega arith) more) (queue.grown h k d l);
      waiting = λ above wanted.
          let w = queue.waiting above wanted in record {
            front = w.front;
            at = w.at;
            short = w.short;
            there = w.there;
            ahead = ahead tails index tried above all unwanted wanted w;
            is = w.is;
            untried = λ same shorter. all_untried above w.front wanted shorter;
          };
    }

    -- the same, of a tail and a place that are named

    grown_same : (tails : List (List ℕ)) (index tried : ℕ) (above : List ℕ) (place : ℕ)
        → get_or tails index [] ≡ above → slice_get (next above) tried ≡ Some place
        → get_or tails index [] ++ get_or (next (get_or tails index [])) tried 0 ∷ [] ≡ above ++ place ∷ []
    grown_same tails index tried above place is at =
        ap (λ l. l ++ get_or (next l) tried 0 ∷ []) is ∙ ap (λ p. above ++ p ∷ []) (get_or_from_slice_get (next above) tried place 0 at)

    pub pushed_place : (tails : List (List ℕ)) (index tried : ℕ) (above : List ℕ) (place : ℕ) → index < length tails → get_or tails index [] ≡ above
        → slice_get (next above) tried ≡ Some place → Right (above ++ place ∷ [])
        → Queue tails index tried → Queue (tails ++ (above ++ place ∷ []) ∷ []) index (tried + 1)
    pushed_place tails index tried above place h is at right queue =
        let same = grown_same tails index tried above place is at in
        let inside = subst (λ l. tried < length (next l)) (sym is) (slice_get_within (next above) tried place at) in
        subst (λ l. Queue (tails ++ l ∷ []) index (tried + 1)) same (pushed tails index tried h inside (subst Right (sym same) right) queue)

    pub passed_place : (tails : List (List ℕ)) (index tried : ℕ) (above : List ℕ) (place : ℕ) → index < length tails → get_or tails index [] ≡ above
        → slice_get (next above) tried ≡ Some place
        → ((wanted : List ℕ) (k : ℕ) → Wanted wanted → k < length wanted → take k wanted ≡ above → get_or wanted k 0 ≡ place → ⊥)
        → Queue tails index tried → Queue tails index (tried + 1)
    passed_place tails index tried above place h is at other queue =
        let named = ap (λ l. get_or (next l) tried 0) is ∙ get_or_from_slice_get (next above) tried place 0 at in
        passed tails index tried h (λ wanted k is_wanted shorter front next_is. other wanted k is_wanted shorter (front ∙ is) (next_is ∙ named)) queue

    pub turned_above : (tails : List (List ℕ)) (index tried : ℕ) (above : List ℕ) → index < length tails → get_or tails index [] ≡ above
        → length (next above) ≤ tried → (Wanted above → ⊥) → Queue tails index tried → Queue tails (index + 1) 0
    turned_above tails index tried above h is all unwanted queue =
        turned tails index tried h (subst (λ l. length (next l) ≤ tried) (sym is) all) (λ wanted. unwanted (subst Wanted is wanted)) queue

    -- at the start the empty tail waits
    pub started : Right [] → Queue ([] ∷ []) 0 0
    started right = record {
      right = All-push Right [] [] (λ k d l. absurd (omega arith)) right;
      ordered = λ i j d l h. absurd (omega arith);
      grown = λ h. All-push (λ tail. (tail ≡ []) ⊎ IsGrown next [] 0 tail) [] [] (λ k d l. absurd (omega arith)) (inl refl);
      waiting = λ above wanted. record {
        front = 0;
        at = 0;
        short = omega arith;
        there = omega arith;
        ahead = omega arith;
        is = refl;
        untried = λ same shorter. all_untried above 0 wanted shorter;
      };
    }

    -- at the end nothing waits
    pub ended : (tails : List (List ℕ)) (index tried : ℕ) → length tails ≤ index → Queue tails index tried → (above : List ℕ) → Wanted above → ⊥
    ended tails index tried h queue above wanted =
        let w = queue.waiting above wanted in
        let there : w.at < length tails = w.there in
        let from : index ≤ w.at = w.ahead in
        omega arith

    -- none that is looked for is before the next tail
    pub first : (tails : List (List ℕ)) (index tried : ℕ) → Queue tails index tried → (above : List ℕ) → Wanted above
        → (get_or tails index [] ≡ above) ⊎ IsTailBefore (get_or tails index []) above
    first tails index tried queue above wanted =
        let w = queue.waiting above wanted in
        let from : index ≤ w.at = w.ahead in
        front_before (get_or tails index []) above w.front w.short (elim (cases_order index w.at) [
          | inl same ↦ inl (ap (λ n. get_or tails n []) same ∙ w.is)
          | inr o ↦ elim o [
            | inl less ↦ inr (subst (λ l. IsTailBefore (get_or tails index []) l) w.is (queue.ordered index w.at [] less w.there))
            | inr more ↦ absurd (omega arith)
          ]
        ])

    -- the same of fewer that are looked for
    pub narrowed : (Fewer : List ℕ → Type 0) → ((above : List ℕ) → Fewer above → Wanted above) → (tails : List (List ℕ)) (index tried : ℕ)
        → Queue tails index tried → IsQueue next Right Fewer tails index tried
    narrowed Fewer f tails index tried queue = record {
      right = queue.right;
      ordered = queue.ordered;
      grown = queue.grown;
      waiting = λ above fewer. queue.waiting above (f above fewer);
    }

-- tails in order are different

all_after : (tail : List ℕ) (tails : List (List ℕ)) → AllPairs IsTailBefore (tail ∷ tails) → All (λ other. IsTailBefore tail other) tails
all_after tail tails ordered k d h = ordered 0 (suc k) d (omega arith) (omega arith)

all_different : (tail : List ℕ) (others : List (List ℕ)) → All (λ other. IsTailBefore tail other) others → AllByRecursion (λ other. tail ≢ other) others
all_different tail others after = recursion_from_All (λ other. tail ≢ other) others
    (λ k d h same. tail_not_before tail (subst (λ l. IsTailBefore tail l) (sym same) (after k d h)))

pub are_different : (tails : List (List ℕ)) → AllPairs IsTailBefore tails → AreDifferent tails
are_different [] ordered = tt
are_different (tail ∷ tails) ordered = (
  all_different tail tails (all_after tail tails ordered),
  are_different tails (λ i j d less h. ordered (suc i) (suc j) d (omega arith) (omega arith)),
)
