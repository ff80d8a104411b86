-- Where a walk stands after a step.
use Rattle.std.proofs.Common.{◌≡◌, ℕ, ◌+◌, ◌<◌, ◌≤◌, true, List, [], ◌∷◌, ◌++◌, Option, Some, None, Result, Ok, Err, IfErr, length, max, get_or, slice_get, arith, ap, subst, ◌∙◌, sym, inl, inr}
use Rattle.std.specs.Global.{Vec}
use Rattle.std.proofs.lemmas.List.{get_or_append_left, get_or-map, length-map, length_push}
use Rattle.std.proofs.lemmas.Bool.{cases_lt}
use Rattle.std.proofs.lemmas.Option.{slice_get-get_or}
use Rattle.path.specs.Query.{Accepts}
use Rattle.path_issuers.specs.Search.{Search, Candidate}
use Rattle.path_issuers.specs.Links.{Links, AreLinks}
use Rattle.path_search.specs.Answer.{HasRightTails, IsNextValid}
use Rattle.path_search.specs.Queue.{IsTailBefore, places_of, seen_tails}
use Rattle.path_search.specs.Walk.{IsAt, IsQueueOf, IsLast, HasTried, StandsBehind, Stays, StaysAt, Steps, Turns, anchors_above, issuers_above}
use Rattle.path_search.specs.declared.answer.Answer.{Answer}
use Rattle.path_search.specs.declared.queue.Queue.{Queue}
use Rattle.path_search.proofs.Walking.{tried_more, gave_up, turned_walk, handed_out, behind_it, last_is, last_of_later}

-- what was at a place is there once more stands behind
pub still_there : (s : Search) (steps : ℕ) (above : List ℕ) (place : ℕ) (old new : List (List ℕ)) (index : ℕ) → index < length old → get_or old index [] ≡ above
    → HasTried s steps above place old new true → (index < length new) × (get_or new index [] ≡ above)
still_there s steps above place old new index h is (inl pushed) =
    let tail = above ++ place ∷ [] in
    subst (λ l. (index < length l) × (get_or l index [] ≡ above)) (sym pushed.1)
    (omega (arith, length_push old tail), get_or_append_left old (tail ∷ []) [] index h ∙ is)
still_there s steps above place old new index h is (inr passed) = subst (λ l. (index < length l) × (get_or l index [] ≡ above)) (sym passed.1) (h, is)

-- what holds whatever the error is
pub if_err : {T E : Type 0} (r : Result T E) (P : Type 0) → P → IfErr r (λ e. P)
if_err (Ok x) P p = tt
if_err (Err e) P p = p

-- no place is left
pub past : (places : List ℕ) (tried : ℕ) → slice_get places tried ≡ None → length places ≤ tried
past places tried none = elim (cases_lt tried (length places)) [
  | inl inside ↦ let some = slice_get-get_or places tried 0 inside in absurd cc
  | inr all ↦ all
]

-- there are no more than these, if there were no more before
pub bounded_more : (s : Search) (steps : ℕ) (above : List ℕ) (place : ℕ) (old new : List (List ℕ)) (most : ℕ) → HasTried s steps above place old new true
    → length old ≤ max steps most → length new ≤ max steps most
bounded_more s steps above place old new most (inl pushed) few = omega (arith, pushed.2)
bounded_more s steps above place old new most (inr passed) few = omega (arith, ap (λ l. length l) passed.1)

-- a tail of the queue, by its places
pub tail_at : (tails : Vec (Vec ℕ)) (index : ℕ) (tail : Vec ℕ) → index < length tails.items → tail ≡ get_or tails.items index tail
    → get_or (places_of tails) index [] ≡ tail.items
tail_at tails index tail h is =
    get_or-map (λ (t : Vec ℕ). t.items) tails.items index tail [] h ∙ ap (λ (t : Vec ℕ). t.items) (sym is)

pub there_in : (tails : Vec (Vec ℕ)) (index : ℕ) → index < length tails.items → index < length (places_of tails)
there_in tails index h = omega (arith, length-map tails.items (λ (t : Vec ℕ). t.items))

pub past_in : (tails : Vec (Vec ℕ)) (index : ℕ) → length tails.items ≤ index → length (places_of tails) ≤ index
past_in tails index h = omega (arith, length-map tails.items (λ (t : Vec ℕ). t.items))

module _ (accepts : Accepts) (s : Search) (links : Links) (are : AreLinks accepts s links) (last : Option Candidate) where
  -- a place was tried
  pub at_more : (steps : ℕ) (above : List ℕ) (place : ℕ) (old : Queue) (tails : Vec (Vec ℕ)) → slice_get (issuers_above s links above) old.tried ≡ Some place
      → HasTried s steps above place (seen_tails old) (places_of tails) true
      → IsAt accepts s links last above old
      → IsAt accepts s links last above (record { tails = tails; index = old.index; number = old.number; tried = old.tried + 1 })
  at_more steps above place old tails next tried at =
      let still = still_there s steps above place (seen_tails old) (places_of tails) old.index at.there at.is tried in record {
        there = still.0;
        is = still.1;
        tails = tried_more accepts s links are last steps above place (seen_tails old) (places_of tails) old.index old.tried at.there at.is next tried at.tails;
        handed = at.handed;
      }

  -- the tails are the same
  pub at_kept : (above : List ℕ) (old : Queue) (tails : Vec (Vec ℕ)) → places_of tails ≡ seen_tails old
      → IsAt accepts s links last above old
      → IsAt accepts s links last above (record { tails = tails; index = old.index; number = old.number; tried = old.tried })
  at_kept above old tails same at = record {
    there = subst (λ l. old.index < length l) (sym same) at.there;
    is = subst (λ l. get_or l old.index [] ≡ above) (sym same) at.is;
    tails = subst (λ l. IsQueueOf accepts s links last l old.index old.tried) (sym same) at.tails;
    handed = at.handed;
  }

  -- there was no room for it
  pub at_full : (steps : ℕ) (above : List ℕ) (old : Queue) (tails : Vec (Vec ℕ)) → (places_of tails ≡ seen_tails old) × (steps ≤ length (seen_tails old))
      → IsAt accepts s links last above old
      → IsAt accepts s links last above (record { tails = tails; index = old.index; number = old.number; tried = old.tried }) × HasRightTails accepts s steps
  at_full steps above old tails (same, full) at =
      (at_kept above old tails same at, gave_up accepts s links are last steps (seen_tails old) old.index old.tried full at.tails)

  -- at the next tail it stands where it did
  pub at_stands : (above : List ℕ) (queue : Queue) → IsAt accepts s links last above queue → StandsBehind accepts s links last queue
  at_stands above queue at = record {
    tails = at.tails;
    handed = λ there. subst (λ l. IsLast (anchors_above s links l) l queue.number last) (sym at.is) at.handed;
  }

  pub stands_at : (above : List ℕ) (queue : Queue) → queue.index < length (seen_tails queue) → get_or (seen_tails queue) queue.index [] ≡ above
      → StandsBehind accepts s links last queue → IsAt accepts s links last above queue
  stands_at above queue there is stands = record {
    there = there;
    is = is;
    tails = stands.tails;
    handed = subst (λ l. IsLast (anchors_above s links l) l queue.number last) is (stands.handed there);
  }

  -- a tail is done with
  pub at_turned : (above : List ℕ) (old : Queue) → length (anchors_above s links above) ≤ old.number → length (issuers_above s links above) ≤ old.tried
      → IsAt accepts s links last above old
      → StandsBehind accepts s links last (record { tails = old.tails; index = old.index + 1; number = 0; tried = 0 })
  at_turned above old anchors issuers at = record {
    tails = turned_walk accepts s links are last above old.number (seen_tails old) old.index old.tried at.there at.is at.handed anchors issuers at.tails;
    handed = λ there.
        let later = get_or (seen_tails old) (old.index + 1) [] in
        let before = subst (λ l. IsTailBefore l later) at.is (at.tails.ordered old.index (old.index + 1) [] (omega arith) there) in
        last_of_later (anchors_above s links above) above (are.anchors_ascend _) old.number last (anchors_above s links later) later at.handed before;
  }

  -- a candidate is handed out
  pub at_handed : (c : Candidate) (old : Queue) → slice_get (anchors_above s links c.above) old.number ≡ Some c.anchor
      → IsAt accepts s links last c.above old
      → IsNextValid accepts s last c
      × StandsBehind accepts s links (Some c) (record { tails = old.tails; index = old.index; number = old.number + 1; tried = old.tried })
  at_handed c old anchor at =
      let found = handed_out accepts s links are last old.number c (seen_tails old) old.index old.tried at.there at.is at.handed anchor at.tails in (
        found,
        record {
          tails = behind_it accepts s links are last c (seen_tails old) old.index old.tried found.after at.tails;
          handed = λ there.
              subst (λ l. IsLast (anchors_above s links l) l (old.number + 1) (Some c)) (sym at.is) (last_is accepts s links are c old.number anchor);
        },
      )

-- a step at a tail is one of a walk that stands there
pub steps_on : (s : Search) (links : Links) (steps : ℕ) (above : List ℕ) (old new : Queue) (answer : Option Answer)
    → old.index < length (seen_tails old) → get_or (seen_tails old) old.index [] ≡ above → length (anchors_above s links above) ≤ old.number
    → Turns s links steps above old new answer → Steps s links steps old new answer
steps_on s links steps above old new answer there is anchors turns accepts last are stands =
    turns accepts last are (stands_at accepts s links are last above old there is stands) anchors

pub stays_on : (s : Search) (links : Links) (above : List ℕ) (old new : Queue)
    → old.index < length (seen_tails old) → get_or (seen_tails old) old.index [] ≡ above → StaysAt s links above old new → Stays s links old new
stays_on s links above old new there is stays accepts last are stands =
    at_stands accepts s links are last above new (stays accepts last are (stands_at accepts s links are last above old there is stands))
