-- The walk that collects all right tails, and the first of the longest.
use Rattle.std.proofs.Common.{◌≡◌, ◌≢◌, ℕ, ◌+◌, ◌<◌, ◌≤◌, true, List, [], ◌∷◌, ◌++◌, Some, length, take, get_or, slice_get, arith, refl, ap, subst, ◌∙◌, sym, inl, inr}
use Rattle.std.specs.Global.{Vec}
use Rattle.std.specs.List.{All, Contains}
use Rattle.std.specs.List.Sorted.{IsStrictlyIncreasing}
use Rattle.std.proofs.lemmas.Bool.{cases_lt, cases_order}
use Rattle.std.proofs.lemmas.List.{get_or_append_left, get_or_default, length_push, take-append-le, take_all, take_more}
use Rattle.std.proofs.Math.Seq.{get_or-append_seam}
use Rattle.path.specs.Query.{Accepts}
use Rattle.path_issuers.specs.Search.{Search, ArePlacesBefore}
use Rattle.path_search.specs.Answer.{HasRightTails}
use Rattle.path_search.specs.Collecting.{AreAllTails, IsCollecting, IsCollectingAt, IsFirstLongest, IsFirstLongestBefore, IsFurther, IsFurthest, IsLonger}
use Rattle.path_issuers.specs.Links.{Links}
use Rattle.path_issuers.specs.Lists.{list_at, lists_of}
use Rattle.path_search.specs.Queue.{IsQueue, IsTailBefore, StandsFirst, places_of, seen_tails}
use Rattle.path_issuers.specs.Upward.{AreAuthorityLinks}
use Rattle.path_search.specs.Walk.{AreFirst, HasRightTarget, HasTried, IsTail, MayStandAbove, issuers_above}
use Rattle.path_search.specs.declared.queue.Queue.{Queue}
use Rattle.path_search.proofs.Climbing.{linked, next_fits, target_of_tail}
use Rattle.path_search.proofs.Queues.{ended, narrowed, passed_place, pushed_place, started, tail_before_trans, tail_not_before, turned_above}
use Rattle.path_search.proofs.Standing.{still_there}
use Rattle.path_search.proofs.Walking.{among_above, enough_tails, grown_is_tail, issuer_above, rising, start_is_tail}

-- the first ones stay, once more stands behind
front_stays : (s : Search) (steps : ℕ) (above : List ℕ) (place : ℕ) (old new : List (List ℕ)) (index : ℕ) → index ≤ length old
    → HasTried s steps above place old new true → take index new ≡ take index old
front_stays s steps above place old new index h (inl pushed) = ap (λ l. take index l) pushed.1 ∙ take-append-le index old ((above ++ place ∷ []) ∷ []) h
front_stays s steps above place old new index h (inr passed) = ap (λ l. take index l) passed.1

module _ (accepts : Accepts) (s : Search) (links : Links) (are : AreAuthorityLinks accepts s links) where
  ascending : (above : List ℕ) → IsStrictlyIncreasing (issuers_above s links above)
  ascending above = rising accepts s links are.issuers are.ascend above

  leads : (done : List (List ℕ)) (above : List ℕ) (k : ℕ) → IsFurther accepts s done above → k < length above
      → Contains (issuers_above s links (take k above)) (get_or above k 0)
  leads done above k further h =
      among_above accepts s links are.issuers are.ascend above k further.tail.short h (linked accepts s links are above k further.tail.right h)

  abbrev Further : List (List ℕ) → List (List ℕ) → ℕ → ℕ → Type 0
  Further done tails index tried = IsQueue (issuers_above s links) (IsTail accepts s) (IsFurther accepts s done) tails index tried

  -- a place was tried

  tried_on : (done : List (List ℕ)) (steps : ℕ) (above : List ℕ) (place : ℕ) (old new : List (List ℕ)) (index tried : ℕ)
      → index < length old → get_or old index [] ≡ above → slice_get (issuers_above s links above) tried ≡ Some place
      → HasTried s steps above place old new true → Further done old index tried → Further done new index (tried + 1)
  tried_on done steps above place old new index tried h is at (inl pushed) queue =
      let issuer = issuer_above accepts s links are.issuers are.ascend above tried place at in
      let tail : IsTail accepts s above = subst (IsTail accepts s) is (queue.right index [] h) in
      subst (λ l. Further done l index (tried + 1)) (sym pushed.1)
      (pushed_place (issuers_above s links) ascending (IsTail accepts s) (IsFurther accepts s done) (leads done) old index tried above place h is at
      (grown_is_tail accepts s above place tail issuer.0 issuer.1 pushed.0) queue)
  tried_on done steps above place old new index tried h is at (inr passed) queue =
      subst (λ l. Further done l index (tried + 1)) (sym passed.1)
      (passed_place (issuers_above s links) ascending (IsTail accepts s) (IsFurther accepts s done) (leads done) old index tried above place h is at
      (λ wanted k further shorter front next_is.
      let stands = subst (λ l. MayStandAbove s l (get_or wanted k 0)) front (next_fits accepts s wanted k further.tail.right shorter) in
      passed.0 (subst (MayStandAbove s above) next_is stands)) queue)

  pub collecting_more : (done : List (List ℕ)) (steps : ℕ) (above : List ℕ) (place : ℕ) (old : Queue) (tails : Vec (Vec ℕ))
      → slice_get (issuers_above s links above) old.tried ≡ Some place → HasTried s steps above place (seen_tails old) (places_of tails) true
      → IsCollectingAt accepts s links done above old
      → IsCollectingAt accepts s links done above (record { tails = tails; index = old.index; number = old.number; tried = old.tried + 1 })
  collecting_more done steps above place old tails next tried at =
      let still = still_there s steps above place (seen_tails old) (places_of tails) old.index at.there at.is tried in
      let there = at.there in record {
        there = still.0;
        is = still.1;
        tails = record {
          before = front_stays s steps above place (seen_tails old) (places_of tails) old.index (omega arith) tried ∙ at.tails.before;
          tails = tried_on done steps above place (seen_tails old) (places_of tails) old.index old.tried at.there at.is next tried at.tails.tails;
        };
      }

  -- there was no room for it
  pub collecting_full : (done : List (List ℕ)) (steps : ℕ) (above : List ℕ) (old : Queue) (tails : Vec (Vec ℕ))
      → (places_of tails ≡ seen_tails old) × (steps ≤ length (seen_tails old)) → IsCollectingAt accepts s links done above old
      → IsCollectingAt accepts s links done above (record { tails = tails; index = old.index; number = old.number; tried = old.tried })
      × HasRightTails accepts s steps
  collecting_full done steps above old tails (same, full) at = (
    record {
      there = subst (λ l. old.index < length l) (sym same) at.there;
      is = subst (λ l. get_or l old.index [] ≡ above) (sym same) at.is;
      tails = record {
        before = ap (λ l. take old.index l) same ∙ at.tails.before;
        tails = subst (λ l. Further done l old.index old.tried) (sym same) at.tails.tails;
      };
    },
    enough_tails accepts s steps (seen_tails old) full at.tails.tails.right at.tails.tails.ordered,
  )

  -- a tail more is done with

  further_before : (done : List (List ℕ)) (above tail : List ℕ) → IsFurther accepts s (done ++ above ∷ []) tail → IsFurther accepts s done tail
  further_before done above tail further = record {
    tail = further.tail;
    other = λ k d h.
        subst (λ (l : List ℕ). l ≢ tail) (get_or_append_left done (above ∷ []) d k h)
        (further.other k d (omega (arith, length_push done above)));
  }

  not_further : (done : List (List ℕ)) (above : List ℕ) → IsFurther accepts s (done ++ above ∷ []) above → ⊥
  not_further done above further =
      further.other (length done) [] (omega (arith, length_push done above)) (get_or-append_seam done above [] [])

  pub collecting_past : (done : List (List ℕ)) (above : List ℕ) (old : Queue) → length (issuers_above s links above) ≤ old.tried
      → IsCollectingAt accepts s links done above old
      → IsCollecting accepts s links (done ++ above ∷ []) (record { tails = old.tails; index = old.index + 1; number = old.number; tried = 0 })
  collecting_past done above old grown at =
      let more = done ++ above ∷ [] in
      let queue = at.tails.tails in record {
        before = take_more (seen_tails old) old.index [] at.there ∙ (ap (λ l. l ++ get_or (seen_tails old) old.index [] ∷ []) at.tails.before ∙ ap (λ t. done ++ t ∷ []) at.is);
        tails = turned_above (issuers_above s links) ascending (IsTail accepts s) (IsFurther accepts s more) (leads more) (seen_tails old) old.index old.tried above
            at.there at.is grown (not_further done above)
            (narrowed (issuers_above s links) ascending (IsTail accepts s) (IsFurther accepts s done) (leads done) (IsFurther accepts s more)
            (further_before done above) (seen_tails old) old.index old.tried queue);
      }

  pub collecting_at : (done : List (List ℕ)) (above : List ℕ) (queue : Queue) → queue.index < length (seen_tails queue)
      → get_or (seen_tails queue) queue.index [] ≡ above → IsCollecting accepts s links done queue → IsCollectingAt accepts s links done above queue
  collecting_at done above queue there is tails = record { there = there; is = is; tails = tails }

  -- at first

  started_right : HasRightTarget s → Further [] ([] ∷ []) 0 0
  started_right right =
      started (issuers_above s links) ascending (IsTail accepts s) (IsFurther accepts s []) (leads []) (start_is_tail accepts s right)

  started_none : ¬ HasRightTarget s → Further [] [] 0 0
  started_none wrong = record {
    right = λ k d h. absurd (omega arith);
    ordered = λ i j d less h. absurd (omega arith);
    grown = λ h. absurd (omega arith);
    waiting = λ above further. absurd (wrong (target_of_tail accepts s above further.tail.right));
  }

  started_with : (tails : List (List ℕ)) → AreFirst s tails → Further [] tails 0 0
  started_with tails (inl right) = subst (λ l. Further [] l 0 0) (sym right.1) (started_right right.0)
  started_with tails (inr wrong) = subst (λ l. Further [] l 0 0) (sym wrong.1) (started_none wrong.0)

  pub collecting_first : (tails : Vec (Vec ℕ)) (queue : Queue) → AreFirst s (places_of tails) → StandsFirst tails queue → IsCollecting accepts s links [] queue
  collecting_first tails queue first is =
      subst (λ (q : Queue). IsCollecting accepts s links [] q) (sym is) (record { before = refl; tails = started_with (places_of tails) first })

  -- in the end

  pub collected : (done : List (List ℕ)) (queue : Queue) → length (seen_tails queue) ≤ queue.index → IsCollecting accepts s links done queue
      → AreAllTails accepts s (seen_tails queue)
  collected done queue past is =
      let all : seen_tails queue ≡ done = sym (take_all queue.index (seen_tails queue) past) ∙ is.before in record {
        right = is.tails.right;
        ordered = is.tails.ordered;
        all = λ above tail none.
            ended (issuers_above s links) ascending (IsTail accepts s) (IsFurther accepts s done) (leads done) (seen_tails queue) queue.index queue.tried past is.tails
            above (record { tail = tail; other = subst (λ (l : List (List ℕ)). All (λ t. t ≢ above) l) all none });
      }

-- the first of the longest

module _ (accepts : Accepts) (s : Search) (tails : List (List ℕ)) (are : AreAllTails accepts s tails) (at : ℕ) (best : IsFirstLongest tails at) where
  abbrev longest : List ℕ
  longest = list_at tails at

  same_at : (k : ℕ) (d : List ℕ) → k < length tails → get_or tails k d ≡ list_at tails k
  same_at k d h = get_or_default tails k d [] h

  -- one that stands before it at its length is none of them
  none_before : (other : List ℕ) → at < length tails → length other ≡ length longest → ArePlacesBefore other longest → (k : ℕ) → k < length tails → list_at tails k ≢ other
  none_before other there size before k h same =
      elim (cases_order k at) [
        | inl e ↦ tail_not_before other (inr (refl, subst (λ (l : List ℕ). ArePlacesBefore other l) (ap (λ n. list_at tails n) (sym e) ∙ same) before))
        | inr o ↦ elim o [
          | inl earlier ↦ omega (arith, best.first k earlier, ap (λ l. length l) same)
          | inr later ↦
              let after : IsTailBefore longest other = subst (λ (l : List ℕ). IsTailBefore longest l) same (are.ordered at k [] later h) in
              tail_not_before other (tail_before_trans other longest other (inr (size, before)) after)
        ]
      ]

  pub furthest : 0 < length tails → IsFurthest accepts s longest
  furthest some = record {
    tail = are.right at [] (best.there some);
    longest = λ other tail. elim (cases_lt (length longest) (length other)) [
      | inl longer ↦
          absurd (are.all other tail (λ k d h same. omega (arith, longer, best.longest k h, ap (λ l. length l) (sym (same_at k d h) ∙ same))))
      | inr short ↦ short
    ];
    first = λ other tail size before. are.all other tail (λ k d h same. none_before other (best.there some) size before k h (sym (same_at k d h) ∙ same));
  }

-- the longer one of the longest so far and one more
pub longest_none : (lists : List (List ℕ)) → IsFirstLongestBefore 0 lists 0
longest_none lists = record {
  there = λ some. absurd (omega arith);
  start = λ none. refl;
  longest = λ k h. absurd (omega arith);
  first = λ k h. absurd (omega arith);
}

longest_new : (lists : List (List ℕ)) (bound at : ℕ) → IsFirstLongestBefore bound lists at → length (list_at lists at) < length (list_at lists bound)
    → IsFirstLongestBefore (bound + 1) lists bound
longest_new lists bound at was longer = record {
  there = λ some. omega arith;
  start = λ none. absurd (omega arith);
  longest = λ k h. elim (cases_order k bound) [
    | inl e ↦ omega (arith, ap (λ n. length (list_at lists n)) e)
    | inr o ↦ elim o [ inl earlier ↦ omega (arith, was.longest k earlier, longer) | inr later ↦ absurd (omega arith) ]
  ];
  first = λ k h. omega (arith, was.longest k h, longer);
}

longest_old : (lists : List (List ℕ)) (bound at : ℕ) → IsFirstLongestBefore bound lists at → length (list_at lists bound) ≤ length (list_at lists at)
    → IsFirstLongestBefore (bound + 1) lists at
longest_old lists bound at was short = record {
  there = λ some. elim (cases_order bound 0) [
    | inl e ↦ omega (arith, was.start e)
    | inr o ↦ elim o [ inl less ↦ absurd (omega arith) | inr more ↦ omega (arith, was.there more) ]
  ];
  start = λ none. absurd (omega arith);
  longest = λ k h. elim (cases_order k bound) [
    | inl e ↦ omega (arith, short, ap (λ n. length (list_at lists n)) e)
    | inr o ↦ elim o [ inl earlier ↦ was.longest k earlier | inr later ↦ absurd (omega arith) ]
  ];
  first = was.first;
}

pub longest_more : (lists : List (List ℕ)) (bound at new : ℕ) → IsFirstLongestBefore bound lists at → IsLonger lists at bound new
    → IsFirstLongestBefore (bound + 1) lists new
longest_more lists bound at new was (inl longer) = subst (IsFirstLongestBefore (bound + 1) lists) (sym longer.1) (longest_new lists bound at was longer.0)
longest_more lists bound at new was (inr short) = subst (IsFirstLongestBefore (bound + 1) lists) (sym short.1) (longest_old lists bound at was short.0)

-- a right target is a tail
pub some_tails : (accepts : Accepts) (s : Search) (tails : List (List ℕ)) → AreAllTails accepts s tails → HasRightTarget s → 0 < length tails
some_tails accepts s [] are right = absurd (are.all [] (start_is_tail accepts s right) (λ k d h same. omega (arith, h)))
some_tails accepts s (tail ∷ tails) are right = omega arith

pub furthest_of : (accepts : Accepts) (s : Search) (tails : Vec (Vec ℕ)) (lists : List (Vec ℕ)) (at : ℕ) (above : List ℕ) → lists ≡ tails.items
    → AreAllTails accepts s (places_of tails) → IsFirstLongest (lists_of lists) at → above ≡ list_at (lists_of lists) at
    → HasRightTarget s → IsFurthest accepts s above
furthest_of accepts s tails lists at above same are best is right =
    let all : AreAllTails accepts s (lists_of lists) = subst (λ (l : List (Vec ℕ)). AreAllTails accepts s (lists_of l)) (sym same) are in
    subst (λ (l : List ℕ). IsFurthest accepts s l) (sym is) (furthest accepts s (lists_of lists) all at best (some_tails accepts s (lists_of lists) all right))
