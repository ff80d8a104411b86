-- What a walk from the target upward finds: the ends of valid candidates are right, and wait in its queue.
use Rattle.std.proofs.Common.{◌≡◌, ◌≢◌, ◌⊎◌, ℕ, zero, suc, ◌+◌, ◌-◌, ◌<◌, ◌≤◌, Bool, true, false, cond, ltb, List, [], ◌∷◌, ◌++◌, Option, Some, None, length, map, take, drop, reverse, get_or, slice_get, add-one, arith, refl, ap, subst, ◌∙◌, sym, inl, inr}
use Rattle.std.specs.List.{All, AllPairs, Contains}
use Rattle.std.specs.List.Sorted.{IsStrictlyIncreasing}
use Rattle.std.proofs.lemmas.Bool.{cases_Bool, cases_order, lt-ltb, ltb-true}
use Rattle.std.proofs.lemmas.List.{get_or_default, get_or_past, length_push, length-take-le, length-reverse, length-map, map-append, reverse-append, take-append-drop, take_more}
use Rattle.std.proofs.lemmas.List.Elements.{All-from_recursion, recursion_from_All, All-push}
use Rattle.std.proofs.lemmas.List.Kept.{AllPairs-from_increasing}
use Rattle.std.proofs.lemmas.Option.{get_or_from_slice_get, slice_get_within}
use Rattle.cert.specs.Certificate.{Certificate}
use Rattle.path.specs.Query.{Accepts}
use Rattle.path_issuers.specs.Search.{Search, Candidate, IsBefore, IsValidCandidate, certificates_at, path_down_to, query_about}
use Rattle.path_issuers.specs.Factors.{AreRight, IsRightAsAuthority, IsRightAsTarget, Issues, IssuesFirst}
use Rattle.path_search.specs.Authority.{FitsAbove}
use Rattle.path_issuers.specs.Links.{Links, AreLinks, IsIssuer, IsAnchor, LeadsUp, issuers_of, anchors_of, certificate_at, anchor_at}
use Rattle.path_search.specs.Answer.{IsRightTail, HasRightTails, IsAfter, IsNextValid, HasNoMore}
use Rattle.path_search.specs.Queue.{IsTailBefore}
use Rattle.path_search.specs.Walk.{IsTail, IsWanted, IsQueueOf, IsLast, MayStandAbove, HasTried, anchors_above, issuers_above, top_of}
use Rattle.path_issuers.proofs.Laws.{valid_path_factors, tail_is_right}
use Rattle.path_search.proofs.Tails.{reversed, tail_grows}
use Rattle.path_search.proofs.Queues.{tail_before_trans, tail_not_before, pushed_place, passed_place, turned_above, started, ended, first, narrowed, are_different}

-- the certificate at the top is the first of those down to the target

topped : (f : ℕ → Certificate) (place : ℕ) (above : List ℕ) → (rest : List Certificate) × (reverse (f place ∷ map f above) ≡ f (top_of place above) ∷ rest)
topped f place [] = ([], refl)
topped f place (next ∷ above) =
    let more = topped f next above in
    (more.0 ++ f place ∷ [], reversed (f place) (f next ∷ map f above) ∙ ap (λ l. l ++ f place ∷ []) more.1)

pub path_top : (s : Search) (above : List ℕ)
    → (rest : List Certificate) × (path_down_to s.target s.bag above ≡ certificate_at s (top_of (length s.bag) above) ∷ rest)
path_top s above =
    let top = topped (λ place. get_or s.bag place s.target) (length s.bag) above in
    let target = get_or_past s.bag (length s.bag) s.target (omega arith) in
    (top.0, ap (λ (c : Certificate). reverse (c ∷ certificates_at s.target s.bag above)) (sym target) ∙ top.1)

-- the last of the places above the target is that of the top
pub top_last : (below : ℕ) (above : List ℕ) (place : ℕ) → Some place ≡ slice_get above (length above - 1) → place ≡ top_of below above
top_last below [] place is = absurd cc
top_last below (first ∷ []) place is = cc
top_last below (first ∷ next ∷ above) place is =
    let back : length (first ∷ next ∷ above) - 1 ≡ suc (length (next ∷ above) - 1) = omega arith in
    top_last first (next ∷ above) place (is ∙ ap (λ n. slice_get (first ∷ next ∷ above) n) back)

-- what leads up from a target leads up from each front

leads_to : (links : Links) (below : ℕ) (above : List ℕ) (anchor k : ℕ) → LeadsUp links below above anchor → k < length above
    → Contains (issuers_of links (top_of below (take k above))) (get_or above k 0)
leads_to links below [] anchor k up h = absurd (omega arith)
leads_to links below (place ∷ above) anchor zero up h = up.0
leads_to links below (place ∷ above) anchor (suc k) up h = leads_to links place above anchor k up.1 (omega arith)

leads_to_anchor : (links : Links) (below : ℕ) (above : List ℕ) (anchor : ℕ) → LeadsUp links below above anchor
    → Contains (anchors_of links (top_of below above)) anchor
leads_to_anchor links below [] anchor up = up
leads_to_anchor links below (place ∷ above) anchor up = leads_to_anchor links place above anchor up.1

-- valid candidates

module _ (accepts : Accepts) (s : Search) where
  abbrev path : List ℕ → List Certificate
  path above = path_down_to s.target s.bag above

  pub path_split : (above : List ℕ) (k : ℕ) → path above ≡ reverse (certificates_at s.target s.bag (drop k above)) ++ path (take k above)
  path_split above k =
      let f : ℕ → Certificate = λ place. get_or s.bag place s.target in
      ap path (sym (take-append-drop k above))
      ∙ (ap (λ l. reverse (s.target ∷ l)) (map-append f (take k above) (drop k above))
      ∙ reverse-append (s.target ∷ map f (take k above)) (map f (drop k above)))

  pub path_some : (above : List ℕ) → path above ≢ []
  path_some above none = let top = path_top s above in cc

  front_is_right : (c : Candidate) (k : ℕ) → IsValidCandidate accepts s c → AreRight s.options accepts s.moment s.purpose (path (take k c.above))
  front_is_right c k valid =
      tail_is_right accepts (query_about s c) (reverse (certificates_at s.target s.bag (drop k c.above))) (path (take k c.above))
      valid.valid (path_split c.above k) (path_some (take k c.above))

  fits_first : (c first : Certificate) (rest : List Certificate) → AreRight s.options accepts s.moment s.purpose (c ∷ first ∷ rest) → FitsAbove c (first ∷ rest)
  fits_first c first rest right = record { different = right.0.different; length = right.0.length; names = right.0.names }

  fits : (c : Certificate) (above : List ℕ) → AreRight s.options accepts s.moment s.purpose (c ∷ path above) → FitsAbove c (path above)
  fits c above =
      let top = path_top s above in
      subst (λ l. AreRight s.options accepts s.moment s.purpose (c ∷ l) → FitsAbove c l) (sym top.1) (fits_first c (certificate_at s (top_of (length s.bag) above)) top.0)

  -- the next certificate of a valid candidate may stand above its front
  pub next_may_stand : (c : Candidate) (k : ℕ) → IsValidCandidate accepts s c → k < length c.above → MayStandAbove s (take k c.above) (get_or c.above k 0)
  next_may_stand c k valid h = record {
    there = All-from_recursion (λ place. place < length s.bag) c.above valid.candidate.above k 0 h;
    fits = fits (certificate_at s (get_or c.above k 0)) (take k c.above)
        (subst (AreRight s.options accepts s.moment s.purpose)
        (ap path (take_more c.above k 0 h) ∙ tail_grows s.target s.bag (take k c.above) (get_or c.above k 0))
        (front_is_right c (k + 1) valid));
  }

  -- a valid candidate's target is right
  pub target_is_right : (c : Candidate) → IsValidCandidate accepts s c → IsRightAsTarget s.options s.moment s.purpose s.target
  target_is_right c valid = front_is_right c 0 valid

  above_short : (c : Candidate) → IsValidCandidate accepts s c → length c.above ≤ 127
  above_short c valid =
      let f : ℕ → Certificate = λ place. get_or s.bag place s.target in
      let few = valid.valid.served.few in
      omega (arith, length-reverse (s.target ∷ map f c.above), length-map c.above f)

  -- tails

  pub start_is_tail : IsRightAsTarget s.options s.moment s.purpose s.target → IsTail accepts s []
  start_is_tail right = record { right = record { there = tt; right = right }; short = omega arith }

  right_first : (c first : Certificate) (rest : List Certificate) → IsRightAsAuthority s.options s.moment c → Issues accepts c first
      → FitsAbove c (first ∷ rest) → AreRight s.options accepts s.moment s.purpose (first ∷ rest) → AreRight s.options accepts s.moment s.purpose (c ∷ first ∷ rest)
  right_first c first rest authority issues fits all =
      (record { authority = authority; issues = issues; different = fits.different; length = fits.length; names = fits.names }, all)

  right_more : (c : Certificate) (above : List ℕ) → IsRightAsAuthority s.options s.moment c → Issues accepts c (certificate_at s (top_of (length s.bag) above))
      → FitsAbove c (path above) → AreRight s.options accepts s.moment s.purpose (path above) → AreRight s.options accepts s.moment s.purpose (c ∷ path above)
  right_more c above authority issues =
      let top = path_top s above in
      subst (λ l. FitsAbove c l → AreRight s.options accepts s.moment s.purpose l → AreRight s.options accepts s.moment s.purpose (c ∷ l)) (sym top.1)
      (right_first c (certificate_at s (top_of (length s.bag) above)) top.0 authority issues)

  -- a tail with an issuer of its top that may stand there is right
  pub grown_is_tail : (above : List ℕ) (place : ℕ) → IsTail accepts s above → length above < 127
      → IsIssuer accepts s (top_of (length s.bag) above) place → MayStandAbove s above place → IsTail accepts s (above ++ place ∷ [])
  grown_is_tail above place tail room issuer stands = record {
    right = record {
      there = recursion_from_All (λ p. p < length s.bag) (above ++ place ∷ [])
          (All-push (λ p. p < length s.bag) above place (All-from_recursion (λ p. p < length s.bag) above tail.right.there) issuer.there);
      right = subst (AreRight s.options accepts s.moment s.purpose) (sym (tail_grows s.target s.bag above place))
          (right_more (certificate_at s place) above issuer.authority issuer.issues stands.fits tail.right.right);
    };
    short = omega (arith, length_push above place);
  }

  -- with an anchor that issued its top it is a valid candidate

  issued_first : (anchor first : Certificate) (certificates rest : List Certificate) → certificates ≡ first ∷ rest → Issues accepts anchor first
      → IssuesFirst accepts anchor certificates
  issued_first anchor first certificates rest e issues = subst (IssuesFirst accepts anchor) (sym e) issues

  pub path_length : (above : List ℕ) → length (path above) ≡ length above + 1
  path_length above =
      let f : ℕ → Certificate = λ place. get_or s.bag place s.target in
      omega (arith, length-reverse (s.target ∷ map f above), length-map above f)

  pub is_valid : (c : Candidate) → IsTail accepts s c.above → IsAnchor accepts s (top_of (length s.bag) c.above) c.anchor → IsValidCandidate accepts s c
  is_valid c tail anchor =
      let top = path_top s c.above in
      let short = tail.short in record {
        candidate = record { anchor = anchor.there; above = tail.right.there };
        valid = (valid_path_factors accepts (query_about s c)).1 (
          record { some = omega (arith, path_length c.above); few = omega (arith, path_length c.above) },
          issued_first (anchor_at s c.anchor) (certificate_at s (top_of (length s.bag) c.above)) (path c.above) top.0 top.1 anchor.issues,
          tail.right.right,
        );
      }

-- the order of candidates

split_before : (one other : Candidate) → IsBefore one other → IsTailBefore one.above other.above ⊎ ((one.above ≡ other.above) × (one.anchor < other.anchor))
split_before one other (inl less) = inl (inl less)
split_before one other (inr same) = elim same.1 [ inl before ↦ inl (inr (same.0, before)) | inr equal ↦ inr equal ]

join_before : (one other : Candidate) → IsTailBefore one.above other.above ⊎ ((one.above ≡ other.above) × (one.anchor < other.anchor)) → IsBefore one other
join_before one other (inl before) = elim before [ inl less ↦ inl less | inr same ↦ inr (same.0, inl same.1) ]
join_before one other (inr equal) = inr (ap (λ l. length l) equal.0, inr equal)

before_trans : (a b c : Candidate) → IsBefore a b → IsBefore b c → IsBefore a c
before_trans a b c p q = join_before a c (elim (split_before a b p) [
  | inl one ↦ elim (split_before b c q) [
    | inl two ↦ inl (tail_before_trans a.above b.above c.above one two)
    | inr two ↦ inl (subst (λ l. IsTailBefore a.above l) two.0 one)
  ]
  | inr one ↦ elim (split_before b c q) [
    | inl two ↦ inl (subst (λ l. IsTailBefore l c.above) (sym one.0) two)
    | inr two ↦ inr (one.0 ∙ two.0, omega (arith, one.1, two.1))
  ]
])

after_trans : (last : Option Candidate) (b c : Candidate) → IsAfter last b → IsBefore b c → IsAfter last c
after_trans None b c p q = tt
after_trans (Some last) b c p q = before_trans last b c p q

-- of anchors in order those before a number were handed out

module _ (anchors above : List ℕ) (ascending : IsStrictlyIncreasing anchors) where
  not_handed : (number : ℕ) (last : Option Candidate) (other : Candidate) (m : ℕ) → IsLast anchors above number last → other.above ≡ above
      → m < number → m < length anchors → get_or anchors m 0 ≡ other.anchor → IsAfter last other → ⊥
  not_handed zero last other m is e less inside at after = omega arith
  not_handed (suc number) None other m is e less inside at after = is
  not_handed (suc number) (Some last) other m is e less inside at after =
      elim (split_before last other after) [
        | inl before ↦ tail_not_before above (subst (λ l. IsTailBefore l above) is.0 (subst (λ l. IsTailBefore last.above l) e before))
        | inr equal ↦ elim (cases_order m number) [
          | inl same ↦ omega (arith, equal.1, is.2, at, ap (λ n. get_or anchors n 0) same)
          | inr o ↦ elim o [
            | inl earlier ↦ omega (arith, equal.1, is.2, at, AllPairs-from_increasing anchors ascending m number 0 earlier is.1)
            | inr later ↦ absurd (omega arith)
          ]
        ]
      ]

  -- a lesser anchor has a lesser number
  number_less : (m number : ℕ) → m < length anchors → get_or anchors m 0 < get_or anchors number 0 → m < number
  number_less m number inside less =
      elim (cases_order m number) [
        | inl same ↦ absurd (omega (arith, less, ap (λ n. get_or anchors n 0) same))
        | inr o ↦ elim o [
          | inl earlier ↦ earlier
          | inr later ↦ absurd (omega (arith, less, AllPairs-from_increasing anchors ascending number m 0 later inside))
        ]
      ]

  -- the next one comes after the last
  next_after : (number : ℕ) (last : Option Candidate) (c : Candidate) → IsLast anchors above number last → c.above ≡ above
      → number < length anchors → get_or anchors number 0 ≡ c.anchor → IsAfter last c
  next_after number None c is e inside at = tt
  next_after zero (Some last) c is e inside at = join_before last c (inl (subst (λ l. IsTailBefore last.above l) (sym e) is))
  next_after (suc number) (Some last) c is e inside at =
      join_before last c
      (inr (is.0 ∙ sym e, omega (arith, is.2, at, AllPairs-from_increasing anchors ascending number (suc number) 0 (omega arith) inside)))

  -- at a later tail the last one is earlier
  pub last_of_later : (number : ℕ) (last : Option Candidate) (others later : List ℕ) → IsLast anchors above number last
      → IsTailBefore above later → IsLast others later 0 last
  last_of_later number None others later is before = tt
  last_of_later zero (Some last) others later is before = tail_before_trans last.above above later is before
  last_of_later (suc number) (Some last) others later is before = subst (λ l. IsTailBefore l later) (sym is.0) before

-- links that say who issued whom, in order

module _ (accepts : Accepts) (s : Search) (links : Links) (issuers : (below place : ℕ) → Contains (issuers_of links below) place → IsIssuer accepts s below place)
    (ascend : (below : ℕ) → IsStrictlyIncreasing (issuers_of links below)) where
  abbrev above_top : List ℕ → List ℕ
  above_top above = issuers_of links (top_of (length s.bag) above)

  issuers_if : (above : List ℕ) (b : Bool) → ltb (length above) 127 ≡ b → issuers_above s links above ≡ cond b (above_top above) []
  issuers_if above b e = ap (λ v. cond v (above_top above) []) e

  pub rising : (above : List ℕ) → IsStrictlyIncreasing (issuers_above s links above)
  rising above = elim (cases_Bool (ltb (length above) 127)) [
    | inl room ↦ subst IsStrictlyIncreasing (sym (issuers_if above true room)) (ascend (top_of (length s.bag) above))
    | inr full ↦ subst IsStrictlyIncreasing (sym (issuers_if above false full)) (λ k h. absurd (omega arith))
  ]

  issuer_there : (above : List ℕ) (number place : ℕ) → length above < 127 → slice_get (above_top above) number ≡ Some place
      → (length above < 127) × IsIssuer accepts s (top_of (length s.bag) above) place
  issuer_there above number place room is =
      let of = above_top above in
      (room, issuers (top_of (length s.bag) above) place (number, slice_get_within of number place is, get_or_from_slice_get of number place place is))

  -- one of the issuers above a tail issued its top, and there is room for it
  pub issuer_above : (above : List ℕ) (number place : ℕ) → slice_get (issuers_above s links above) number ≡ Some place
      → (length above < 127) × IsIssuer accepts s (top_of (length s.bag) above) place
  issuer_above above number place is = elim (cases_Bool (ltb (length above) 127)) [
    | inl room ↦
        issuer_there above number place (ltb-true (length above) 127 room)
        (subst (λ l. slice_get l number ≡ Some place) (issuers_if above true room) is)
    | inr full ↦ let none = subst (λ l. slice_get l number ≡ Some place) (issuers_if above false full) is in absurd cc
  ]

  -- who issued the top of a front is among the issuers above it
  pub among_above : (above : List ℕ) (k : ℕ) → length above ≤ 127 → k < length above → Contains (above_top (take k above)) (get_or above k 0)
      → Contains (issuers_above s links (take k above)) (get_or above k 0)
  among_above above k short h among =
      let room : length (take k above) < 127 = omega (arith, length-take-le k above (omega arith)) in
      subst (λ l. Contains l (get_or above k 0)) (sym (issuers_if (take k above) true (lt-ltb (length (take k above)) 127 room))) among

-- right tails in order, so many
pub enough_tails : (accepts : Accepts) (s : Search) (steps : ℕ) (tails : List (List ℕ)) → steps ≤ length tails → All (IsTail accepts s) tails
    → AllPairs IsTailBefore tails → HasRightTails accepts s steps
enough_tails accepts s steps tails enough right ordered = record {
  tails = tails;
  right = recursion_from_All (IsRightTail accepts s) tails (λ k d h. (right k d h).right);
  different = are_different tails ordered;
  enough = enough;
}

-- the walk over links

module _ (accepts : Accepts) (s : Search) (links : Links) (are : AreLinks accepts s links) where
  abbrev top : List ℕ → ℕ
  top above = top_of (length s.bag) above

  pub ascending : (above : List ℕ) → IsStrictlyIncreasing (issuers_above s links above)
  ascending above = rising accepts s links are.issuers are.issuers_ascend above

  leads_up : (last : Option Candidate) (above : List ℕ) (wanted : IsWanted accepts s last above) → LeadsUp links (length s.bag) above wanted.anchor
  leads_up last above wanted = are.whole (record { anchor = wanted.anchor; above = above }) wanted.valid

  leads : (last : Option Candidate) (above : List ℕ) (k : ℕ) → IsWanted accepts s last above → k < length above
      → Contains (issuers_above s links (take k above)) (get_or above k 0)
  leads last above k wanted h =
      among_above accepts s links are.issuers are.issuers_ascend above k
      (above_short accepts s (record { anchor = wanted.anchor; above = above }) wanted.valid) h
      (leads_to links (length s.bag) above wanted.anchor k (leads_up last above wanted) h)

  -- the anchor of a candidate is among those above its tail
  anchor_among : (c : Candidate) → IsValidCandidate accepts s c → Contains (anchors_above s links c.above) c.anchor
  anchor_among c valid = leads_to_anchor links (length s.bag) c.above c.anchor (are.whole c valid)

  anchor_number : (c : Candidate) (above : List ℕ) → c.above ≡ above → IsValidCandidate accepts s c
      → (m : ℕ) × (m < length (anchors_above s links above)) × (get_or (anchors_above s links above) m 0 ≡ c.anchor)
  anchor_number c above e valid =
      let among = subst (λ l. Contains (anchors_above s links l) c.anchor) e (anchor_among c valid) in
      let anchors = anchors_above s links above in
      (among.0, among.1, get_or_default anchors among.0 0 c.anchor among.1 ∙ among.2)

  -- the next place was tried

  pub started_walk : IsRightAsTarget s.options s.moment s.purpose s.target → IsQueueOf accepts s links None ([] ∷ []) 0 0
  started_walk right =
      started (issuers_above s links) ascending (IsTail accepts s) (IsWanted accepts s None) (leads None) (start_is_tail accepts s right)

  pub tried_more : (last : Option Candidate) (steps : ℕ) (above : List ℕ) (place : ℕ) (old new : List (List ℕ)) (index tried : ℕ)
      → index < length old → get_or old index [] ≡ above → slice_get (issuers_above s links above) tried ≡ Some place
      → HasTried s steps above place old new true
      → IsQueueOf accepts s links last old index tried → IsQueueOf accepts s links last new index (tried + 1)
  tried_more last steps above place old new index tried h is at (inl pushed) queue =
      let issuer = issuer_above accepts s links are.issuers are.issuers_ascend above tried place at in
      let tail : IsTail accepts s above = subst (IsTail accepts s) is (queue.right index [] h) in
      subst (λ l. IsQueueOf accepts s links last l index (tried + 1)) (sym pushed.1)
      (pushed_place (issuers_above s links) ascending (IsTail accepts s) (IsWanted accepts s last) (leads last) old index tried above place h is at
      (grown_is_tail accepts s above place tail issuer.0 issuer.1 pushed.0) queue)
  tried_more last steps above place old new index tried h is at (inr passed) queue =
      subst (λ l. IsQueueOf accepts s links last l index (tried + 1)) (sym passed.1)
      (passed_place (issuers_above s links) ascending (IsTail accepts s) (IsWanted accepts s last) (leads last) old index tried above place h is at
      (λ wanted k is_wanted shorter front next_is.
      let c : Candidate = record { anchor = is_wanted.anchor; above = wanted } in
      let stands = subst (λ l. MayStandAbove s l (get_or wanted k 0)) front (next_may_stand accepts s c k is_wanted.valid shorter) in
      passed.0 (subst (MayStandAbove s above) next_is stands)) queue)

  -- there was no room
  pub gave_up : (last : Option Candidate) (steps : ℕ) (tails : List (List ℕ)) (index tried : ℕ) → steps ≤ length tails
      → IsQueueOf accepts s links last tails index tried → HasRightTails accepts s steps
  gave_up last steps tails index tried enough queue = enough_tails accepts s steps tails enough queue.right queue.ordered

  -- each place was tried, and each anchor handed out

  unwanted : (last : Option Candidate) (above : List ℕ) (number : ℕ) → IsLast (anchors_above s links above) above number last
      → length (anchors_above s links above) ≤ number → IsWanted accepts s last above → ⊥
  unwanted last above number is all wanted =
      let c : Candidate = record { anchor = wanted.anchor; above = above } in
      let m = anchor_number c above refl wanted.valid in
      not_handed (anchors_above s links above) above (are.anchors_ascend (top above)) number last c m.0 is refl (omega (arith, m.1)) m.1 m.2 wanted.after

  pub turned_walk : (last : Option Candidate) (above : List ℕ) (number : ℕ) (tails : List (List ℕ)) (index tried : ℕ)
      → index < length tails → get_or tails index [] ≡ above → IsLast (anchors_above s links above) above number last
      → length (anchors_above s links above) ≤ number → length (issuers_above s links above) ≤ tried
      → IsQueueOf accepts s links last tails index tried → IsQueueOf accepts s links last tails (index + 1) 0
  turned_walk last above number tails index tried h is handed all grown queue =
      turned_above (issuers_above s links) ascending (IsTail accepts s) (IsWanted accepts s last) (leads last) tails index tried above h is grown
      (unwanted last above number handed all) queue

  -- nothing waits
  pub ended_walk : (last : Option Candidate) (tails : List (List ℕ)) (index tried : ℕ) → length tails ≤ index
      → IsQueueOf accepts s links last tails index tried → HasNoMore accepts s last
  ended_walk last tails index tried h queue c after valid =
      ended (issuers_above s links) ascending (IsTail accepts s) (IsWanted accepts s last) (leads last) tails index tried h queue c.above
      (record { anchor = c.anchor; valid = valid; after = after })

  -- the next anchor is handed out

  first_above : (last : Option Candidate) (number : ℕ) (c : Candidate) → IsLast (anchors_above s links c.above) c.above number last
      → number < length (anchors_above s links c.above) → get_or (anchors_above s links c.above) number 0 ≡ c.anchor
      → (other : Candidate) → IsAfter last other → IsValidCandidate accepts s other → other.above ≡ c.above → other.anchor < c.anchor → ⊥
  first_above last number c is inside at other after valid same less =
      let anchors = anchors_above s links c.above in
      let ascend = are.anchors_ascend (top c.above) in
      let m = anchor_number other c.above same valid in
      not_handed anchors c.above ascend number last other m.0 is same
      (number_less anchors c.above ascend m.0 number m.1 (omega (arith, m.2, at, less))) m.1 m.2 after

  first_walk : (last : Option Candidate) (number : ℕ) (c : Candidate) (tails : List (List ℕ)) (index tried : ℕ)
      → get_or tails index [] ≡ c.above → IsLast (anchors_above s links c.above) c.above number last
      → number < length (anchors_above s links c.above) → get_or (anchors_above s links c.above) number 0 ≡ c.anchor
      → IsQueueOf accepts s links last tails index tried
      → (other : Candidate) → IsAfter last other → IsBefore other c → IsValidCandidate accepts s other → ⊥
  first_walk last number c tails index tried here is inside at queue other after before valid =
      let from = subst (λ l. (l ≡ other.above) ⊎ IsTailBefore l other.above) here
      (first (issuers_above s links) ascending (IsTail accepts s) (IsWanted accepts s last) (leads last) tails index tried queue other.above
      (record { anchor = other.anchor; valid = valid; after = after })) in
      elim (split_before other c before) [
        | inl earlier ↦ elim from [
          | inl same ↦ tail_not_before c.above (subst (λ l. IsTailBefore l c.above) (sym same) earlier)
          | inr later ↦ tail_not_before c.above (tail_before_trans c.above other.above c.above later earlier)
        ]
        | inr equal ↦ first_above last number c is inside at other after valid equal.0 equal.1
      ]

  pub handed_out : (last : Option Candidate) (number : ℕ) (c : Candidate) (tails : List (List ℕ)) (index tried : ℕ)
      → index < length tails → get_or tails index [] ≡ c.above → IsLast (anchors_above s links c.above) c.above number last
      → slice_get (anchors_above s links c.above) number ≡ Some c.anchor
      → IsQueueOf accepts s links last tails index tried → IsNextValid accepts s last c
  handed_out last number c tails index tried h here is at queue =
      let anchors = anchors_above s links c.above in
      let inside = slice_get_within anchors number c.anchor at in
      let tail : IsTail accepts s c.above = subst (IsTail accepts s) here (queue.right index [] h) in
      let anchor = are.anchors (top c.above) c.anchor (number, inside, get_or_from_slice_get anchors number c.anchor c.anchor at) in
      let value = get_or_from_slice_get anchors number c.anchor 0 at in record {
        valid = is_valid accepts s c tail anchor;
        after = next_after anchors c.above (are.anchors_ascend (top c.above)) number last c is refl inside value;
        first = first_walk last number c tails index tried here is inside value queue;
      }

  -- behind it wait those that come after it
  pub behind_it : (last : Option Candidate) (c : Candidate) (tails : List (List ℕ)) (index tried : ℕ) → IsAfter last c
      → IsQueueOf accepts s links last tails index tried → IsQueueOf accepts s links (Some c) tails index tried
  behind_it last c tails index tried after queue =
      narrowed (issuers_above s links) ascending (IsTail accepts s) (IsWanted accepts s last) (leads last) (IsWanted accepts s (Some c))
      (λ above wanted. record {
        anchor = wanted.anchor;
        valid = wanted.valid;
        after = after_trans last c (record { anchor = wanted.anchor; above = above }) after wanted.after;
      }) tails index tried queue

  pub last_is : (c : Candidate) (number : ℕ) → slice_get (anchors_above s links c.above) number ≡ Some c.anchor
      → IsLast (anchors_above s links c.above) c.above (number + 1) (Some c)
  last_is c number at =
      let anchors = anchors_above s links c.above in
      subst (λ n. IsLast anchors c.above n (Some c)) (sym (add-one number))
      (refl, slice_get_within anchors number c.anchor at, sym (get_or_from_slice_get anchors number c.anchor 0 at))
