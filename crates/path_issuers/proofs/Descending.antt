-- What is known on the way from the anchors downward.
use Rattle.std.proofs.Common.{◌≡◌, ◌≢◌, ◌⊎◌, ◌<◌, ◌≤◌, ◌+◌, ◌*◌, ℕ, List, [], ◌∷◌, ◌++◌, Option, Some, None, Result, Ok, Err, length, set, arith, ap, sym, ◌∙◌, subst, inl, inr, vec_len, IfOk, IfSome, length-append, get_or-set_same, get_or-set_other}
use Rattle.std.specs.List.{Contains}
use Rattle.std.specs.List.Sorted.{IsStrictlyIncreasing}
use Rattle.std.proofs.lemmas.Bool.{cases_lt}
use Rattle.std.proofs.lemmas.List.{length-set}
use Rattle.std.proofs.Math.ListN.{get_or-append, get_or-eq_default}
use Rattle.std.proofs.Math.Nat.{mul-le-mul_right}
use Rattle.std.proofs.Math.Seq.{get_or-append_seam}
use Rattle.path.specs.Query.{Accepts}
use Rattle.path_issuers.specs.Asking.{ArePicked, AreAnchors, AreIssuedBy, AreReached, AllWait, IsDescending, IsSought, IsStarting, IsWithin, SeesEach}
use Rattle.path_issuers.specs.Factors.{IsRightAsAuthority}
use Rattle.path_issuers.specs.Frontier.{Grows, IsDone, IsSeen, Takes, Waits, left_of}
use Rattle.path_issuers.specs.Links.{IsAnchor, IsIssuer, certificate_at}
use Rattle.path_issuers.specs.Lists.{list_at}
use Rattle.path_issuers.specs.Naming.{IsNaming, IsUseful, anchors_naming, named_by}
use Rattle.path_issuers.specs.Search.{Search}
use Rattle.path_issuers.specs.declared.asking.Sought.TheVariants.{AnchorsOf, IssuedBy}
use Rattle.path_issuers.specs.declared.frontier.Frontier.{Frontier}
use Rattle.path_issuers.specs.declared.naming.Naming.{Naming}
use Rattle.path_issuers.proofs.Reaching.{same_places, seen_before, seen_after}
use Rattle.path_issuers.proofs.Rising.{same_or_not, not_longer}

-- what is found may be said in other words

pub if_found : {X E : Type 0} (P Q : X → Type 0) → ((x : X) → P x → Q x) → (r : Result (Option X) E) → IfOk r (λ found. IfSome found P)
    → IfOk r (λ found. IfSome found Q)
if_found P Q says (Ok (Some x)) h = says x h
if_found P Q says (Ok None) h = h
if_found P Q says (Err e) h = h

pub within_more : {X E : Type 0} (few many old new : ℕ) → few ≤ many → (r : Result (Option X) E) → IfOk r (λ found. IsWithin few old new found)
    → IfOk r (λ found. IsWithin many old new found)
within_more few many old new le (Ok (Some x)) h = omega arith
within_more few many old new le (Ok None) h = omega arith
within_more few many old new le (Err e) h = h

-- how many questions there are

pub row_paid : (most few below start old new : ℕ) → few ≤ most → start ≤ old + below * most → old ≤ new + few → start ≤ new + (below + 1) * most
row_paid most few below start old new le paid more = omega arith

pub row_unpaid : (most few below last start old : ℕ) → few ≤ most → below ≤ last → start ≤ old + below * most → old < few → start < (last + 1) * most
row_unpaid most few below last start old le within paid none =
    let rows : (below + 1) * most ≤ (last + 1) * most = mul-le-mul_right most (omega arith) in
    omega (arith, rows)

pub place_paid : (bag before after start old new : ℕ) → after + 1 ≡ before → start + (bag + 1) * before ≤ old + (bag + 1) * bag → old ≤ new + (bag + 1)
    → start + (bag + 1) * after ≤ new + (bag + 1) * bag
place_paid bag before after start old new e paid more =
    let expanded : start + (bag + 1) * (after + 1) ≤ old + (bag + 1) * bag = subst (λ (n : ℕ). start + (bag + 1) * n ≤ old + (bag + 1) * bag) (sym e) paid in
    omega (arith, expanded, more)

module _ (accepts : Accepts) (s : Search) (naming : Naming) (is : IsNaming s naming) where
  pub anchors_few : (below : ℕ) → length (anchors_naming naming below) ≤ length s.anchors
  anchors_few below = not_longer (length s.anchors) (anchors_naming naming below) (is.anchors_ascend below)
      (λ anchor among. is.anchors_within below anchor among)

  pub named_few : (place : ℕ) → length (named_by naming place) ≤ length s.bag + 1
  named_few place = not_longer (length s.bag + 1) (named_by naming place) (is.named_ascend place) (λ below among. is.named_within below place among)

  -- the anchors of one more certificate

  module _ (bound : ℕ) (within : bound ≤ length s.bag) (lists : List (List ℕ)) (found : List ℕ) (are : AreAnchors accepts s naming bound lists)
      (picked : ArePicked (IsSought accepts s (AnchorsOf bound)) (anchors_naming naming bound) found) where
    abbrev more : List (List ℕ)
    more = lists ++ found ∷ []

    here : (below : ℕ) → below ≡ bound → list_at more below ≡ found
    here below e = ap (λ (n : ℕ). list_at more n) (e ∙ sym are.count) ∙ get_or-append_seam lists found [] []

    elsewhere : (below : ℕ) → below ≢ bound → list_at more below ≡ list_at lists below
    elsewhere below other =
        let size : length more ≡ length lists + 1 = length-append lists (found ∷ []) in
        let count = are.count in
        elim (cases_lt below (length lists)) [
          | inl there ↦ get_or-append lists (found ∷ []) [] below there
          | inr behind ↦ get_or-eq_default more [] (omega arith) ∙ sym (get_or-eq_default lists [] behind)
        ]

    found_anchor : (below anchor : ℕ) → below ≡ bound → Contains found anchor → IsAnchor accepts s below anchor
    found_anchor below anchor e among =
        let pass = picked.pass anchor among in
        subst (λ (n : ℕ). IsAnchor accepts s n anchor) (sym e) record { there = is.anchors_within bound anchor pass.0; issues = pass.1 }

    all_found : (anchor : ℕ) → IsUseful naming bound → IsAnchor accepts s bound anchor → Contains found anchor
    all_found anchor useful issued = picked.all anchor (is.anchors bound anchor within useful issued.there issued.issues.named) issued.issues

    pub anchors_more : AreAnchors accepts s naming (bound + 1) more
    anchors_more = record {
      count = length-append lists (found ∷ []) ∙ ap (λ (n : ℕ). n + 1) are.count;
      each = λ below anchor among. elim (same_or_not below bound) [
        | inl e ↦ found_anchor below anchor e (subst (λ (xs : List ℕ). Contains xs anchor) (here below e) among)
        | inr other ↦ are.each below anchor (subst (λ (xs : List ℕ). Contains xs anchor) (elsewhere below other) among)
      ];
      all = λ below anchor before useful issued. elim (same_or_not below bound) [
        | inl e ↦ subst (λ (xs : List ℕ). Contains xs anchor) (sym (here below e))
            (all_found anchor (subst (λ (n : ℕ). IsUseful naming n) e useful) (subst (λ (n : ℕ). IsAnchor accepts s n anchor) e issued))
        | inr other ↦ subst (λ (xs : List ℕ). Contains xs anchor) (sym (elsewhere below other)) (are.all below anchor (omega arith) useful issued)
      ];
      ascending = λ below. elim (same_or_not below bound) [
        | inl e ↦ subst (λ (xs : List ℕ). IsStrictlyIncreasing xs) (sym (here below e)) (picked.ascending (is.anchors_ascend bound))
        | inr other ↦ subst (λ (xs : List ℕ). IsStrictlyIncreasing xs) (sym (elsewhere below other)) (are.ascending below)
      ];
    }

  -- whom one issued

  pub none_issued : (place : ℕ) (issued : List ℕ) → issued ≡ [] → ((below : ℕ) → ¬ IsIssuer accepts s below place) → AreIssuedBy accepts s naming place issued
  none_issued place issued empty none =
      subst (λ (xs : List ℕ). AreIssuedBy accepts s naming place xs) (sym empty) record {
        each = λ below among. absurd (omega (arith, among.1));
        all = λ below within useful issuer. absurd (none below issuer);
        ascending = λ k within. absurd (omega arith);
      }

  pub picked_issued : (place : ℕ) → place < length s.bag → IsRightAsAuthority s.options s.moment (certificate_at s place) → (issued : List ℕ)
      → ArePicked (IsSought accepts s (IssuedBy place)) (named_by naming place) issued → AreIssuedBy accepts s naming place issued
  picked_issued place there right issued picked = record {
    each = λ below among. let pass = picked.pass below among in (is.named_within below place pass.0, record { there = there; authority = right; issues = pass.1 });
    all = λ below within useful issuer. picked.all below (is.named below place within useful issuer.there issuer.issues.named) issuer.issues;
    ascending = picked.ascending (is.named_ascend place);
  }

-- at first

module _ (count bound : ℕ) (anchors : List (List ℕ)) where
  pub starting_none : (frontier : Frontier) → vec_len frontier.seen ≡ count → left_of frontier ≡ count → ((place : ℕ) → ¬ IsSeen frontier place) → bound ≡ 0
      → IsStarting count bound anchors frontier
  starting_none frontier size left none zero_is = record {
    size = size;
    left = left;
    seen = λ place anchor before there among. absurd (omega arith);
    wait = λ place seen. absurd (none place seen);
  }

  pub starting_more : (old new : Frontier) → IsStarting count bound anchors old → Grows old new → (bound < vec_len old.seen → IsSeen new bound)
      → IsStarting count (bound + 1) anchors new
  starting_more old new was grows sees = record {
    size = grows.count ∙ was.size;
    left = grows.left ∙ was.left;
    seen = λ place anchor before there among. elim (cases_lt place bound) [
      | inl earlier ↦ grows.kept place (was.seen place anchor earlier there among)
      | inr last ↦
          let e : bound ≡ place = omega arith in
          let size = was.size in
          subst (λ (n : ℕ). IsSeen new n) e (sees (omega arith))
    ];
    wait = λ place seen. elim (grows.fresh place seen) [ inl before ↦ grows.waits place (was.wait place before) | inr waits ↦ waits ];
  }

  pub starting_same : (frontier : Frontier) → IsStarting count bound anchors frontier → list_at anchors bound ≡ []
      → IsStarting count (bound + 1) anchors frontier
  starting_same frontier was empty = record {
    size = was.size;
    left = was.left;
    seen = λ place anchor before there among. elim (cases_lt place bound) [
      | inl earlier ↦ was.seen place anchor earlier there among
      | inr last ↦
          let e : place ≡ bound = omega arith in
          let none = subst (λ (xs : List ℕ). Contains xs anchor) empty (subst (λ (n : ℕ). Contains (list_at anchors n) anchor) e among) in
          absurd (omega (arith, none.1))
    ];
    wait = was.wait;
  }

-- those that are reached

module _ (accepts : Accepts) (s : Search) (naming : Naming) (start : Frontier) where
  pub descending_first : (issued : List (List ℕ)) → vec_len start.seen ≡ length s.bag → length issued ≡ length s.bag
      → ((place : ℕ) → list_at issued place ≡ []) → AllWait start
      → IsDescending accepts s naming start start issued
  descending_first issued size count empty wait = record {
    size = size;
    count = count;
    kept = λ place seen. seen;
    each = λ below place among. let none = subst (λ (xs : List ℕ). Contains xs below) (empty place) among in absurd (omega (arith, none.1));
    all = λ below place within useful seen issuer. inr (wait place seen);
    ascending = λ place. subst (λ (xs : List ℕ). IsStrictlyIncreasing xs) (sym (empty place)) (λ k within. absurd (omega arith));
  }

  module _ (old mid new : Frontier) (place : ℕ) (issued : List (List ℕ)) (list : List ℕ) (was : IsDescending accepts s naming start old issued)
      (takes : Takes old mid place) (by_it : AreIssuedBy accepts s naming place list) (grows : Grows mid new) (sees : SeesEach list mid new) where
    abbrev after : List (List ℕ)
    after = set issued place list

    list_here : (p : ℕ) → p ≡ place → p < length s.bag → list_at after p ≡ list
    list_here p e there =
        let count = was.count in
        subst (λ (n : ℕ). list_at after n ≡ list) (sym e) (get_or-set_same issued place list [] (omega arith))

    -- behind the last place nothing is written
    list_behind : (p : ℕ) → length s.bag ≤ p → list_at after p ≡ list_at issued p
    list_behind p behind =
        let count = was.count in
        let size : length after ≡ length issued = length-set {A = List ℕ} issued place list in
        get_or-eq_default after [] (omega arith) ∙ sym (get_or-eq_default issued [] (omega arith))

    list_elsewhere : (p : ℕ) → p ≢ place → list_at after p ≡ list_at issued p
    list_elsewhere p other = get_or-set_other issued place p list [] other

    module _ (Q : ℕ → List ℕ → Type 0) where
      -- what holds of the list that is written and of all others
      of_each_list : Q place list → ((p : ℕ) → Q p (list_at issued p)) → (p : ℕ) → Q p (list_at after p)
      of_each_list one others p =
          elim (same_or_not p place) [
            | inr other ↦ subst (λ (xs : List ℕ). Q p xs) (sym (list_elsewhere p other)) (others p)
            | inl e ↦ elim (cases_lt p (length s.bag)) [
              | inl there ↦ subst (λ (xs : List ℕ). Q p xs) (sym (list_here p e there)) (subst (λ (n : ℕ). Q n list) (sym e) one)
              | inr behind ↦ subst (λ (xs : List ℕ). Q p xs) (sym (list_behind p behind)) (others p)
            ]
          ]

    each_after : (p : ℕ) → (below : ℕ) → Contains (list_at after p) below → (below < length s.bag + 1) × IsIssuer accepts s below p
    each_after =
        of_each_list (λ p xs. (below : ℕ) → Contains xs below → (below < length s.bag + 1) × IsIssuer accepts s below p)
        by_it.each (λ p below among. was.each below p among)

    mid_size : vec_len mid.seen ≡ length s.bag
    mid_size = same_places old mid takes.seen ∙ was.size

    -- the one that waits no more has whom it issued recorded and reached
    all_here : (below p : ℕ) → p ≡ place → below ≤ length s.bag → IsUseful naming below → IsIssuer accepts s below p
        → Contains (list_at after p) below × (below < length s.bag → IsSeen new below)
    all_here below p e within useful issuer =
        let among = by_it.all below within useful (subst (λ (n : ℕ). IsIssuer accepts s below n) e issuer) in
        let size = mid_size in (
          subst (λ (xs : List ℕ). Contains xs below) (sym (list_here p e issuer.there)) among,
          λ there. sees below among (omega arith),
        )

    all_after : (below p : ℕ) → below ≤ length s.bag → IsUseful naming below → IsSeen new p → IsIssuer accepts s below p
        → (Contains (list_at after p) below × (below < length s.bag → IsSeen new below)) ⊎ Waits new p
    all_after below p within useful seen issuer =
        elim (same_or_not p place) [
          | inl e ↦ inl (all_here below p e within useful issuer)
          | inr other ↦ elim (grows.fresh p seen) [
            | inr waits ↦ inr waits
            | inl before ↦ elim (was.all below p within useful (seen_before old mid p takes.seen before) issuer) [
              | inl done ↦ inl (
                subst (λ (xs : List ℕ). Contains xs below) (sym (list_elsewhere p other)) done.0,
                λ there. grows.kept below (seen_after old mid below takes.seen (done.1 there)),
              )
              | inr waited ↦ elim (takes.rest p waited) [
                | inl waits ↦ inr (grows.waits p waits)
                | inr same ↦ absurd (other (sym same))
              ]
            ]
          ]
        ]

    pub descending_next : IsDescending accepts s naming start new after
    descending_next = record {
      size = grows.count ∙ mid_size;
      count = length-set {A = List ℕ} issued place list ∙ was.count;
      kept = λ p seen. grows.kept p (seen_after old mid p takes.seen (was.kept p seen));
      each = λ below p among. each_after p below among;
      all = all_after;
      ascending = of_each_list (λ p xs. IsStrictlyIncreasing xs) by_it.ascending was.ascending;
    }

  pub descending_done : (old new : Frontier) (issued : List (List ℕ)) → IsDone old new → IsDescending accepts s naming start old issued
      → AreReached accepts s naming start issued
  descending_done old new issued done was = record {
    last = old;
    count = was.count;
    kept = was.kept;
    each = was.each;
    all = λ below place within useful seen issuer. elim
        (was.all below place within useful seen issuer) [ inl found ↦ found | inr waits ↦ absurd (done.none place waits) ];
    ascending = was.ascending;
  }
