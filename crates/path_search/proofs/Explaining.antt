-- Why nobody can stand above a tail, and why a target cannot stand at the end of a path.
use Rattle.std.proofs.Common.{◌≡◌, ◌↔◌, ◌+◌, ◌<◌, ◌≤◌, ℕ, List, [], ◌∷◌, ◌++◌, Bool, true, false, not, cond, eqb, Option, Some, None, MatchOption, IsTrue, length, map, take, get_or, arith, refl, sym, ◌∙◌, subst, inl, inr}
use Rattle.std.specs.List.{All, Contains}
use Rattle.std.specs.List.Sorted.{IsStrictlyIncreasing}
use Rattle.std.proofs.lemmas.Bool.{cases_order, eq-eqb, eqb-true, false≢true}
use Rattle.std.proofs.lemmas.List.{append-nil, get_or-map, get_or_default, length_push, length-map, map-append}
use Rattle.std.proofs.lemmas.List.Elements.{All-push, Contains-push, Contains-append_left, Contains-push_cases, Contains-get_or}
use Rattle.cert.specs.Certificate.{Certificate}
use Rattle.cert.specs.NameConstraints.{NameConstraints}
use Rattle.path.specs.Query.{Accepts}
use Rattle.path.specs.Conditions.{ConstrainNoOtherForm, ExcludeNoName, IsNamedByIssuer, IsSignedByIssuer, PermitNames}
use Rattle.path.specs.declared.reason.Reason.{Reason}
use Rattle.path.specs.declared.reason.Reason.TheVariants.{Repeated, Signature, NotYet, Expired, Issuer, NotPermitted, Excluded, ConstraintForm, NotCa, PathLength, KeyCertSign, Policy, CriticalUnknown, Purpose, Empty, TooLong, NoValidPolicy, AnyPolicyMapped, NoUserPolicy}
use Rattle.path_issuers.specs.Search.{Search, path_down_to}
use Rattle.path_issuers.specs.Factors.{AdmitNames, AdmitNamesBelow, HoldsOfNamed, IsRightAbove, Issues}
use Rattle.path_issuers.specs.Asking.{ArePicked}
use Rattle.path_search.specs.Collecting.{IsFurthest}
use Rattle.path_issuers.specs.Links.{anchor_at, certificate_at}
use Rattle.path_issuers.specs.Lists.{list_at}
use Rattle.path_issuers.specs.Upward.{AreSigners}
use Rattle.path_search.specs.Walk.{HasRightTarget, IsTail, top_of}
use Rattle.path_search.specs.Obstacles.{AreUnmetAt, MeetsBySigners, obstacle_of}
use Rattle.path_search.specs.WhyNot.{AreObstacles, AreThePlaces, IsAnchorInTheWay, IsFirstUnmet, IsNamedAmong, MeetsAboveTail, MeetsEach, MeetsAsTarget, NamedAnchorsAreInTheWay, TailFactors, TargetFactors, places_of_obstacles, top_certificate}
use Rattle.path_search.specs.declared.obstacles.Obstacle.{Obstacle}
use Rattle.path_search.proofs.Climbing.{issues_top, leads_to_target, right_last}
use Rattle.path_issuers.proofs.Laws.{picked_more, picked_none}
use Rattle.path_search.proofs.Ranking.{first_of, meets_by}
use Rattle.path_issuers.proofs.Laws.{not_longer, rises_with}
use Rattle.path_search.proofs.Walking.{grown_is_tail, is_valid, path_length}

-- a target is right exactly if it meets all conditions

meets_as_target : (s : Search) → HasRightTarget s → MeetsEach (MeetsAsTarget s.options s.moment s.purpose s.target)
meets_as_target s right Repeated = tt
meets_as_target s right Signature = tt
meets_as_target s right NotYet = right.alone.begun
meets_as_target s right Expired = right.alone.not_expired
meets_as_target s right Issuer = tt
meets_as_target s right NotPermitted = tt
meets_as_target s right Excluded = tt
meets_as_target s right ConstraintForm = tt
meets_as_target s right NotCa = tt
meets_as_target s right PathLength = tt
meets_as_target s right KeyCertSign = tt
meets_as_target s right Policy = right.alone.policy
meets_as_target s right CriticalUnknown = right.alone.known
meets_as_target s right Purpose = right.allowed
meets_as_target s right Empty = tt
meets_as_target s right TooLong = tt
meets_as_target s right NoValidPolicy = tt
meets_as_target s right AnyPolicyMapped = tt
meets_as_target s right NoUserPolicy = tt

pub target_factors : TargetFactors
target_factors s = (
  meets_as_target s,
  λ meets. record {
    alone = record { begun = meets NotYet; not_expired = meets Expired; policy = meets Policy; known = meets CriticalUnknown };
    allowed = meets Purpose;
  },
)

-- names, in all three respects at once

hold_all : (P Q R T : Certificate → Type 0) → ((c : Certificate) → P c → Q c → R c → T c) → (cs : List Certificate)
    → HoldsOfNamed P cs → HoldsOfNamed Q cs → HoldsOfNamed R cs → HoldsOfNamed T cs
hold_all P Q R T f [] p q r = tt
hold_all P Q R T f (c ∷ []) p q r = f c p q r
hold_all P Q R T f (c ∷ d ∷ cs) p q r = ((λ other. f c (p.0 other) (q.0 other) (r.0 other)), hold_all P Q R T f (d ∷ cs) p.1 q.1 r.1)

hold_each : (P T : Certificate → Type 0) → ((c : Certificate) → T c → P c) → (cs : List Certificate) → HoldsOfNamed T cs → HoldsOfNamed P cs
hold_each P T f [] t = tt
hold_each P T f (c ∷ []) t = f c t
hold_each P T f (c ∷ d ∷ cs) t = ((λ other. f c (t.0 other)), hold_each P T f (d ∷ cs) t.1)

-- an obstacle's place is among the places of all
contains_place : (obstacles : List Obstacle) (k : ℕ) (d : Obstacle) → k < length obstacles → Contains (places_of_obstacles obstacles) (get_or obstacles k d).place
contains_place obstacles k d h =
    let place : Obstacle → ℕ = λ o. o.place in
    subst (λ (n : ℕ). Contains (map place obstacles) n) (get_or-map place obstacles k d 0 h)
    (Contains-get_or (map place obstacles) k 0 (omega (arith, h, length-map obstacles place)))

module _ (accepts : Accepts) (s : Search) (above : List ℕ) where
  abbrev path : List Certificate
  path = path_down_to s.target s.bag above

  abbrev top : Certificate
  top = top_certificate s above

  abbrev Meets : ℕ → Reason → Type 0
  Meets place = MeetsAboveTail accepts s above place

  -- a certificate that meets all conditions makes a longer tail
  pub longer_tail : (place : ℕ) → IsTail accepts s above → IsNamedAmong s.bag top place → MeetsEach (Meets place) → IsTail accepts s (above ++ place ∷ [])
  longer_tail place tail named meets =
      let c = certificate_at s place in
      let room : length path < 128 = meets TooLong in
      grown_is_tail accepts s above place tail (omega (arith, room, path_length accepts s above))
      (record {
        there = named.there;
        authority = record {
          alone = record { begun = meets NotYet; not_expired = meets Expired; policy = meets Policy; known = meets CriticalUnknown };
          ca = meets NotCa;
          may_sign = meets KeyCertSign;
        };
        issues = record {
          named = subst (λ (x : Certificate). IsNamedByIssuer top x.subject) (get_or_default s.bag place top s.target named.there) named.named;
          signed = meets Signature;
        };
      })
      (record {
        there = named.there;
        fits = record {
          different = meets Repeated;
          length = meets PathLength;
          names = hold_all (PermitNames c) (ExcludeNoName c)
              (ConstrainNoOtherForm c) (AdmitNames c)
              (λ x permitted not_excluded processed. record { permitted = permitted; not_excluded = not_excluded; processed = processed }) path
              (meets NotPermitted) (meets Excluded) (meets ConstraintForm);
        };
      })

  names_meet : (c : Certificate) (P : Certificate → Certificate → Type 0)
      → ((x : Certificate) → AdmitNames c x → P c x)
      → AdmitNamesBelow c path → HoldsOfNamed (P c) path
  names_meet c P f names = hold_each (P c) (AdmitNames c) f path names

  meets_if_right : (place : ℕ) → length path < 128 → IsRightAbove s.options accepts s.moment (certificate_at s place) path
      → Issues accepts (certificate_at s place) top → MeetsEach (Meets place)
  meets_if_right place room right issues Repeated = right.different
  meets_if_right place room right issues Signature = issues.signed
  meets_if_right place room right issues NotYet = right.authority.alone.begun
  meets_if_right place room right issues Expired = right.authority.alone.not_expired
  meets_if_right place room right issues Issuer = tt
  meets_if_right place room right issues NotPermitted = names_meet (certificate_at s place) PermitNames (λ x admit. admit.permitted) right.names
  meets_if_right place room right issues Excluded = names_meet (certificate_at s place) ExcludeNoName (λ x admit. admit.not_excluded) right.names
  meets_if_right place room right issues ConstraintForm = names_meet (certificate_at s place) ConstrainNoOtherForm (λ x admit. admit.processed) right.names
  meets_if_right place room right issues NotCa = right.authority.ca
  meets_if_right place room right issues PathLength = right.length
  meets_if_right place room right issues KeyCertSign = right.authority.may_sign
  meets_if_right place room right issues Policy = right.authority.alone.policy
  meets_if_right place room right issues CriticalUnknown = right.authority.alone.known
  meets_if_right place room right issues Purpose = tt
  meets_if_right place room right issues Empty = tt
  meets_if_right place room right issues TooLong = room
  meets_if_right place room right issues NoValidPolicy = tt
  meets_if_right place room right issues AnyPolicyMapped = tt
  meets_if_right place room right issues NoUserPolicy = tt

  pub meets_in_tail : (place : ℕ) → IsTail accepts s (above ++ place ∷ []) → MeetsEach (Meets place)
  meets_in_tail place tail =
      let short = tail.short in
      let right = right_last accepts s above place tail.right.right in
      meets_if_right place (omega (arith, short, path_length accepts s above, length_push above place)) right
      (issues_top accepts s (certificate_at s place) above right.issues)

  -- what stands in the way above a tail that got furthest

  module _ (signers : List (List ℕ)) (are : AreSigners accepts s signers) (furthest : IsFurthest accepts s above) where
    abbrev signed_by : List ℕ
    signed_by = list_at signers (top_of (length s.bag) above)

    -- one that is named is among those who issued the top exactly if its key accepts the signature
    signs : (place : ℕ) → IsNamedAmong s.bag top place
        → Contains signed_by place ↔ IsSignedByIssuer accepts top (certificate_at s place).key_info.value.octets
    signs place named = (
      λ among. (are.each (top_of (length s.bag) above) place among).issues.signed,
      λ signed. are.all (top_of (length s.bag) above) place (leads_to_target accepts s above furthest.tail.right) record {
        there = named.there;
        issues = record {
          named = subst (λ (x : Certificate). IsNamedByIssuer top x.subject) (get_or_default s.bag place top s.target named.there) named.named;
          signed = signed;
        };
      },
    )

    not_all : (place : ℕ) → IsNamedAmong s.bag top place → ¬ MeetsEach (MeetsBySigners s above signed_by place)
    not_all place named meets =
        let f = signs place named in
        let tail = longer_tail place furthest.tail named (λ r. meets_by s.options (Contains signed_by place)
        (IsSignedByIssuer accepts top (certificate_at s place).key_info.value.octets) f.0 s.moment (certificate_at s place) path r (meets r)) in
        omega (arith, furthest.longest (above ++ place ∷ []) tail, length_push above place)

    pub are_obstacles : (places : List ℕ) (obstacles : List Obstacle) → AreThePlaces (IsNamedAmong s.bag top) places
        → AreUnmetAt s above signed_by places obstacles → AreObstacles accepts s above obstacles
    are_obstacles places obstacles named unmet = record {
      places = record {
        each = λ place among. named.each place (unmet.places.pass place among).0;
        all = λ place is. unmet.places.all place (named.all place is) (not_all place is);
        ascending = unmet.places.ascending named.ascending;
      };
      reasons = λ k d h.
          let o = get_or obstacles k d in
          let among = contains_place obstacles k d h in
          let f = signs o.place (named.each o.place (unmet.places.pass o.place among).0) in
          first_of (MeetsBySigners s above signed_by o.place) (Meets o.place)
          (meets_by s.options (Contains signed_by o.place) (IsSignedByIssuer accepts top (certificate_at s o.place).key_info.value.octets) f.0 s.moment (certificate_at s o.place) path)
          (meets_by s.options (IsSignedByIssuer accepts top (certificate_at s o.place).key_info.value.octets) (Contains signed_by o.place) f.1 s.moment (certificate_at s o.place) path)
          o.reason (unmet.reasons k d h);
    }

pub tail_factors : TailFactors
tail_factors accepts s above place tail named = (meets_in_tail accepts s above place, longer_tail accepts s above place tail named)

-- anchors

module _ (accepts : Accepts) (s : Search) (c : Certificate) where
  name_of_anchor : (anchor : ℕ) → IsNamedAmong s.anchors c anchor → IsNamedByIssuer c (anchor_at s anchor).subject
  name_of_anchor anchor named =
      subst (λ (x : Certificate). IsNamedByIssuer c x.subject) (get_or_default s.anchors anchor c s.target named.there) named.named

  pub anchors_left : (named issued left : List ℕ) → AreThePlaces (IsNamedAmong s.anchors c) named
      → ArePicked (λ anchor. Issues accepts (anchor_at s anchor) c) named issued → ArePicked (λ place. ¬ Contains issued place) named left
      → AreThePlaces (IsAnchorInTheWay accepts s c) left
  anchors_left named issued left are picked others = record {
    each = λ anchor among.
        let pass = others.pass anchor among in
        let is = are.each anchor pass.0 in record {
          named = is;
          unsigned = λ signed. pass.1 (picked.all anchor pass.0 (record { named = name_of_anchor anchor is; signed = signed }));
        };
    all = λ anchor way. others.all anchor (are.all anchor way.named) (λ among. way.unsigned (picked.pass anchor among).1.signed);
    ascending = others.ascending are.ascending;
  }

-- if no candidate is valid, each one that is named is in the way
pub named_anchors : NamedAnchorsAreInTheWay
named_anchors accepts s stuck is none anchor named =
    is.anchors.all anchor record {
      named = named;
      unsigned = λ signed.
          none (record { anchor = anchor; above = stuck.above.items })
          (is_valid accepts s (record { anchor = anchor; above = stuck.above.items }) is.furthest.tail (record {
            there = named.there;
            issues = record { named = name_of_anchor accepts s (top_certificate s stuck.above.items) anchor named; signed = signed };
          }));
    }

-- places in order that pass a test, up to a bound

pub record IsListed (P : ℕ → Type 0) (bound : ℕ) (places : List ℕ) : Type 0 where
  pub each : (place : ℕ) → Contains places place → (place < bound) × P place
  pub all : (place : ℕ) → place < bound → P place → Contains places place
  pub ascending : IsStrictlyIncreasing places

module _ (P : ℕ → Type 0) where
  pub listed_none : IsListed P 0 []
  listed_none = record {
    each = λ place among. absurd (omega (arith, among.1));
    all = λ place before p. absurd (omega arith);
    ascending = λ k within. absurd (omega arith);
  }

  listed_another : (bound : ℕ) (places : List ℕ) → P bound → IsListed P bound places → IsListed P (bound + 1) (places ++ bound ∷ [])
  listed_another bound places passes was = record {
    each = λ place among. elim (Contains-push_cases places bound place among) [
      | inl before ↦ let old = was.each place before in (let less = old.0 in omega arith, old.1)
      | inr same ↦ (omega (arith, same), subst P same passes)
    ];
    all = λ place before p. elim (cases_order place bound) [
      | inl e ↦ subst (λ (n : ℕ). Contains (places ++ bound ∷ []) n) (sym e) (Contains-push places bound)
      | inr o ↦ elim o [
        | inl less ↦ Contains-append_left places (bound ∷ []) place (was.all place less p)
        | inr more ↦ absurd (omega arith)
      ]
    ];
    ascending = rises_with places bound was.ascending (λ place among. (was.each place among).0);
  }

  listed_no_other : (bound : ℕ) (places : List ℕ) → ¬ P bound → IsListed P bound places → IsListed P (bound + 1) places
  listed_no_other bound places fails was = record {
    each = λ place among. let old = was.each place among in (let less = old.0 in omega arith, old.1);
    all = λ place before p. elim (cases_order place bound) [
      | inl e ↦ absurd (fails (subst P e p))
      | inr o ↦ elim o [ inl less ↦ was.all place less p | inr more ↦ absurd (omega arith) ]
    ];
    ascending = was.ascending;
  }

  listed_by : (bound : ℕ) (places : List ℕ) (passes : Bool) → (IsTrue passes ↔ P bound) → IsListed P bound places
      → IsListed P (bound + 1) (cond passes (places ++ bound ∷ []) places)
  listed_by bound places true decides was = listed_another bound places (decides.0 refl) was
  listed_by bound places false decides was = listed_no_other bound places (λ p. false≢true (decides.1 p)) was

  pub listed_more : (bound : ℕ) (places new : List ℕ) (passes : Bool) → (IsTrue passes ↔ P bound) → new ≡ cond passes (places ++ bound ∷ []) places
      → IsListed P bound places → IsListed P (bound + 1) new
  listed_more bound places new passes decides is was = subst (λ (xs : List ℕ). IsListed P (bound + 1) xs) (sym is) (listed_by bound places passes decides was)

pub are_the_places : (P : ℕ → Type 0) (bound : ℕ) (places : List ℕ) → ((place : ℕ) → P place → place < bound) → IsListed P bound places → AreThePlaces P places
are_the_places P bound places within listed = record {
  each = λ place among. (listed.each place among).1;
  all = λ place p. listed.all place (within place p) p;
  ascending = listed.ascending;
}

-- one place more was asked for its first unmet condition

module _ (s : Search) (above signers : List ℕ) where
  abbrev Asked : ℕ → Reason → Type 0
  Asked place = MeetsBySigners s above signers place

  abbrev Fails : ℕ → Type 0
  Fails place = ¬ MeetsEach (Asked place)

  is_some : Option Reason → Bool
  is_some None = false
  is_some (Some r) = true

  fails : (place : ℕ) (unmet : Option Reason) → MatchOption unmet (MeetsEach (Asked place)) (IsFirstUnmet (Asked place)) → IsTrue (is_some unmet) ↔ Fails place
  unfolding is_some
  fails place None all = (λ t. absurd (false≢true t), λ no. absurd (no all))
  fails place (Some r) first = (λ t all. first.broken (all r), λ no. refl)

  places_more : (place : ℕ) (obstacles : List Obstacle) (unmet : Option Reason)
      → places_of_obstacles (obstacles ++ obstacle_of place unmet) ≡ cond (is_some unmet) (places_of_obstacles obstacles ++ place ∷ []) (places_of_obstacles obstacles)
  unfolding is_some
  places_more place obstacles None = map-append (λ (o : Obstacle). o.place) obstacles [] ∙ append-nil (places_of_obstacles obstacles)
  places_more place obstacles (Some r) = map-append (λ (o : Obstacle). o.place) obstacles (record { place = place; reason = r } ∷ [])

  reasons_more : (place : ℕ) (obstacles : List Obstacle) (unmet : Option Reason) → MatchOption unmet (MeetsEach (Asked place)) (IsFirstUnmet (Asked place))
      → All (λ (o : Obstacle). IsFirstUnmet (Asked o.place) o.reason) obstacles
      → All (λ (o : Obstacle). IsFirstUnmet (Asked o.place) o.reason) (obstacles ++ obstacle_of place unmet)
  reasons_more place obstacles None all each = subst (λ (l : List Obstacle). All (λ (o : Obstacle). IsFirstUnmet (Asked o.place) o.reason) l) (sym (append-nil obstacles)) each
  reasons_more place obstacles (Some r) first each =
      All-push (λ (o : Obstacle). IsFirstUnmet (Asked o.place) o.reason) obstacles (record { place = place; reason = r }) each first

  pub unmet_more : (places : List ℕ) (i : ℕ) → i < length places → (old new : List Obstacle) (unmet : Option Reason)
      → MatchOption unmet (MeetsEach (Asked (get_or places i 0))) (IsFirstUnmet (Asked (get_or places i 0)))
      → new ≡ old ++ obstacle_of (get_or places i 0) unmet → AreUnmetAt s above signers (take i places) old
      → AreUnmetAt s above signers (take (i + 1) places) new
  unmet_more places i within old new unmet says is was =
      subst (λ (l : List Obstacle). AreUnmetAt s above signers (take (i + 1) places) l) (sym is) record {
        places = picked_more Fails places i within (places_of_obstacles old) (places_of_obstacles (old ++ obstacle_of (get_or places i 0) unmet)) (is_some unmet)
            (fails (get_or places i 0) unmet says) (places_more (get_or places i 0) old unmet) was.places;
        reasons = reasons_more (get_or places i 0) old unmet says was.reasons;
      }

  pub unmet_none : AreUnmetAt s above signers [] []
  unmet_none = record { places = picked_none Fails; reasons = λ k d h. absurd (omega arith) }

-- truth values

pub not_says : {P : Type 0} (b : Bool) → (IsTrue b ↔ P) → IsTrue (not b) ↔ ¬ P
not_says true f = (λ t. absurd (false≢true t), λ no. absurd (no (f.0 refl)))
not_says false f = (λ t p. false≢true (f.1 p), λ no. refl)

pub eqb_decides : (a b : ℕ) → (eqb a b ≡ true) ↔ (a ≡ b)
eqb_decides a b = (eqb-true a b, eq-eqb a b)

-- who has a name is one of all
pub named_no_more : (certificates : List Certificate) (c : Certificate) (places : List ℕ) → AreThePlaces (IsNamedAmong certificates c) places
    → length places ≤ length certificates
named_no_more certificates c places are = not_longer (length certificates) places are.ascending (λ place among. (are.each place among).there)
