-- Verifiers that answer the questions about a search alike say the same of why no path is found.
use Rattle.std.proofs.Common.{◌<◌, ◌↔◌, inl, inr, ℕ, ℤ, List, Option, Some, None, length, map, get_or, sym, ◌∙◌, subst, arith}
use Rattle.std.specs.List.{Contains}
use Rattle.std.proofs.lemmas.List.{get_or-map, get_or_default, length-map}
use Rattle.std.proofs.lemmas.List.Elements.{Contains-get_or}
use Rattle.cert.specs.Certificate.{Certificate}
use Rattle.path.specs.Conditions.{IsNamedByIssuer, IsSignedByIssuer}
use Rattle.path.specs.declared.options.Options.{Options}
use Rattle.path.specs.Query.{Accepts}
use Rattle.path.specs.declared.reason.Reason.{Reason}
use Rattle.path.specs.declared.reason.Reason.TheVariants.{Repeated, Signature, NotYet, Expired, Issuer, NotPermitted, Excluded, ConstraintForm, NotCa, PathLength, KeyCertSign, Policy, CriticalUnknown, Purpose, Empty, TooLong, NoValidPolicy, AnyPolicyMapped, NoUserPolicy}
use Rattle.path_issuers.specs.Links.{anchor_at, certificate_at}
use Rattle.path_issuers.specs.Search.{Search, path_down_to}
use Rattle.path_issuers.specs.declared.question.Issuer.TheVariants as of
use Rattle.path_search.specs.Answer.{HasRightTails, IsRightTail}
use Rattle.path_search.specs.Collecting.{IsFurthest}
use Rattle.path_search.specs.Walk.{IsTail, top_of}
use Rattle.path_search.specs.WhyNot.{IsAnchorInTheWay, IsFirstUnmet, IsNamedAmong, IsStuck, IsWhyNot, MeetsAbove, MeetsAboveTail, places_of_obstacles, top_certificate}
use Rattle.path_search.specs.declared.answer.Budget.{Budget}
use Rattle.path_search.specs.declared.diagnosis.Stuck.{Stuck}
use Rattle.path_search.specs.declared.diagnosis.WhyNot.{WhyNot}
use Rattle.path_search.specs.declared.diagnosis.WhyNot.TheVariants as why
use Rattle.path_search.specs.declared.obstacles.Obstacle.{Obstacle}
use Rattle.relying_questions.specs.Agreement.{WhyNotPrintsDecide, WhyNotQuestionsDecide}
use Rattle.relying_questions.proofs.FindingAlike.{each_too, pairs_alike}
use Rattle.relying_questions.proofs.Alike.{each_alike, turned}
use Rattle.relying_questions.proofs.Pairs.{leads_to_target}
use Rattle.relying_questions.proofs.Prints.{alike}
use Rattle.relying_questions.proofs.Tails.{PairsAlike, tail_too}

-- the conditions, by another answer to whether the top is signed
module _ (options : Options) (A B : Type 0) (f : A → B) (moment : ℤ) (c : Certificate) (below : List Certificate) where
  meets_by : (r : Reason) → MeetsAbove options A moment c below r → MeetsAbove options B moment c below r
  meets_by Repeated met = met
  meets_by Signature met = f met
  meets_by NotYet met = met
  meets_by Expired met = met
  meets_by Issuer met = met
  meets_by NotPermitted met = met
  meets_by Excluded met = met
  meets_by ConstraintForm met = met
  meets_by NotCa met = met
  meets_by PathLength met = met
  meets_by KeyCertSign met = met
  meets_by Policy met = met
  meets_by CriticalUnknown met = met
  meets_by Purpose met = met
  meets_by Empty met = met
  meets_by TooLong met = met
  meets_by NoValidPolicy met = met
  meets_by AnyPolicyMapped met = met
  meets_by NoUserPolicy met = met

module _ (accepts other : Accepts) (s : Search) (there : PairsAlike accepts other s) (back : PairsAlike other accepts s) where
  is_tail_too : (above : List ℕ) → IsTail accepts s above → IsTail other s above
  is_tail_too above is = record { right = tail_too accepts other s there above is.right; short = is.short }

  is_tail_back : (above : List ℕ) → IsTail other s above → IsTail accepts s above
  is_tail_back above is = record { right = tail_too other accepts s back above is.right; short = is.short }

  tails_too : (count : ℕ) → HasRightTails accepts s count → HasRightTails other s count
  tails_too count has = record {
    tails = has.tails;
    right = each_too (IsRightTail accepts s) (IsRightTail other s) (tail_too accepts other s there) has.tails has.right;
    different = has.different;
    enough = has.enough;
  }

  furthest_too : (above : List ℕ) → IsFurthest accepts s above → IsFurthest other s above
  furthest_too above is = record {
    tail = is_tail_too above is.tail;
    longest = λ another tail. is.longest another (is_tail_back another tail);
    first = λ another tail. is.first another (is_tail_back another tail);
  }

  module _ (above : List ℕ) (tail : IsTail accepts s above) where
    abbrev top : Certificate
    top = top_certificate s above

    -- whether an anchor, or a certificate of the bag, with the name signed the top
    anchor_alike : (anchor : ℕ) → IsNamedAmong s.anchors top anchor
        → IsSignedByIssuer other top (anchor_at s anchor).key_info.value.octets → IsSignedByIssuer accepts top (anchor_at s anchor).key_info.value.octets
    anchor_alike anchor named signed =
        there (of.Anchor anchor) (top_of (length s.bag) above) (record {
          there = named.there;
          named = subst (λ (it : Certificate). IsNamedByIssuer top it.subject) (get_or_default s.anchors anchor top s.target named.there) named.named;
          leads = leads_to_target s accepts above tail.right.there tail.right.right;
        }) ∙ signed

    bag_alike : (place : ℕ) → IsNamedAmong s.bag top place
        → IsSignedByIssuer accepts top (certificate_at s place).key_info.value.octets ↔ IsSignedByIssuer other top (certificate_at s place).key_info.value.octets
    bag_alike place named =
        let same = there (of.Bag place) (top_of (length s.bag) above) (record {
          there = named.there;
          named = subst (λ (it : Certificate). IsNamedByIssuer top it.subject) (get_or_default s.bag place top s.target named.there) named.named;
          leads = leads_to_target s accepts above tail.right.there tail.right.right;
        }) in
        (λ signed. sym same ∙ signed, λ signed. same ∙ signed)

    in_the_way_too : (anchor : ℕ) → IsAnchorInTheWay accepts s top anchor → IsAnchorInTheWay other s top anchor
    in_the_way_too anchor is = record { named = is.named; unsigned = λ signed. is.unsigned (anchor_alike anchor is.named signed) }

    unmet_too : (o : Obstacle) → IsNamedAmong s.bag top o.place → IsFirstUnmet (MeetsAboveTail accepts s above o.place) o.reason
        → IsFirstUnmet (MeetsAboveTail other s above o.place) o.reason
    unmet_too o named first =
        let c = certificate_at s o.place in
        let key = c.key_info.value.octets in
        let below = path_down_to s.target s.bag above in
        let signs = bag_alike o.place named in
        record {
          broken = λ met. first.broken (meets_by s.options (IsSignedByIssuer other top key) (IsSignedByIssuer accepts top key) signs.1 s.moment c below o.reason met);
          lesser = λ reason less. meets_by s.options (IsSignedByIssuer accepts top key) (IsSignedByIssuer other top key) signs.0 s.moment c below reason (first.lesser reason less);
        }

obstacle_place : (obstacles : List Obstacle) (k : ℕ) (d : Obstacle) → k < length obstacles → Contains (places_of_obstacles obstacles) (get_or obstacles k d).place
obstacle_place obstacles k d h =
    let place = λ (o : Obstacle). o.place in
    subst (λ (n : ℕ). Contains (map place obstacles) n) (get_or-map place obstacles k d 0 h)
    (Contains-get_or (map place obstacles) k 0 (omega (arith, h, length-map obstacles place)))

module _ (accepts other : Accepts) (s : Search) (there : PairsAlike accepts other s) (back : PairsAlike other accepts s) where
  stuck_too : (stuck : Stuck) → IsStuck accepts s stuck → IsStuck other s stuck
  stuck_too stuck is =
      let above = stuck.above.items in
      let tail = is.furthest.tail in
      let tail_other = is_tail_too accepts other s there back above tail in
      record {
        furthest = furthest_too accepts other s there back above is.furthest;
        anchors = record {
          each = λ anchor among. in_the_way_too accepts other s there back above tail anchor (is.anchors.each anchor among);
          all = λ anchor in_way. is.anchors.all anchor (in_the_way_too other accepts s back there above tail_other anchor in_way);
          ascending = is.anchors.ascending;
        };
        bag = record {
          places = is.bag.places;
          reasons = λ k d h.
              unmet_too accepts other s there back above tail (get_or stuck.bag.items k d)
              (is.bag.places.each (get_or stuck.bag.items k d).place (obstacle_place stuck.bag.items k d h)) (is.bag.reasons k d h);
        };
      }

  why_not_too : (budget : Budget) (found : Option WhyNot) → IsWhyNot accepts s budget found → IsWhyNot other s budget found
  why_not_too budget None (right, inl few) = (right, inl few)
  why_not_too budget None (right, inr tails) = (right, inr (tails_too accepts other s there back budget.steps tails))
  why_not_too budget (Some (why.Target reason)) is = is
  why_not_too budget (Some (why.Stuck stuck)) is = stuck_too stuck is

pub why_not_questions_decide : WhyNotQuestionsDecide
why_not_questions_decide s statements questions are accepts other same budget found =
    let each = each_alike accepts other questions same in
    let there = pairs_alike accepts other statements s questions are each in
    let back = pairs_alike other accepts statements s questions are (turned accepts other questions each) in
    (why_not_too accepts other s there back budget found, why_not_too other accepts s back there budget found)

pub why_not_prints_decide : WhyNotPrintsDecide
why_not_prints_decide accepts by_prints s statements questions prints are accepting good =
    why_not_questions_decide s statements questions are accepts by_prints
    (λ asked within. alike accepts by_prints prints asked accepting (good asked within))
