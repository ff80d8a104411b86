-- What is above a target in a right tail: each certificate is right above those below it, and issued the next one.
use Rattle.std.proofs.Common.{◌<◌, ◌+◌, ℕ, zero, suc, List, [], ◌∷◌, ◌++◌, length, take, get_or, reverse, drop, arith, refl, subst, sym}
use Rattle.std.specs.List.{AllByRecursion, Contains}
use Rattle.std.proofs.lemmas.List.{take_more}
use Rattle.std.proofs.lemmas.List.Elements.{All-from_recursion}
use Rattle.cert.specs.Certificate.{Certificate}
use Rattle.path.specs.Query.{Accepts}
use Rattle.path_issuers.specs.Search.{Search, certificates_at, path_down_to}
use Rattle.path_issuers.specs.Factors.{AreRight, IsRightAbove, IsRightAsTarget, Issues, IssuesFirst}
use Rattle.path_issuers.specs.Links.{Links, IsIssuer, certificate_at, issuers_of}
use Rattle.path_issuers.specs.Questions.{IsNamedBy, LeadsToTarget}
use Rattle.path_issuers.specs.Upward.{AreAuthorityLinks}
use Rattle.path_issuers.specs.declared.question.Issuer.TheVariants.{Bag}
use Rattle.path_search.specs.Answer.{IsRightTail}
use Rattle.path_search.specs.Walk.{MayStandAbove, top_of}
use Rattle.path_issuers.proofs.Laws.{tail_right}
use Rattle.path_search.proofs.Tails.{tail_grows}
use Rattle.path_search.proofs.Walking.{path_top, path_split, path_some}

all_take : (P : ℕ → Type 0) (k : ℕ) (xs : List ℕ) → AllByRecursion P xs → AllByRecursion P (take k xs)
all_take P zero xs all = tt
all_take P (suc k) [] all = tt
all_take P (suc k) (x ∷ xs) all = (all.0, all_take P k xs all.1)

module _ (accepts : Accepts) (s : Search) where
  abbrev path : List ℕ → List Certificate
  path above = path_down_to s.target s.bag above

  abbrev top : List ℕ → Certificate
  top above = certificate_at s (top_of (length s.bag) above)

  abbrev Right : List Certificate → Type 0
  Right certificates = AreRight s.options accepts s.moment s.purpose certificates

  pub front_is_tail : (above : List ℕ) (k : ℕ) → IsRightTail accepts s above → IsRightTail accepts s (take k above)
  front_is_tail above k tail = record {
    there = all_take (λ place. place < length s.bag) k above tail.there;
    right = tail_right s.options accepts s.moment s.purpose (reverse (certificates_at s.target s.bag (drop k above))) (path (take k above))
        (subst Right (path_split accepts s above k) tail.right) (path_some accepts s (take k above));
  }

  pub target_of_tail : (above : List ℕ) → IsRightTail accepts s above → IsRightAsTarget s.options s.moment s.purpose s.target
  target_of_tail above tail = (front_is_tail above 0 tail).right

  right_first : (c first : Certificate) (rest : List Certificate) → Right (c ∷ first ∷ rest) → IsRightAbove s.options accepts s.moment c (first ∷ rest)
  right_first c first rest right = right.0

  right_at_top : (c : Certificate) (above : List ℕ) → Right (c ∷ path above) → IsRightAbove s.options accepts s.moment c (path above)
  right_at_top c above =
      let of = path_top s above in
      subst (λ l. Right (c ∷ l) → IsRightAbove s.options accepts s.moment c l) (sym of.1) (right_first c (top above) of.0)

  issues_first : (c first : Certificate) (rest : List Certificate) → IssuesFirst accepts c (first ∷ rest) → Issues accepts c first
  issues_first c first rest issues = issues

  pub issues_top : (c : Certificate) (above : List ℕ) → IssuesFirst accepts c (path above) → Issues accepts c (top above)
  issues_top c above =
      let of = path_top s above in
      subst (λ l. IssuesFirst accepts c l → Issues accepts c (top above)) (sym of.1) (issues_first c (top above) of.0)

  -- the last certificate of a tail is right above the others
  pub right_last : (above : List ℕ) (place : ℕ) → Right (path (above ++ place ∷ [])) → IsRightAbove s.options accepts s.moment (certificate_at s place) (path above)
  right_last above place right = right_at_top (certificate_at s place) above (subst Right (tail_grows s.target s.bag above place) right)

  pub right_next : (above : List ℕ) (k : ℕ) → IsRightTail accepts s above → k < length above
      → IsRightAbove s.options accepts s.moment (certificate_at s (get_or above k 0)) (path (take k above))
  right_next above k tail h =
      right_last (take k above) (get_or above k 0) (subst (λ l. Right (path l)) (take_more above k 0 h) (front_is_tail above (k + 1) tail).right)

  there_at : (above : List ℕ) (k : ℕ) → IsRightTail accepts s above → k < length above → get_or above k 0 < length s.bag
  there_at above k tail h = All-from_recursion (λ place. place < length s.bag) above tail.there k 0 h

  -- each certificate above the target issued the one below it
  pub tail_issuer : (above : List ℕ) (k : ℕ) → IsRightTail accepts s above → k < length above
      → IsIssuer accepts s (top_of (length s.bag) (take k above)) (get_or above k 0)
  tail_issuer above k tail h =
      let right = right_next above k tail h in record {
        there = there_at above k tail h;
        authority = right.authority;
        issues = issues_top (certificate_at s (get_or above k 0)) (take k above) right.issues;
      }

  pub next_fits : (above : List ℕ) (k : ℕ) → IsRightTail accepts s above → k < length above → MayStandAbove s (take k above) (get_or above k 0)
  next_fits above k tail h =
      let right = right_next above k tail h in record {
        there = there_at above k tail h;
        fits = record { different = right.different; length = right.length; names = right.names };
      }

  -- names lead down along it
  led_down : (below : ℕ) (above : List ℕ) → LeadsToTarget s below
      → ((k : ℕ) → k < length above → (get_or above k 0 < length s.bag) × IsNamedBy s (top_of below (take k above)) (Bag (get_or above k 0)))
      → LeadsToTarget s (top_of below above)
  led_down below [] leads f = leads
  led_down below (place ∷ above) leads f =
      let first = f 0 (omega arith) in
      led_down place above (below ∷ leads.0, (first.0, first.1, leads.1)) (λ k h. f (suc k) (omega arith))

  pub leads_to_target : (above : List ℕ) → IsRightTail accepts s above → LeadsToTarget s (top_of (length s.bag) above)
  leads_to_target above tail =
      led_down (length s.bag) above ([], refl) (λ k h. let issuer = tail_issuer above k tail h in (issuer.there, issuer.issues.named))

  -- so each certificate above the target is linked
  pub linked : (links : Links) → AreAuthorityLinks accepts s links → (above : List ℕ) (k : ℕ) → IsRightTail accepts s above → k < length above
      → Contains (issuers_of links (top_of (length s.bag) (take k above))) (get_or above k 0)
  linked links are above k tail h =
      are.whole (top_of (length s.bag) (take k above)) (get_or above k 0) (leads_to_target (take k above) (front_is_tail above k tail))
      (tail_issuer above k tail h)
