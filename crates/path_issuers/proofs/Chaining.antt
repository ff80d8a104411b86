-- No link of a valid path is missing, if links are recorded from the anchors downward.
use Rattle.std.proofs.Common.{◌≡◌, ◌<◌, ◌≤◌, ℕ, ℤ, List, [], ◌∷◌, ◌++◌, Option, length, reverse, arith, ap, subst, sym, ◌∙◌}
use Rattle.std.specs.List.{AllByRecursion, Contains}
use Rattle.std.proofs.lemmas.List.{reverse-append}
use Rattle.std.proofs.Math.ListN.{get_or-eq_default}
use Rattle.cert.specs.Certificate.{Certificate}
use Rattle.path.specs.declared.options.Options.{Options}
use Rattle.path.specs.Query.{Accepts}
use Rattle.path.specs.Conditions.{IsNamedByIssuer}
use Rattle.path_issuers.specs.Factors.{IsRightAsAuthority, Issues, IssuesFirst, AreRight}
use Rattle.path_issuers.specs.Search.{Search, Candidate, IsValidCandidate, certificates_at, query_about}
use Rattle.path_issuers.specs.Links.{Links, IsIssuer, IsAnchor, LeadsUp, issuers_of, anchors_of, certificate_at, anchor_at}
use Rattle.path_issuers.proofs.Factoring.{valid_path_factors}

-- what neighbours meet, of certificates that are in order down to a target

module _ (options : Options) (accepts : Accepts) (moment : ℤ) where
  abbrev pub IssuesBelow : Certificate → Certificate → Type 0
  IssuesBelow c next = IsRightAsAuthority options moment c × Issues accepts c next

  abbrev pub AreLinked : List Certificate → Type 0
  AreLinked [] = Unit {0}
  AreLinked (c ∷ []) = Unit {0}
  AreLinked (c ∷ next ∷ below) = IssuesBelow c next × AreLinked (next ∷ below)

  linked_from_right : (purpose : Option (List ℕ)) (cs : List Certificate) → AreRight options accepts moment purpose cs → AreLinked cs
  linked_from_right purpose [] right = tt
  linked_from_right purpose (c ∷ []) right = tt
  linked_from_right purpose (c ∷ next ∷ below) right = ((right.0.authority, right.0.issues), linked_from_right purpose (next ∷ below) right.1)

  without_last : (cs : List Certificate) (t : Certificate) → AreLinked (cs ++ t ∷ []) → AreLinked cs
  without_last [] t linked = tt
  without_last (c ∷ []) t linked = tt
  without_last (c ∷ next ∷ below) t linked = (linked.0, without_last (next ∷ below) t linked.1)

  last_two : (cs : List Certificate) (c t : Certificate) → AreLinked (cs ++ c ∷ [] ++ t ∷ []) → IssuesBelow c t
  last_two [] c t linked = linked.0
  last_two (x ∷ []) c t linked = linked.1.0
  last_two (x ∷ y ∷ cs) c t linked = last_two (y ∷ cs) c t linked.1

  first_stays : (anchor : Certificate) (cs : List Certificate) (c t : Certificate) → IssuesFirst accepts anchor (cs ++ c ∷ [] ++ t ∷ [])
      → IssuesFirst accepts anchor (cs ++ c ∷ [])
  first_stays anchor [] c t issues = issues
  first_stays anchor (x ∷ cs) c t issues = issues

module _ (accepts : Accepts) (s : Search) where
  -- from a place upward, each is issued by the next one, and the last by the anchor
  abbrev pub IsChain : ℕ → List ℕ → ℕ → Type 0
  IsChain below [] anchor = IsAnchor accepts s below anchor
  IsChain below (place ∷ above) anchor = IsIssuer accepts s below place × IsChain place above anchor

  abbrev pub from_top : ℕ → List ℕ → List Certificate
  from_top below above = reverse (certificate_at s below ∷ certificates_at s.target s.bag above)

  chain_at : (anchor : ℕ) → anchor < length s.anchors → (below : ℕ) (above : List ℕ) → AllByRecursion (λ place. place < length s.bag) above
      → IssuesFirst accepts (anchor_at s anchor) (from_top below above) → AreLinked s.options accepts s.moment (from_top below above) → IsChain below above anchor
  chain_at anchor there below [] all issues linked = record { there = there; issues = issues }
  chain_at anchor there below (place ∷ above) all issues linked =
      let c = certificate_at s place in
      let t = certificate_at s below in
      let cs = reverse (certificates_at s.target s.bag above) in
      let whole : from_top below (place ∷ above) ≡ cs ++ c ∷ [] ++ t ∷ [] =
      reverse-append (t ∷ []) (c ∷ certificates_at s.target s.bag above) ∙ ap (λ (l : List Certificate). l ++ t ∷ []) (reverse-append (c ∷ []) (certificates_at s.target s.bag above)) in
      let part : cs ++ c ∷ [] ≡ from_top place above = sym (reverse-append (c ∷ []) (certificates_at s.target s.bag above)) in
      let issues_whole = subst (λ (l : List Certificate). IssuesFirst accepts (anchor_at s anchor) l) whole issues in
      let linked_whole = subst (λ (l : List Certificate). AreLinked s.options accepts s.moment l) whole linked in
      let one = last_two s.options accepts s.moment cs c t linked_whole in (
        record { there = all.0; authority = one.0; issues = one.1 },
        chain_at anchor there place above all.1
            (subst (λ (l : List Certificate). IssuesFirst accepts (anchor_at s anchor) l) part
            (first_stays s.options accepts s.moment (anchor_at s anchor) cs c t issues_whole))
            (subst (λ (l : List Certificate). AreLinked s.options accepts s.moment l) part (without_last s.options accepts s.moment (cs ++ c ∷ []) t linked_whole)),
      )

  -- a valid candidate is such a chain
  pub chain_of : (c : Candidate) → IsValidCandidate accepts s c → IsChain (length s.bag) c.above c.anchor
  chain_of c valid =
      let factors = (valid_path_factors accepts (query_about s c)).0 valid.valid in
      let target : s.target ≡ certificate_at s (length s.bag) = sym (get_or-eq_default s.bag s.target (omega arith)) in
      let certificates = λ (t : Certificate). reverse (t ∷ certificates_at s.target s.bag c.above) in
      chain_at c.anchor valid.candidate.anchor (length s.bag) c.above valid.candidate.above
      (subst (λ (t : Certificate). IssuesFirst accepts (anchor_at s c.anchor) (certificates t)) target factors.1)
      (subst (λ (t : Certificate). AreLinked s.options accepts s.moment (certificates t)) target
      (linked_from_right s.options accepts s.moment s.purpose (certificates s.target) factors.2))

  -- the links of a chain are recorded: those that lead to the target by names have their anchors, those with an anchor are reached, and
  -- each that is reached has whom it issued linked and reached
  module _ (links : Links) (IsUseful IsReached : ℕ → Type 0)
      (useful_above : (below place : ℕ) → below ≤ length s.bag → IsUseful below → place < length s.bag → IsNamedByIssuer (certificate_at s below)
      (certificate_at s place).subject → IsUseful place)
      (anchored : (below anchor : ℕ) → below ≤ length s.bag → IsUseful below → IsAnchor accepts s below anchor → Contains (anchors_of links below) anchor)
      (reached_first : (place anchor : ℕ) → place < length s.bag → Contains (anchors_of links place) anchor → IsReached place)
      (reached_next : (below place : ℕ) → below ≤ length s.bag → IsUseful below → IsReached place → IsIssuer accepts s below place
      → Contains (issuers_of links below) place × (below < length s.bag → IsReached below)) where
    leads : (anchor below : ℕ) (above : List ℕ) → below ≤ length s.bag → IsUseful below → IsChain below above anchor
        → LeadsUp links below above anchor × (below < length s.bag → IsReached below)
    leads anchor below [] within useful chain =
        let linked = anchored below anchor within useful chain in
        (linked, λ there. reached_first below anchor there linked)
    leads anchor below (place ∷ above) within useful chain =
        let there : place < length s.bag = chain.0.there in
        let place_useful = useful_above below place within useful there chain.0.issues.named in
        let up = leads anchor place above (omega arith) place_useful chain.1 in
        let next = reached_next below place within useful (up.1 there) chain.0 in
        ((next.0, up.0), next.1)

    pub leads_up : IsUseful (length s.bag) → (c : Candidate) → IsValidCandidate accepts s c → LeadsUp links (length s.bag) c.above c.anchor
    leads_up useful c valid = (leads c.anchor (length s.bag) c.above (omega arith) useful (chain_of c valid)).0
