-- Two verifiers that answer the questions of a search alike have the same valid candidates.
use Rattle.std.proofs.Common.{◌≡◌, ℕ, ℤ, List, [], ◌∷◌, ◌++◌, Option, length, reverse, arith, refl, ap, sym, ◌∙◌, subst}
use Rattle.std.proofs.Math.ListN.{get_or-eq_default}
use Rattle.std.proofs.lemmas.List.{reverse-append}
use Rattle.cert.specs.Certificate.{Certificate}
use Rattle.path.specs.declared.options.Options.{Options}
use Rattle.path.specs.Query.{Accepts}
use Rattle.path_issuers.specs.Factors.{AreRight, Issues, IssuesFirst}
use Rattle.path_issuers.specs.Links.{anchor_at, certificate_at}
use Rattle.path_issuers.specs.Questions.{AgreeOn, IsSearchQuestion, LeadsToTarget, QuestionsSuffice, issuer_at}
use Rattle.path_issuers.specs.Search.{Search, Candidate, IsValidCandidate, certificates_at, query_about}
use Rattle.path_issuers.specs.declared.question.Issuer.{Issuer}
use Rattle.path_issuers.specs.declared.question.Issuer.TheVariants.{Anchor, Bag}
use Rattle.path_issuers.specs.declared.question.SearchQuestion.{SearchQuestion}
use Rattle.path_issuers.proofs.Chaining.{AreLinked, IsChain, chain_of, from_top}
use Rattle.path_issuers.proofs.Factoring.{valid_path_factors}

-- what certificates meet that are in order down to a target depends on a verifier only as far as neighbours issue each other

right_by : (options : Options) (one other : Accepts) (moment : ℤ) (purpose : Option (List ℕ)) (cs : List Certificate)
    → AreRight options one moment purpose cs → AreLinked options other moment cs → AreRight options other moment purpose cs
right_by options one other moment purpose [] right linked = right
right_by options one other moment purpose (c ∷ []) right linked = right
right_by options one other moment purpose (c ∷ next ∷ below) right linked = (
  record {
    authority = right.0.authority;
    issues = linked.0.1;
    different = right.0.different;
    length = right.0.length;
    names = right.0.names;
  },
  right_by options one other moment purpose (next ∷ below) right.1 linked.1,
)

module _ (accepts : Accepts) (s : Search) where
  linked_below : (cs : List Certificate) (c t : Certificate) → AreLinked s.options accepts s.moment (cs ++ c ∷ []) → AreLinked s.options accepts s.moment (c ∷ t ∷ [])
      → AreLinked s.options accepts s.moment (cs ++ c ∷ [] ++ t ∷ [])
  linked_below [] c t linked last = last
  linked_below (x ∷ []) c t linked last = (linked.0, last)
  linked_below (x ∷ y ∷ cs) c t linked last = (linked.0, linked_below (y ∷ cs) c t linked.1 last)

  first_stays_below : (anchor : Certificate) (cs : List Certificate) (c t : Certificate) → IssuesFirst accepts anchor (cs ++ c ∷ [])
      → IssuesFirst accepts anchor (cs ++ c ∷ [] ++ t ∷ [])
  first_stays_below anchor [] c t issues = issues
  first_stays_below anchor (x ∷ cs) c t issues = issues

  -- of a chain the anchor issued the first, and each certificate the next one
  chained : (anchor below : ℕ) (above : List ℕ) → IsChain accepts s below above anchor
      → IssuesFirst accepts (anchor_at s anchor) (from_top accepts s below above) × AreLinked s.options accepts s.moment (from_top accepts s below above)
  chained anchor below [] chain = (chain.issues, tt)
  chained anchor below (place ∷ above) chain =
      let c = certificate_at s place in
      let t = certificate_at s below in
      let cs = reverse (certificates_at s.target s.bag above) in
      let up = chained anchor place above chain.1 in
      let part : from_top accepts s place above ≡ cs ++ c ∷ [] = reverse-append (c ∷ []) (certificates_at s.target s.bag above) in
      let whole : from_top accepts s below (place ∷ above) ≡ cs ++ c ∷ [] ++ t ∷ [] =
      reverse-append (t ∷ []) (c ∷ certificates_at s.target s.bag above) ∙ ap (λ (l : List Certificate). l ++ t ∷ []) part in
      let first = subst (λ (l : List Certificate). IssuesFirst accepts (anchor_at s anchor) l) part up.0 in
      let linked = subst (λ (l : List Certificate). AreLinked s.options accepts s.moment l) part up.1 in (
        subst (λ (l : List Certificate). IssuesFirst accepts (anchor_at s anchor) l) (sym whole) (first_stays_below (anchor_at s anchor) cs c t first),
        subst (λ (l : List Certificate). AreLinked s.options accepts s.moment l) (sym whole)
            (linked_below cs c t linked ((chain.0.authority, chain.0.issues), tt)),
      )

module _ (one other : Accepts) (s : Search) (agree : (question : SearchQuestion) → IsSearchQuestion s question → AgreeOn one other s question) where
  issues_too : (issuer : Issuer) (below : ℕ) → IsSearchQuestion s (record { issuer = issuer; certificate = below })
      → Issues one (issuer_at s issuer) (certificate_at s below) → Issues other (issuer_at s issuer) (certificate_at s below)
  issues_too issuer below asked issues = record {
    named = issues.named;
    signed = sym (agree (record { issuer = issuer; certificate = below }) asked) ∙ issues.signed;
  }

  -- a chain under one verifier is one under the other
  chain_too : (anchor below : ℕ) (above : List ℕ) → LeadsToTarget s below → IsChain one s below above anchor → IsChain other s below above anchor
  chain_too anchor below [] leads chain = record {
    there = chain.there;
    issues = issues_too (Anchor anchor) below record { there = chain.there; named = chain.issues.named; leads = leads } chain.issues;
  }
  chain_too anchor below (place ∷ above) leads chain =
      let link = chain.0 in
      let asked : IsSearchQuestion s (record { issuer = Bag place; certificate = below }) = record { there = link.there; named = link.issues.named; leads = leads } in
      let place_leads : LeadsToTarget s place = (below ∷ leads.0, (link.there, link.issues.named, leads.1)) in (
        record { there = link.there; authority = link.authority; issues = issues_too (Bag place) below asked link.issues },
        chain_too anchor place above place_leads chain.1,
      )

  valid_too : (c : Candidate) → IsValidCandidate one s c → IsValidCandidate other s c
  valid_too c valid =
      let bag = length s.bag in
      let factors = (valid_path_factors one (query_about s c)).0 valid.valid in
      let parts = chained other s c.anchor bag c.above (chain_too c.anchor bag c.above ([], refl) (chain_of one s c valid)) in
      let target : certificate_at s bag ≡ s.target = get_or-eq_default s.bag s.target (omega arith) in
      let certificates = λ (t : Certificate). reverse (t ∷ certificates_at s.target s.bag c.above) in
      let first = subst (λ (t : Certificate). IssuesFirst other (anchor_at s c.anchor) (certificates t)) target parts.0 in
      let linked = subst (λ (t : Certificate). AreLinked s.options other s.moment (certificates t)) target parts.1 in
      record {
        candidate = valid.candidate;
        valid = (valid_path_factors other (query_about s c)).1 (factors.0, first, right_by s.options one other s.moment s.purpose (certificates s.target) factors.2 linked);
      }

pub questions_suffice : QuestionsSuffice
questions_suffice one other s questions are agree c =
    let says = λ (question : SearchQuestion) (asked : IsSearchQuestion s question). agree question (are.all question asked) in (
      valid_too one other s says c,
      valid_too other one s (λ question asked. sym (says question asked)) c,
    )
