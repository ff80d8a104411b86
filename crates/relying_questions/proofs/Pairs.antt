-- Each certificate of a path, or of the end of one, and the one above it are a pair that the search may ask about.
use Rattle.std.proofs.Common.{◌≡◌, ◌<◌, ℕ, ℤ, List, [], ◌∷◌, ◌++◌, Option, length, reverse, arith, refl, ap, sym, ◌∙◌, subst, append_assoc}
use Rattle.std.specs.List.{AllByRecursion}
use Rattle.std.proofs.Math.ListN.{get_or-eq_default}
use Rattle.std.proofs.lemmas.List.{reverse-append}
use Rattle.cert.specs.Certificate.{Certificate}
use Rattle.path.specs.Conditions.{IsNamedByIssuer}
use Rattle.path.specs.declared.options.Options.{Options}
use Rattle.path.specs.Query.{Accepts}
use Rattle.path_issuers.specs.Factors.{AreRight, IssuesFirst}
use Rattle.path_issuers.specs.Links.{anchor_at, certificate_at}
use Rattle.path_issuers.specs.Questions.{IsSearchQuestion, LeadsToTarget, issuer_at}
use Rattle.path_issuers.specs.Search.{Search, Candidate, IsValidCandidate, certificates_at, path_down_to, query_about}
use Rattle.path_issuers.specs.declared.question.Issuer.{Issuer}
use Rattle.path_issuers.specs.declared.question.Issuer.TheVariants.{Anchor, Bag}
use Rattle.path_search.specs.Walk.{top_of}
use Rattle.path_issuers.proofs.Laws.{valid_path_factors}

-- it holds of each certificate and the one below it
abbrev pub Neighbours : (Certificate → Certificate → Type 0) → List Certificate → Type 0
Neighbours P [] = Unit {0}
Neighbours P (c ∷ []) = Unit {0}
Neighbours P (c ∷ next ∷ below) = P c next × Neighbours P (next ∷ below)

neighbours_below : (P : Certificate → Certificate → Type 0) (above below : List Certificate) → Neighbours P (above ++ below) → Neighbours P below
neighbours_below P [] below all = all
neighbours_below P (c ∷ []) [] all = tt
neighbours_below P (c ∷ []) (next ∷ below) all = all.1
neighbours_below P (c ∷ d ∷ above) below all = neighbours_below P (d ∷ above) below all.1

-- the name of the issuer is that of the one above
abbrev Names : Certificate → Certificate → Type 0
Names issuer c = IsNamedByIssuer c issuer.subject

named_right : (options : Options) (accepts : Accepts) (moment : ℤ) (purpose : Option (List ℕ)) (cs : List Certificate)
    → AreRight options accepts moment purpose cs → Neighbours Names cs
named_right options accepts moment purpose [] right = tt
named_right options accepts moment purpose (c ∷ []) right = tt
named_right options accepts moment purpose (c ∷ next ∷ below) right = (right.0.issues.named, named_right options accepts moment purpose (next ∷ below) right.1)

named_under : (accepts : Accepts) (anchor : Certificate) (cs : List Certificate) → IssuesFirst accepts anchor cs → Neighbours Names cs → Neighbours Names (anchor ∷ cs)
named_under accepts anchor [] issues named = tt
named_under accepts anchor (c ∷ below) issues named = (issues.named, named)

-- the path of a tail, with the target by its number
down_to : (s : Search) (above : List ℕ) → path_down_to s.target s.bag above ≡ reverse (certificates_at s.target s.bag above) ++ certificate_at s (length s.bag) ∷ []
down_to s above =
    reverse-append (s.target ∷ []) (certificates_at s.target s.bag above)
    ∙ ap (λ (t : Certificate). reverse (certificates_at s.target s.bag above) ++ t ∷ []) (sym (get_or-eq_default s.bag s.target (omega arith)))

-- the top of a tail leads to the target by names, of which the one below does
leads_up : (s : Search) (below : ℕ) (above : List ℕ) (behind : List Certificate) → LeadsToTarget s below → AllByRecursion (λ place. place < length s.bag) above
    → Neighbours Names (reverse (certificates_at s.target s.bag above) ++ certificate_at s below ∷ behind) → LeadsToTarget s (top_of below above)
leads_up s below [] behind leads there named = leads
leads_up s below (place ∷ above) behind leads there named =
    let c = certificate_at s place in
    let certs = certificates_at s.target s.bag above in
    let rest = certificate_at s below ∷ behind in
    let turned : reverse (c ∷ certs) ++ rest ≡ reverse certs ++ c ∷ rest =
    ap (λ (l : List Certificate). l ++ rest) (reverse-append (c ∷ []) certs) ∙ append_assoc (reverse certs) (c ∷ []) rest in
    let whole = subst (Neighbours Names) turned named in
    let here = (neighbours_below Names (reverse certs) (c ∷ rest) whole).0 in
    leads_up s place above rest (below ∷ leads.0, (there.0, here, leads.1)) there.1 whole

pub leads_to_target : (s : Search) (accepts : Accepts) (above : List ℕ) → AllByRecursion (λ place. place < length s.bag) above
    → AreRight s.options accepts s.moment s.purpose (path_down_to s.target s.bag above) → LeadsToTarget s (top_of (length s.bag) above)
leads_to_target s accepts above there right =
    let certs = certificates_at s.target s.bag above in
    leads_up s (length s.bag) above [] ([], refl) there
    (subst (Neighbours Names) (down_to s above) (named_right s.options accepts s.moment s.purpose (path_down_to s.target s.bag above) right))

module _ (s : Search) (IsAsked : Certificate → Certificate → Type 0)
    (asked : (issuer : Issuer) (below : ℕ) → IsSearchQuestion s (record { issuer = issuer; certificate = below })
    → IsAsked (issuer_at s issuer) (certificate_at s below)) where
  -- at the top, above certificates that lead to the target, each pair is asked about
  abbrev MayStandAbove : List Certificate → Type 0
  MayStandAbove top =
      (below : ℕ) (behind : List Certificate) → LeadsToTarget s below → Neighbours Names (top ++ certificate_at s below ∷ behind)
      → Neighbours IsAsked (certificate_at s below ∷ behind) → Neighbours IsAsked (top ++ certificate_at s below ∷ behind)

  asked_down : (top : List Certificate) → MayStandAbove top → (below : ℕ) (above : List ℕ) (behind : List Certificate) → LeadsToTarget s below
      → AllByRecursion (λ place. place < length s.bag) above
      → Neighbours Names (top ++ (reverse (certificates_at s.target s.bag above) ++ certificate_at s below ∷ behind))
      → Neighbours IsAsked (certificate_at s below ∷ behind)
      → Neighbours IsAsked (top ++ (reverse (certificates_at s.target s.bag above) ++ certificate_at s below ∷ behind))
  asked_down top may below [] behind leads there named so_far = may below behind leads named so_far
  asked_down top may below (place ∷ above) behind leads there named so_far =
      let c = certificate_at s place in
      let certs = certificates_at s.target s.bag above in
      let rest = certificate_at s below ∷ behind in
      let turned : reverse (c ∷ certs) ++ rest ≡ reverse certs ++ c ∷ rest =
      ap (λ (l : List Certificate). l ++ rest) (reverse-append (c ∷ []) certs) ∙ append_assoc (reverse certs) (c ∷ []) rest in
      let whole = subst (λ (l : List Certificate). Neighbours Names (top ++ l)) turned named in
      let here = (neighbours_below Names (reverse certs) (c ∷ rest) (neighbours_below Names top (reverse certs ++ c ∷ rest) whole)).0 in
      let up : LeadsToTarget s place = (below ∷ leads.0, (there.0, here, leads.1)) in
      let one = asked (Bag place) below (record { there = there.0; named = here; leads = leads }) in
      subst (λ (l : List Certificate). Neighbours IsAsked (top ++ l)) (sym turned) (asked_down top may place above rest up there.1 whole (one, so_far))

  asked_to_target : (top : List Certificate) → MayStandAbove top → (above : List ℕ) → AllByRecursion (λ place. place < length s.bag) above
      → Neighbours Names (top ++ path_down_to s.target s.bag above) → Neighbours IsAsked (top ++ path_down_to s.target s.bag above)
  asked_to_target top may above there named =
      subst (λ (l : List Certificate). Neighbours IsAsked (top ++ l)) (sym (down_to s above))
      (asked_down top may (length s.bag) above [] ([], refl) there (subst (λ (l : List Certificate). Neighbours Names (top ++ l)) (down_to s above) named) tt)

  -- those of a tail
  pub tail_asked : (accepts : Accepts) (above : List ℕ) → AllByRecursion (λ place. place < length s.bag) above
      → AreRight s.options accepts s.moment s.purpose (path_down_to s.target s.bag above) → Neighbours IsAsked (path_down_to s.target s.bag above)
  tail_asked accepts above there right =
      asked_to_target [] (λ below behind leads named so_far. so_far) above there
      (named_right s.options accepts s.moment s.purpose (path_down_to s.target s.bag above) right)

  under_anchor : (anchor : ℕ) → anchor < length s.anchors → MayStandAbove (anchor_at s anchor ∷ [])
  under_anchor anchor there below behind leads named so_far =
      (asked (Anchor anchor) below (record { there = there; named = named.0; leads = leads }), so_far)

  -- those of a path, and its anchor
  pub path_asked : (accepts : Accepts) (c : Candidate) → IsValidCandidate accepts s c
      → Neighbours IsAsked ((query_about s c).anchor ∷ (query_about s c).certificates)
  path_asked accepts c valid =
      let factors = (valid_path_factors accepts (query_about s c)).0 valid.valid in
      let certs = path_down_to s.target s.bag c.above in
      asked_to_target (anchor_at s c.anchor ∷ []) (under_anchor c.anchor valid.candidate.anchor) c.above valid.candidate.above
      (named_under accepts (anchor_at s c.anchor) certs factors.1 (named_right s.options accepts s.moment s.purpose certs factors.2))
