-- What a search may ask a verifier. An issuer goes by its place among the anchors or in the bag; a certificate by its place in the bag, the
-- target by the place behind the last one.
use Rattle.std.specs.Prelude.{◌≡◌, ◌≢◌, ◌⊎◌, ◌↔◌, ◌<◌, ℕ, List, [], ◌∷◌, Bool, Contains, length}
use Rattle.std.specs.List.{AllPairs}
use Rattle.cert.specs.Certificate.{Certificate}
use Rattle.path.specs.Conditions.{IsNamedByIssuer}
use Rattle.path.specs.Query.{Accepts}
use Rattle.path_issuers.specs.Search.{Search, Candidate, IsValidCandidate}
use Rattle.path_issuers.specs.Factors.{Issues}
use Rattle.path_issuers.specs.Links.{certificate_at, anchor_at}
use Rattle.path_issuers.specs.declared.question.Issuer.{Issuer}
use Rattle.path_issuers.specs.declared.question.Issuer.TheVariants.{Anchor, Bag}
use Rattle.path_issuers.specs.declared.question.SearchQuestion.{SearchQuestion}

abbrev pub issuer_at : Search → Issuer → Certificate
issuer_at s (Anchor place) = anchor_at s place
issuer_at s (Bag place) = certificate_at s place

abbrev pub IsThere : Search → Issuer → Type 0
IsThere s (Anchor place) = place < length s.anchors
IsThere s (Bag place) = place < length s.bag

-- the issuer issued the certificate
abbrev pub IsAnsweredYes : Accepts → Search → SearchQuestion → Type 0
IsAnsweredYes accepts s question = Issues accepts (issuer_at s question.issuer) (certificate_at s question.certificate)

-- names

-- the issuer's name is that of the certificate's issuer
abbrev pub IsNamedBy : Search → ℕ → Issuer → Type 0
IsNamedBy s below issuer = IsNamedByIssuer (certificate_at s below) (issuer_at s issuer).subject

-- a chain from the certificate at a place down to the target: each has the name of the issuer of the next one
abbrev pub IsChainToTarget : Search → ℕ → List ℕ → Type 0
IsChainToTarget s place [] = place ≡ length s.bag
IsChainToTarget s place (below ∷ others) = (place < length s.bag) × IsNamedBy s below (Bag place) × IsChainToTarget s below others

abbrev pub LeadsToTarget : Search → ℕ → Type 0
LeadsToTarget s place = (below : List ℕ) × IsChainToTarget s place below

-- the issuer is there, the names match, and the certificate leads to the target by names, so that it is there too
pub record IsSearchQuestion (s : Search) (question : SearchQuestion) : Type 0 where
  pub there : IsThere s question.issuer
  pub named : IsNamedBy s question.certificate question.issuer
  pub leads : LeadsToTarget s question.certificate

-- all of them, and each once
pub record AreSearchQuestions (s : Search) (questions : List SearchQuestion) : Type 0 where
  pub each : (question : SearchQuestion) → Contains questions question → IsSearchQuestion s question
  pub all : (question : SearchQuestion) → IsSearchQuestion s question → Contains questions question
  pub once : AllPairs (λ one other. one ≢ other) questions

-- those about anchors first, certificate by certificate; then those about the bag, issuer by issuer
abbrev pub ComesBefore : Issuer → ℕ → Issuer → ℕ → Type 0
ComesBefore (Anchor one) below (Anchor other) next = (below < next) ⊎ ((below ≡ next) × (one < other))
ComesBefore (Anchor one) below (Bag other) next = Unit {0}
ComesBefore (Bag one) below (Anchor other) next = ⊥
ComesBefore (Bag one) below (Bag other) next = (one < other) ⊎ ((one ≡ other) × (below < next))

abbrev pub IsAskedBefore : SearchQuestion → SearchQuestion → Type 0
IsAskedBefore one other = ComesBefore one.issuer one.certificate other.issuer other.certificate

-- laws

-- what a verifier says of the four texts: the algorithm, the issuer's key, what is signed, and the signature
abbrev pub answer_of : Accepts → Certificate → Certificate → Bool
answer_of accepts issuer c = accepts c.algorithm.value.octets issuer.key_info.value.octets c.tbs.octets c.signature.octets

-- two verifiers say the same of the texts of the question
abbrev pub AgreeOn : Accepts → Accepts → Search → SearchQuestion → Type 0
AgreeOn one other s question =
    answer_of one (issuer_at s question.issuer) (certificate_at s question.certificate)
    ≡ answer_of other (issuer_at s question.issuer) (certificate_at s question.certificate)

-- two verifiers that say the same of each question have the same valid candidates
abbrev pub QuestionsSuffice : Type 0
QuestionsSuffice =
    (one other : Accepts) (s : Search) (questions : List SearchQuestion) →
    AreSearchQuestions s questions → ((question : SearchQuestion) → Contains questions question → AgreeOn one other s question) →
    (c : Candidate) → IsValidCandidate one s c ↔ IsValidCandidate other s c
