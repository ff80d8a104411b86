-- What a verifier may be asked for what a search finds by statements (RFC 4158; RFC 5280, 6.1.3 (a) (1) and 6.3.3; RFC 6960, 4.2.2.2).
use Rattle.std.specs.Prelude.{◌≡◌, ◌<◌, ℕ, List, ◌++◌, AllPairs, Contains, map}
use Rattle.path_issuers.specs.Links.{certificate_at}
use Rattle.path_issuers.specs.Questions.{AreSearchQuestions, IsAskedBefore, issuer_at}
use Rattle.path_issuers.specs.Search.{Search}
use Rattle.path_issuers.specs.declared.question.Issuer.{Issuer}
use Rattle.path_issuers.specs.declared.question.Issuer.TheVariants.{Anchor, Bag}
use Rattle.path_issuers.specs.declared.question.SearchQuestion.{SearchQuestion}
use Rattle.statements.specs.Statement.{Statement}
use Rattle.relying_questions.specs.Questions.{Judgement, asked_of_statements, of_certificate}

-- of a pair that the search may ask about: the certificate, under the issuer
abbrev pub asked_of_pair : Search → SearchQuestion → Judgement
asked_of_pair s pair = of_certificate (issuer_at s pair.issuer) (certificate_at s pair.certificate)

-- it stands as the issuer in one of the pairs
abbrev pub IsIssuerIn : List SearchQuestion → Issuer → Type 0
IsIssuerIn pairs issuer = (certificate : ℕ) × Contains pairs (record { issuer = issuer; certificate = certificate })

-- anchors by their places, then the bag by theirs
abbrev pub StandsBefore : Issuer → Issuer → Type 0
StandsBefore (Anchor one) (Anchor other) = one < other
StandsBefore (Anchor one) (Bag other) = Unit {0}
StandsBefore (Bag one) (Anchor other) = ⊥
StandsBefore (Bag one) (Bag other) = one < other

-- all that stand as the issuer in one of the pairs, and no other, each once
pub record AreIssuersIn (pairs : List SearchQuestion) (issuers : List Issuer) : Type 0 where
  pub each : (issuer : Issuer) → Contains issuers issuer → IsIssuerIn pairs issuer
  pub all : (issuer : Issuer) → IsIssuerIn pairs issuer → Contains issuers issuer
  pub in_order : AllPairs StandsBefore issuers

-- of each pair that the search may ask about, and then of each statement, under each issuer of these pairs
pub record AreFindingQuestions (s : Search) (statements : List Statement) (asked : List Judgement) : Type 0 where
  pub pairs : List SearchQuestion
  pub issuers : List Issuer
  pub are_pairs : AreSearchQuestions s pairs
  pub pairs_in_order : AllPairs IsAskedBefore pairs
  pub are_issuers : AreIssuersIn pairs issuers
  pub are_asked : asked ≡ map (asked_of_pair s) pairs ++ asked_of_statements (map (issuer_at s) issuers) statements
