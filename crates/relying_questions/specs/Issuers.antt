-- The issuers of a search's questions, by the numbers of their texts: the anchors first, then the target, then the bag.
use Rattle.std.specs.Prelude.{◌≡◌, ◌+◌, ◌-◌, ℕ, suc, Bool, true, false, List, [], ◌∷◌, Contains, if◌then◌else◌, leb, length, ltb, map, slice_index_or}
use Rattle.cert.specs.Certificate.{Certificate}
use Rattle.path_issuers.specs.Questions.{IsThere, issuer_at}
use Rattle.path_issuers.specs.Search.{Search}
use Rattle.path_issuers.specs.declared.question.Issuer.{Issuer}
use Rattle.path_issuers.specs.declared.question.Issuer.TheVariants.{Anchor, Bag}
use Rattle.path_issuers.specs.declared.question.SearchQuestion.{SearchQuestion}
use Rattle.relying_questions.specs.FindingQuestions.{AreIssuersIn, IsIssuerIn}

-- the number of the text of a certificate by its place in the bag; of the target, if there is none
abbrev pub text_at : Search → ℕ → ℕ
text_at s place = if ltb place (length s.bag) then length s.anchors + 1 + place else length s.anchors

abbrev pub text_of : Search → Issuer → ℕ
text_of s (Anchor place) = place
text_of s (Bag place) = text_at s place

-- the issuer whose text has the number; for that of the target, an anchor that is not there
abbrev pub issuer_in : Search → ℕ → Issuer
issuer_in s number = if leb number (length s.anchors) then Anchor number else Bag (number - (length s.anchors + 1))

-- the issuer of each pair is there
abbrev pub IssuersAreThere : Search → List SearchQuestion → Type 0
IssuersAreThere s pairs = (pair : SearchQuestion) → Contains pairs pair → IsThere s pair.issuer

abbrev pub IsMarked : List Bool → ℕ → Type 0
IsMarked marks number = slice_index_or marks number false ≡ true

-- the issuers of the pairs are marked, and no other text
pub record AreMarks (s : Search) (pairs : List SearchQuestion) (marks : List Bool) : Type 0 where
  pub count : length marks ≡ length s.anchors + 1 + length s.bag
  pub each : (number : ℕ) → IsMarked marks number → IsIssuerIn pairs (issuer_in s number)
  pub all : (issuer : Issuer) → IsIssuerIn pairs issuer → IsMarked marks (text_of s issuer)

-- the numbers that are marked, of marks that begin with a number
abbrev pub marked_from : ℕ → List Bool → List ℕ
marked_from n [] = []
marked_from n (true ∷ marks) = n ∷ marked_from (suc n) marks
marked_from n (false ∷ marks) = marked_from (suc n) marks

abbrev pub issuers_marked : Search → List Bool → List Issuer
issuers_marked s marks = map (issuer_in s) (marked_from 0 marks)

abbrev pub MarkedAreThere : Search → List Bool → Type 0
MarkedAreThere s marks = (number : ℕ) → IsMarked marks number → IsThere s (issuer_in s number)

-- the certificates are those of the issuers in the pairs
pub record AreCertificatesOfIssuers (s : Search) (pairs : List SearchQuestion) (certificates : List Certificate) : Type 0 where
  pub issuers : List Issuer
  pub are_issuers : AreIssuersIn pairs issuers
  pub are_certificates : certificates ≡ map (issuer_at s) issuers
