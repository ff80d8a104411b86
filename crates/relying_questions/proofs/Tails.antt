-- Verifiers that answer alike about the pairs of a search have the same right tails.
use Rattle.std.proofs.Common.{◌≡◌, ℕ, ℤ, List, [], ◌∷◌, Option, sym, ◌∙◌}
use Rattle.cert.specs.Certificate.{Certificate}
use Rattle.path.specs.declared.options.Options.{Options}
use Rattle.path.specs.Query.{Accepts}
use Rattle.path_issuers.specs.Factors.{AreRight}
use Rattle.path_issuers.specs.Links.{certificate_at}
use Rattle.path_issuers.specs.Questions.{IsSearchQuestion, issuer_at}
use Rattle.path_issuers.specs.Search.{Search, path_down_to}
use Rattle.path_issuers.specs.declared.question.Issuer.{Issuer}
use Rattle.path_search.specs.Answer.{IsRightTail}
use Rattle.relying_questions.specs.Questions.{answer, of_certificate}
use Rattle.relying_questions.proofs.Pairs.{Neighbours, tail_asked}

-- whether the issuer's key accepts the signature of the certificate
abbrev pub SignedAlike : Accepts → Accepts → Certificate → Certificate → Type 0
SignedAlike accepts other issuer c = answer accepts (of_certificate issuer c) ≡ answer other (of_certificate issuer c)

-- the same of each pair that the search may ask about
abbrev pub PairsAlike : Accepts → Accepts → Search → Type 0
PairsAlike accepts other s =
    (issuer : Issuer) (below : ℕ) → IsSearchQuestion s (record { issuer = issuer; certificate = below })
    → SignedAlike accepts other (issuer_at s issuer) (certificate_at s below)

module _ (accepts other : Accepts) where
  right_too : (options : Options) (moment : ℤ) (purpose : Option (List ℕ)) (cs : List Certificate) → AreRight options accepts moment purpose cs
      → Neighbours (SignedAlike accepts other) cs → AreRight options other moment purpose cs
  right_too options moment purpose [] right all = right
  right_too options moment purpose (c ∷ []) right all = right
  right_too options moment purpose (c ∷ next ∷ below) right all = (
    record {
      authority = right.0.authority;
      issues = record { named = right.0.issues.named; signed = sym all.0 ∙ right.0.issues.signed };
      different = right.0.different;
      length = right.0.length;
      names = right.0.names;
    },
    right_too options moment purpose (next ∷ below) right.1 all.1,
  )

  module _ (s : Search) (alike : PairsAlike accepts other s) where
    pub tail_too : (above : List ℕ) → IsRightTail accepts s above → IsRightTail other s above
    tail_too above is = record {
      there = is.there;
      right = right_too s.options s.moment s.purpose (path_down_to s.target s.bag above) is.right
          (tail_asked s (SignedAlike accepts other) alike accepts above is.there is.right);
    }
