-- What was found at the points of a certificate, one after the other.
use Rattle.std.proofs.Common.{◌≡◌, ℕ, ◌+◌, ◌<◌, ◌≤◌, List, [], ◌∷◌, ◌++◌, map, length, take, get_or, sym, ap, ◌∙◌, append-nil, Option}
use Rattle.std.specs.List.{flat_map}
use Rattle.std.specs.Borrow.{Bor}
use Rattle.std.proofs.lemmas.List.{take_more, take_all}
use Rattle.std.proofs.lemmas.List.Concat.{flat_map-append}
use Rattle.std.proofs.lemmas.List.Folds.{flat_map-map}
use Rattle.cert.specs.Certificate.{Certificate}
use Rattle.statements_facts.specs.Statement.{IssuerIdentity, CrlAnswer, Holdings, at_point}
use Rattle.statements_facts.specs.declared.answer.Answers.{Answers}
use Rattle.statements_facts.specs.declared.answer.CrlAnswer as listed
use Rattle.relying_search.specs.View.{seen_lists}
use Rattle.relying_verdicts.specs.Found.{AreAnswersOn, AreListsAt, lists_held_under, lists_in}

module _ (issuer : IssuerIdentity) (certificate : Certificate) where
  -- the lists at a point that the code has at hand
  abbrev held_at : Holdings → Bor (List ℕ) → List (Option CrlAnswer)
  held_at held point = lists_held_under held certificate (at_point point.now issuer)

  -- what was found at the points up to a number
  abbrev pub IsSoFar : List (Bor (List ℕ)) → ℕ → Holdings → List (Option listed.CrlAnswer) → Type 0
  IsSoFar points i held lists = seen_lists lists ≡ flat_map (held_at held) (take i points)

  pub goes_on : (points : List (Bor (List ℕ))) (i : ℕ) (d : Bor (List ℕ)) (held : Holdings) (lists more : List (Option listed.CrlAnswer)) (answers : Answers)
      → i < length points → seen_lists more ≡ seen_lists lists ++ lists_in answers
      → AreAnswersOn (at_point (get_or points i d).now issuer) certificate held answers
      → IsSoFar points i held lists → IsSoFar points (i + 1) held more
  goes_on points i d held lists more answers below pushed found so_far =
      pushed
      ∙ ap (λ l. l ++ lists_in answers) so_far
      ∙ ap (λ l. flat_map (held_at held) (take i points) ++ l) (found.lists ∙ sym (append-nil (held_at held (get_or points i d))))
      ∙ sym (flat_map-append (held_at held) (take i points) (get_or points i d ∷ []))
      ∙ ap (flat_map (held_at held)) (sym (take_more points i d below))

  pub ends : (points : List (Bor (List ℕ))) (i : ℕ) (held : Holdings) (lists : List (Option listed.CrlAnswer)) → length points ≤ i → IsSoFar points i held lists
      → AreListsAt issuer certificate (map (λ (point : Bor (List ℕ)). point.now) points) held lists
  ends points i held lists le so_far =
      so_far
      ∙ ap (flat_map (held_at held)) (take_all i points le)
      ∙ sym (flat_map-map (λ (point : List ℕ). lists_held_under held certificate (at_point point issuer)) (λ (point : Bor (List ℕ)). point.now) points)
