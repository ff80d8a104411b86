-- Fronts of entries.
use Rattle.std.proofs.Common.{◌≡◌, ◌++◌, ◌∷◌, [], List, ℕ, OnErr, Option, Result, Ok, Err, if◌then◌else◌, subst, sym, true}
use Rattle.std.specs.Io.KnownBytes.{Appends}
use Rattle.cli_answers.specs.Fronts.{TakesFront}
use Rattle.cli_answers.proofs.Laws.{front_behind, front_of_more}
use Rattle.cli_failures.specs.Topics.{is_on_topic, line_if_about}

module _ (words : List (List ℕ)) (entry : List ℕ) (about : is_on_topic words entry ≡ true) where
  line : (a b : Option (List ℕ)) → TakesFront a b (entry ++ 10 ∷ []) → TakesFront a b (line_if_about words entry)
  line a b front = subst (λ is. TakesFront a b (if is then entry ++ 10 ∷ [] else [])) (sym about) front

  -- the entry itself was not taken whole
  pub of_entry : (a b : Option (List ℕ)) → TakesFront a b entry → TakesFront a b (line_if_about words entry)
  of_entry a b front = line a b (front_of_more a b entry (10 ∷ []) front)

  -- its line feed was not
  pub of_feed : {T E : Type 0} (result : Result T E) (a b c : Option (List ℕ)) → Appends a b entry → OnErr result (TakesFront b c (10 ∷ [])) → OnErr result (TakesFront a c (line_if_about words entry))
  of_feed (Ok done) a b c before front = tt
  of_feed (Err error) a b c before front = line a c (front_behind a b c entry (10 ∷ []) before front)
