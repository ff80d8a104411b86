-- The fingerprints of what a verifier answers by yes.
use Rattle.std.proofs.Common.{◌≡◌, ◌↔◌, ℕ, Bool, true, false, List, refl, sym}
use Rattle.std.specs.Prelude.{Contains, IsTrue}
use Rattle.path.specs.Query.{Accepts}
use Rattle.relying_questions.specs.Agreement.{AcceptsPrints, PrintsDecide, QuestionsDecide}
use Rattle.relying_questions.specs.Questions.{Judgement, answer}
use Rattle.relying_questions.specs.Seen.{judgement_print}

same_truth : (a b : Bool) (C : Type 0) → (IsTrue a ↔ C) → (IsTrue b ↔ C) → a ≡ b
same_truth true true C is also = refl
same_truth true false C is also = sym (also.1 (is.0 refl))
same_truth false true C is also = is.1 (also.0 refl)
same_truth false false C is also = refl

pub alike : (accepts by_prints : Accepts) (prints : List (List ℕ)) (asked : Judgement) → AcceptsPrints by_prints prints → (IsTrue (answer accepts asked) ↔ Contains prints (judgement_print asked))
    → answer accepts asked ≡ answer by_prints asked
alike accepts by_prints prints asked are good =
    same_truth (answer accepts asked) (answer by_prints asked) (Contains prints (judgement_print asked)) good (are asked.algorithm asked.key_info asked.message asked.signature)

pub prints_decide : QuestionsDecide → PrintsDecide
prints_decide law accepts by_prints query statements prints are good =
    law query statements accepts by_prints (λ asked within. alike accepts by_prints prints asked are (good asked within))
