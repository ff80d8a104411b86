-- What is found if no further path may be asked about, by the answer of the paths that are left.
use Rattle.std.proofs.Common.{◌≡◌, refl, sym, subst}
use Rattle.path_search.specs.Paths.{AnswersNext}
use Rattle.path_search.specs.declared.answer.Answer.{Answer}
use Rattle.path_search.specs.declared.answer.Answer.TheVariants as A
use Rattle.path_search.specs.declared.answer.Candidate as path
use Rattle.path_search.specs.declared.paths.Paths.{Paths}
use Rattle.relying_search.specs.Asked.{found_first}
use Rattle.relying_search.specs.Finding.{seen_finding}
use Rattle.relying_search.specs.declared.finding.Finding as code
use Rattle.relying_search.specs.declared.finding.Finding.TheVariants as C
use Rattle.relying_search.specs.AskedAmong.{EndsAfter, IsFoundAfter}
use Rattle.relying_search.specs.declared.among_asked.AskedAmong.{AskedAmong}

module _ (paths next : Paths) (asked : AskedAmong) (answer : Answer) (answers : AnswersNext paths next answer) where
  by : (finding : code.Finding) (other : Answer) → answer ≡ other → IsFoundAfter asked other finding → EndsAfter paths asked finding
  by finding other is found = record { next = next; answer = answer; answers = answers; found = subst (λ a. IsFoundAfter asked a finding) (sym is) found }

  pub none_left : (finding : code.Finding) → answer ≡ A.NotFound → seen_finding finding ≡ found_first asked.first → EndsAfter paths asked finding
  none_left finding is found = by finding A.NotFound is found

  pub one_left : (c : path.Candidate) → answer ≡ A.Found c → EndsAfter paths asked C.GaveUp
  one_left c is = by C.GaveUp (A.Found c) is refl

  pub used_up : answer ≡ A.GaveUp → EndsAfter paths asked C.GaveUp
  used_up is = by C.GaveUp A.GaveUp is refl
