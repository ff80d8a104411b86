-- Verifiers that answer the questions alike find the same.
use Rattle.std.proofs.Common.{◌≡◌, ◌<◌, inl, inr, ℕ, suc, List, [], ◌∷◌, ◌++◌, length, map, get_or, subst}
use Rattle.std.specs.List.{AllByRecursion, Contains, flat_map}
use Rattle.std.proofs.lemmas.List.Elements.{All-contains, All-from_recursion, Contains-get_or, recursion_from_All}
use Rattle.cert.specs.Certificate.{Certificate}
use Rattle.path.specs.Query.{Query, Accepts}
use Rattle.path.specs.Validity.{IsOutcome, IsValidPath}
use Rattle.path.specs.declared.reason.Outcome.{Outcome}
use Rattle.path.specs.declared.reason.Outcome.TheVariants.{Good, Bad}
use Rattle.path_issuers.specs.Links.{certificate_at}
use Rattle.path_issuers.specs.Questions.{IsSearchQuestion, issuer_at}
use Rattle.path_issuers.specs.Search.{Search, Candidate, IsFirstValid, IsValidCandidate, query_about}
use Rattle.path_issuers.specs.declared.question.Issuer.{Issuer}
use Rattle.path_issuers.specs.declared.question.SearchQuestion.{SearchQuestion}
use Rattle.path_search.specs.Answer.{HasRightTails, IsRightTail}
use Rattle.path_search.specs.declared.answer.Budget.{Budget}
use Rattle.relying_agreement.specs.Link.{Link, links_from}
use Rattle.relying_agreement.specs.Verdict.{verdict_of}
use Rattle.relying_agreement.specs.declared.verdict.Verdict.{Verdict}
use Rattle.relying_agreement.specs.declared.verdict.Verdict.TheVariants.{Invalid, Revoked, Unknown, Valid}
use Rattle.relying_search.specs.Finding.{Finding, HasMoreThan, HasOtherVerdict, HasVerdict, HeldFor, IsFinding, IsFirstOther, IsUsedUp}
use Rattle.relying_search.specs.declared.finding.FindingBudget.{FindingBudget}
use Rattle.relying_texts.specs.Texts.{held_for, issuers_of}
use Rattle.statements.specs.Statement.{Statement}
use Rattle.relying_questions.specs.Agreement.{FindingPrintsDecide, FindingQuestionsDecide}
use Rattle.relying_questions.specs.FindingQuestions.{AreFindingQuestions, asked_of_pair}
use Rattle.relying_questions.specs.Questions.{Judgement, answer, asked_of_path, asked_of_statement, asked_of_statements, asked_under, of_certificate, questions_of}
use Rattle.relying_questions.proofs.Alike.{Alike, before, behind, each_alike, turned}
use Rattle.relying_questions.proofs.Marking.{mapped}
use Rattle.relying_questions.proofs.Pairs.{Neighbours, path_asked}
use Rattle.relying_questions.proofs.PathAlike.{outcome_alike}
use Rattle.relying_questions.proofs.Prints.{alike}
use Rattle.relying_questions.proofs.SameVerdicts.{decided}
use Rattle.relying_questions.proofs.Tails.{PairsAlike, tail_too}

-- ---- what is found, by what carries over from one verifier to the other

pub each_too : {X : Type 0} (P Q : X → Type 0) → ((x : X) → P x → Q x) → (xs : List X) → AllByRecursion P xs → AllByRecursion Q xs
each_too P Q too [] all = tt
each_too P Q too (x ∷ xs) all = (too x all.0, each_too P Q too xs all.1)

-- valid paths, their verdicts and right tails are the same for another
record Carries (accepts other : Accepts) (held others : HeldFor) (s : Search) : Type 0 where
  valid : (c : Candidate) → IsValidCandidate accepts s c → IsValidCandidate other s c
  verdict : (c : Candidate) (verdict : Verdict) → IsValidCandidate accepts s c → HasVerdict accepts held s c verdict → HasVerdict other others s c verdict
  tails : (count : ℕ) → HasRightTails accepts s count → HasRightTails other s count

-- a path with the verdict Valid is valid
clear_is_valid : (accepts : Accepts) (held : HeldFor) (s : Search) (c : Candidate) → HasVerdict accepts held s c Valid → IsValidCandidate accepts s c
clear_is_valid accepts held s c has = record {
  candidate = has.candidate;
  valid = good has.verdict_is.outcome has.verdict_is.is_outcome has.verdict_is.verdict_is;
}
  where
    good : (outcome : Outcome) → IsOutcome accepts (query_about s c) outcome → Valid ≡ verdict_of outcome (query_about s c) (held (query_about s c))
        → IsValidPath accepts (query_about s c)
    good Good is e = is
    good (Bad j reason) is e = absurd cc

module _ (accepts other : Accepts) (held others : HeldFor) (s : Search) (there : Carries accepts other held others s)
    (back : Carries other accepts others held s) where
  clear_too : (c : Candidate) → HasVerdict accepts held s c Valid → HasVerdict other others s c Valid
  clear_too c has = there.verdict c Valid (clear_is_valid accepts held s c has) has

  clear_back : (c : Candidate) → HasVerdict other others s c Valid → HasVerdict accepts held s c Valid
  clear_back c has = back.verdict c Valid (clear_is_valid other others s c has) has

  first_valid_too : (c : Candidate) → IsFirstValid accepts s c → IsFirstValid other s c
  first_valid_too c is = record { valid = there.valid c is.valid; first = λ earlier less valid. is.first earlier less (back.valid earlier valid) }

  first_other_too : (c : Candidate) (verdict : Verdict) → IsFirstOther accepts held s c verdict → IsFirstOther other others s c verdict
  first_other_too c verdict is = record {
    first = first_valid_too c is.first;
    has = there.verdict c verdict is.first.valid is.has;
    none = λ d has. is.none d (clear_back d has);
  }

  other_verdict_too : (c : Candidate) → HasOtherVerdict accepts held s c → HasOtherVerdict other others s c
  other_verdict_too c is = record {
    verdict = is.verdict;
    valid = there.valid c is.valid;
    has = there.verdict c is.verdict is.valid is.has;
    other = is.other;
  }

  more_too : (count : ℕ) → HasMoreThan accepts held s count → HasMoreThan other others s count
  more_too count more = record {
    candidates = more.candidates;
    further = more.further;
    each = each_too (HasOtherVerdict accepts held s) (HasOtherVerdict other others s) other_verdict_too more.candidates more.each;
    valid = there.valid more.further more.valid;
    descending = more.descending;
    enough = more.enough;
  }

  used_up_too : (budget : Budget) → IsUsedUp accepts s budget → IsUsedUp other s budget
  used_up_too budget (inl less) = inl less
  used_up_too budget (inr tails) = inr (there.tails budget.steps tails)

  finding_too : (budget : FindingBudget) (finding : Finding) → IsFinding accepts held s budget finding → IsFinding other others s budget finding
  finding_too budget (Finding.Found c Valid) is = record {
    clear = clear_too c is.clear;
    first = λ earlier less has. is.first earlier less (clear_back earlier has);
  }
  finding_too budget (Finding.Found c (Invalid j reason)) is = first_other_too c (Invalid j reason) is
  finding_too budget (Finding.Found c (Revoked j reason)) is = first_other_too c (Revoked j reason) is
  finding_too budget (Finding.Found c (Unknown j)) is = first_other_too c (Unknown j) is
  finding_too budget Finding.NotFound none = λ c valid. none c (back.valid c valid)
  finding_too budget Finding.GaveUp (inl used) = inl (used_up_too budget.search used)
  finding_too budget Finding.GaveUp (inr more) = inr (more_too budget.verdicts more)

-- ---- questions that are answered alike

module _ (accepts other : Accepts) where
  joined : (some more : List Judgement) → Alike accepts other some → Alike accepts other more → Alike accepts other (some ++ more)
  joined [] more one two = two
  joined (asked ∷ some) more one two = (one.0, joined some more one.1 two)

  each_asked : {X : Type 0} (asks : X → List Judgement) (xs : List X) → Alike accepts other (flat_map asks xs) → AllByRecursion (λ x. Alike accepts other (asks x)) xs
  each_asked asks [] all = tt
  each_asked asks (x ∷ xs) all =
      (before accepts other (asks x) (flat_map asks xs) all, each_asked asks xs (behind accepts other (asks x) (flat_map asks xs) all))

  all_asked : {X : Type 0} (asks : X → List Judgement) (xs : List X) → AllByRecursion (λ x. Alike accepts other (asks x)) xs → Alike accepts other (flat_map asks xs)
  all_asked asks [] each = tt
  all_asked asks (x ∷ xs) each = joined (asks x) (flat_map asks xs) each.0 (all_asked asks xs each.1)

  each_mapped : {X : Type 0} (asks : X → Judgement) (xs : List X) → Alike accepts other (map asks xs)
      → AllByRecursion (λ x. answer accepts (asks x) ≡ answer other (asks x)) xs
  each_mapped asks [] all = tt
  each_mapped asks (x ∷ xs) all = (all.0, each_mapped asks xs all.1)

  module _ (statements : List Statement) where
    -- each statement is asked about alike under the issuer
    abbrev ToldAlike : Certificate → Type 0
    ToldAlike issuer = (read : Statement) → Contains statements read → Alike accepts other (asked_under read issuer)

    told_under : (issuers : List Certificate) → Alike accepts other (asked_of_statements issuers statements)
        → (issuer : Certificate) → Contains issuers issuer → ToldAlike issuer
    told_under issuers all issuer stands read among =
        let one = All-contains (λ r. Alike accepts other (asked_of_statement issuers r)) statements read
        (All-from_recursion (λ r. Alike accepts other (asked_of_statement issuers r)) statements (each_asked (asked_of_statement issuers) statements all)) among in
        All-contains (λ i. Alike accepts other (asked_under read i)) issuers issuer
        (All-from_recursion (λ i. Alike accepts other (asked_under read i)) issuers (each_asked (asked_under read) issuers one)) stands

    all_told : (issuers : List Certificate) → AllByRecursion ToldAlike issuers → Alike accepts other (asked_of_statements issuers statements)
    all_told issuers told =
        all_asked (asked_of_statement issuers) statements
        (recursion_from_All (λ r. Alike accepts other (asked_of_statement issuers r)) statements
        (λ k d within. all_asked (asked_under (get_or statements k d)) issuers
        (each_too ToldAlike (λ i. Alike accepts other (asked_under (get_or statements k d) i))
        (λ i here. here (get_or statements k d) (there k d within)) issuers told)))
      where
        there : (k : ℕ) (d : Statement) → k < length statements → Contains statements (get_or statements k d)
        there k d within = Contains-get_or statements k d within

    -- a certificate is asked about alike under its issuer, and the statements too
    abbrev AskedAlike : Certificate → Certificate → Type 0
    AskedAlike issuer c = (answer accepts (of_certificate issuer c) ≡ answer other (of_certificate issuer c)) × ToldAlike issuer

    links_asked : (n : ℕ) (issuer : Certificate) (path : List Certificate) → Neighbours AskedAlike (issuer ∷ path)
        → Alike accepts other (map (λ (link : Link). of_certificate link.issuer link.certificate) (links_from n issuer path))
        × AllByRecursion ToldAlike (map (λ (link : Link). link.issuer) (links_from n issuer path))
    links_asked n issuer [] all = (tt, tt)
    links_asked n issuer (c ∷ path) all =
        let rest = links_asked (suc n) c path all.1 in
        ((all.0.0, rest.0), (all.0.1, rest.1))

    query_asked : (query : Query) → Neighbours AskedAlike (query.anchor ∷ query.certificates) → Alike accepts other (questions_of query statements)
    query_asked query all =
        let links = links_asked 1 query.anchor query.certificates all in
        joined (asked_of_path query) (asked_of_statements (issuers_of query) statements) links.0 (all_told (issuers_of query) links.1)

    -- ---- the questions about a search

    module _ (s : Search) (asked : (issuer : Issuer) (below : ℕ) → IsSearchQuestion s (record { issuer = issuer; certificate = below })
        → AskedAlike (issuer_at s issuer) (certificate_at s below)) where
      path_alike : (c : Candidate) → IsValidCandidate accepts s c → Alike accepts other (questions_of (query_about s c) statements)
      path_alike c valid = query_asked (query_about s c) (path_asked s AskedAlike asked accepts c valid)

      carries : Carries accepts other (held_for accepts statements) (held_for other statements) s
      carries = record {
        valid = λ c valid. record {
          candidate = valid.candidate;
          valid = outcome_alike accepts other (query_about s c)
              (before accepts other (asked_of_path (query_about s c)) (asked_of_statements (issuers_of (query_about s c)) statements) (path_alike c valid)) Good valid.valid;
        };
        verdict = λ c verdict valid has. record {
          candidate = has.candidate;
          verdict_is = decided accepts other (query_about s c) statements (path_alike c valid) verdict has.verdict_is;
        };
        tails = λ count has. record {
          tails = has.tails;
          right = each_too (IsRightTail accepts s) (IsRightTail other s) (tail_too accepts other s (λ issuer below is. (asked issuer below is).0)) has.tails has.right;
          different = has.different;
          enough = has.enough;
        };
      }

    pairs_of : (s : Search) (questions : List Judgement) → AreFindingQuestions s statements questions → Alike accepts other questions
        → (issuer : Issuer) (below : ℕ) → IsSearchQuestion s (record { issuer = issuer; certificate = below }) → AskedAlike (issuer_at s issuer) (certificate_at s below)
    pairs_of s questions are all issuer below is =
        let pair : SearchQuestion = record { issuer = issuer; certificate = below } in
        let among = are.are_pairs.all pair is in
        let issuers = map (issuer_at s) are.issuers in
        let whole = subst (Alike accepts other) are.are_asked all in
        let pairs = before accepts other (map (asked_of_pair s) are.pairs) (asked_of_statements issuers statements) whole in
        let told = behind accepts other (map (asked_of_pair s) are.pairs) (asked_of_statements issuers statements) whole in (
          All-contains (λ p. answer accepts (asked_of_pair s p) ≡ answer other (asked_of_pair s p)) are.pairs pair
              (All-from_recursion (λ p. answer accepts (asked_of_pair s p) ≡ answer other (asked_of_pair s p)) are.pairs (each_mapped (asked_of_pair s) are.pairs pairs)) among,
          told_under issuers told (issuer_at s issuer) (mapped (issuer_at s) are.issuers issuer (are.are_issuers.all issuer (below, among))),
        )

    questions_carry : (s : Search) (questions : List Judgement) → AreFindingQuestions s statements questions → Alike accepts other questions
        → Carries accepts other (held_for accepts statements) (held_for other statements) s
    questions_carry s questions are all = carries s (pairs_of s questions are all)

    -- about certificates alone
    pub pairs_alike : (s : Search) (questions : List Judgement) → AreFindingQuestions s statements questions → Alike accepts other questions → PairsAlike accepts other s
    pairs_alike s questions are all = λ issuer below is. (pairs_of s questions are all issuer below is).0

pub finding_questions_decide : FindingQuestionsDecide
finding_questions_decide s statements questions are accepts other alike budget finding =
    let each = each_alike accepts other questions alike in
    let there = questions_carry accepts other statements s questions are each in
    let back = questions_carry other accepts statements s questions are (turned accepts other questions each) in (
      finding_too accepts other (held_for accepts statements) (held_for other statements) s there back budget finding,
      finding_too other accepts (held_for other statements) (held_for accepts statements) s back there budget finding,
    )

pub finding_prints_decide : FindingPrintsDecide
finding_prints_decide accepts by_prints s statements questions prints are accepting good =
    finding_questions_decide s statements questions are accepts by_prints
    (λ asked within. alike accepts by_prints prints asked accepting (good asked within))
