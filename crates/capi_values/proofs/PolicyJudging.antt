-- A judge's answers to the questions about a path give his verdict on the path and its policies.
use Rattle.std.proofs.Common.{◌≡◌, ◌++◌, ℕ, suc, List, [], ◌∷◌, map, refl, sym, ap, ◌∙◌, subst, inl, inr}
use Rattle.std.specs.Prelude.{Contains}
use Rattle.std.specs.List.{flat_map}
use Rattle.cert.specs.Certificate.{Certificate}
use Rattle.path.specs.Query.{Accepts, Query}
use Rattle.path_with_policies.specs.Asking.{IsOf}
use Rattle.path_with_policies.specs.WithPolicies.{QueryWithPolicies, apart}
use Rattle.relying_agreement.specs.Link.{Link, links_from}
use Rattle.relying_policies.specs.declared.verdict.VerdictWithPolicies.{VerdictWithPolicies}
use Rattle.relying_questions.specs.Agreement.{PrintsDecide}
use Rattle.relying_questions.specs.Questions.{Judgement, answer, asked_if, asked_of_delegate, asked_of_issuer, asked_of_statement, asked_of_statements, asked_under, of_answers, of_certificate, questions_of}
use Rattle.relying_questions.specs.Seen.{judgement_print}
use Rattle.statements.specs.Responder.{is_named_by}
use Rattle.statements.specs.Statement.{Statement}
use Rattle.statements_ocsp.specs.Certificates.{certificates_in}
use Rattle.statements_ocsp.specs.OcspResponse.{OcspResponse}
use Rattle.statements_ocsp.specs.Responder.{Responder, by_name, by_key}
use Rattle.capi_values.specs.Judging.{AreJudged}
use Rattle.capi_values.specs.Policies.{IsPolicyVerdictFor, IsRefusedAnswer, TellsPoliciesFor, TellsPolicyRefusal, TellsWithPolicies}
use Rattle.capi_values.specs.PolicyCase.{IsSaidOn}
use Rattle.capi_values.specs.Texts.{IsRead}
use Rattle.capi_values.specs.declared.policies.PolicyAnswer.{PolicyAnswer}
use Rattle.capi_values.specs.declared.policies.PolicyInputsOfTexts.{PolicyInputsOfTexts}
use Rattle.capi_values.specs.declared.refusal.Refusal.{Refusal}
use Rattle.capi_values.specs.declared.texts.QueryOfTexts.{QueryOfTexts}
use Rattle.capi_values.specs.declared.texts.Text.{Text}
use Rattle.capi_values.proofs.Judging.{Answers, good, only_refused, read_again}

-- ---- the same is asked of certificates whose policies are apart

abbrev asked : Link → Judgement
asked link = of_certificate link.issuer link.certificate

abbrev issuer : Link → Certificate
issuer link = link.issuer

path_same : (j : ℕ) (a : Certificate) (cs : List Certificate) → map asked (links_from j (apart a) (map apart cs)) ≡ map asked (links_from j a cs)
path_same j a [] = refl
path_same j a (c ∷ cs) = ap (λ more. of_certificate a c ∷ more) (path_same (suc j) c cs)

path_asked : (anchor : Certificate) (cs : List Certificate) → map asked (links_from 1 anchor (map apart cs)) ≡ map asked (links_from 1 anchor cs)
path_asked anchor [] = refl
path_asked anchor (c ∷ cs) = ap (λ more. of_certificate anchor c ∷ more) (path_same 2 c cs)

issuers_same : (j : ℕ) (a : Certificate) (cs : List Certificate) → map issuer (links_from j (apart a) (map apart cs)) ≡ map apart (map issuer (links_from j a cs))
issuers_same j a [] = refl
issuers_same j a (c ∷ cs) = ap (λ more. apart a ∷ more) (issuers_same (suc j) c cs)

named_same : (responder : Responder) (i : Certificate) → is_named_by responder (apart i) ≡ is_named_by responder i
named_same (by_name name) i = refl
named_same (by_key hash) i = refl

response_same : (response : OcspResponse) (i : Certificate) → asked_of_issuer (apart i) response ≡ asked_of_issuer i response
response_same response i = ap (λ named. asked_if named (of_answers i response ∷ [])) (named_same response.responder i)

under_same : (statement : Statement) (i : Certificate) → asked_under statement (apart i) ≡ asked_under statement i
under_same (Statement.OfList list) i = refl
under_same (Statement.OfResponse profile response) i =
    ap (λ own. own ++ flat_map (asked_of_delegate i response) (certificates_in response)) (response_same response i)

statement_same : (statement : Statement) (issuers : List Certificate) → asked_of_statement (map apart issuers) statement ≡ asked_of_statement issuers statement
statement_same statement [] = refl
statement_same statement (i ∷ issuers) = λ k. under_same statement i k ++ statement_same statement issuers k

issuers_asked : (anchor : Certificate) (cs : List Certificate) (statement : Statement)
    → asked_of_statement (map issuer (links_from 1 anchor (map apart cs))) statement ≡ asked_of_statement (map issuer (links_from 1 anchor cs)) statement
issuers_asked anchor [] statement = refl
issuers_asked anchor (c ∷ cs) statement =
    ap (λ more. asked_under statement anchor ++ asked_of_statement more statement) (issuers_same 2 c cs)
    ∙ ap (λ more. asked_under statement anchor ++ more) (statement_same statement (map issuer (links_from 2 c cs)))

each_same : (one other : List Certificate) → ((statement : Statement) → asked_of_statement one statement ≡ asked_of_statement other statement)
    → (statements : List Statement) → asked_of_statements one statements ≡ asked_of_statements other statements
each_same one other same [] = refl
each_same one other same (statement ∷ statements) = λ k. same statement k ++ each_same one other same statements k

abbrev questions : Certificate → List Certificate → List Statement → List Judgement
questions anchor cs statements = map asked (links_from 1 anchor cs) ++ asked_of_statements (map issuer (links_from 1 anchor cs)) statements

questions_same : (anchor : Certificate) (cs : List Certificate) (statements : List Statement) → questions anchor (map apart cs) statements ≡ questions anchor cs statements
questions_same anchor cs statements =
    λ k. path_asked anchor cs k
    ++ each_same (map issuer (links_from 1 anchor (map apart cs))) (map issuer (links_from 1 anchor cs)) (issuers_asked anchor cs) statements k

apart_questions : (path : Query) (read : QueryWithPolicies) (statements : List Statement) → IsOf path read
    → questions_of read.path statements ≡ questions_of path statements
apart_questions path read statements is =
    ap (λ anchor. questions anchor read.path.certificates statements) is.anchor
    ∙ (ap (λ cs. questions path.anchor cs statements) is.certificates.path
    ∙ questions_same path.anchor path.certificates statements)

-- ---- the judge's verdict

module _ (accepts : Accepts) (query : QueryOfTexts) (inputs : PolicyInputsOfTexts) (statements : List Text) (prints : List (List ℕ)) (are : AreJudged accepts query statements prints) where
  pub by_judge : PrintsDecide → (said : VerdictWithPolicies) → IsSaidOn query inputs statements prints said → IsPolicyVerdictFor accepts query inputs statements said
  by_judge law said on =
      let by = on.is_said in
      let case = on.is_read.query_is in
      let is_read : IsRead query statements case.path on.these = record { query_is = case.path_is; statements_are = on.is_read.statements_are } in
      let same : questions_of on.read.path on.these ≡ questions_of case.path on.these = apart_questions case.path on.read on.these case.is_of in
      let each : (one : Judgement) → Contains (questions_of on.read.path on.these) one → Answers (answer accepts one) (judgement_print one) prints =
      λ one within. good accepts query statements prints are one
      (subst (λ all. Contains all one) (same ∙ sym (read_again accepts query statements prints are case.path on.these is_read)) within) in
      record {
        read = on.read;
        these = on.these;
        is_read = on.is_read;
        is_verdict = by.adds accepts _ ((law accepts by.accepts on.read.path on.these prints by.accepts_prints each by.verdict).1 by.is_verdict);
      }

  module _ (answer_told : PolicyAnswer) (old_lengths new_lengths old_octets new_octets : List ℕ) where
    pub told_of_judge : PrintsDecide → (said : VerdictWithPolicies) → IsSaidOn query inputs statements prints said
        → TellsWithPolicies said old_lengths new_lengths old_octets new_octets answer_told
        → TellsPoliciesFor answer_told accepts query inputs statements old_lengths new_lengths old_octets new_octets
    told_of_judge law said on tells = inl (said, by_judge law said on, tells)

    pub refused_of_judge : (told : Refusal) → TellsPolicyRefusal query statements told → IsRefusedAnswer told answer_told old_lengths new_lengths old_octets new_octets
        → TellsPoliciesFor answer_told accepts query inputs statements old_lengths new_lengths old_octets new_octets
    refused_of_judge told (inl refused) is =
        inr (told, inr (only_refused accepts query statements prints are told refused), is)
    refused_of_judge told (inr other) is = inr (told, other, is)
