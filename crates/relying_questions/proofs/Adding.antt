-- Questions that are added one after the other.
use Rattle.std.proofs.Common.{◌≡◌, ℕ, suc, ◌+◌, ◌<◌, List, [], ◌∷◌, ◌++◌, length, drop, map, get_or, arith, refl, sym, ap, ◌∙◌, append_assoc, subst}
use Rattle.std.specs.List.{AllPairs, flat_map, filter_map}
use Rattle.std.proofs.Math.Seq.{drop-cons}
use Rattle.std.proofs.Common.{Option, Some, None, Result, Ok, Err, IfOk}
use Rattle.asn.specs.Place.{Place}
use Rattle.cert.specs.Certificate.{Certificate}
use Rattle.statements.specs.Statement.{Statement}
use Rattle.statements_ocsp.specs.Certificates.{certificate_in, certificates_in}
use Rattle.statements_ocsp.specs.OcspResponse.{OcspResponse}
use Rattle.path_issuers.specs.Questions.{AreSearchQuestions, IsAskedBefore, issuer_at}
use Rattle.path_issuers.specs.Search.{Search}
use Rattle.path_issuers.specs.declared.question.SearchQuestion.{SearchQuestion}
use Rattle.relying_questions.specs.FindingQuestions.{AreFindingQuestions, AreIssuersIn, asked_of_pair}
use Rattle.relying_questions.specs.Issuers.{AreCertificatesOfIssuers}
use Rattle.relying_questions.specs.Questions.{Judgement, of_certificate, asked_of_delegate, asked_of_issuer, asked_of_path, asked_of_response, asked_of_statements, questions_of}
use Rattle.relying_questions.specs.Seen.{asked_of_link, asked_of_links, asked_of_option, asked_of_value, issuer_of_link, issuers_of_links, seen_all}
use Rattle.path.specs.Query.{Query}
use Rattle.relying_agreement.specs.Link.{Link, links_of}
use Rattle.relying_search.specs.View.{seen_link}
use Rattle.relying_search.specs.declared.link.Link as linked
use Rattle.relying_texts.specs.Texts.{issuers_of}
use Rattle.relying_questions.specs.declared.question.SignatureQuestion.{SignatureQuestion}

-- the next of those that are left
pub one_left : {A : Type 0} (xs : List A) (i : ℕ) (x : A) → i < length xs → x ≡ get_or xs i x → drop i xs ≡ x ∷ drop (i + 1) xs
one_left xs i x below is =
    let later : suc i ≡ i + 1 = omega arith in
    drop-cons xs i x below ∙ ap (λ y. y ∷ drop (suc i) xs) (sym is) ∙ ap (λ n. x ∷ drop n xs) later

-- the same of values that are copied
pub next_left : {A : Type 0} (xs : List A) (i : ℕ) (d : A) → i < length xs → drop i xs ≡ get_or xs i d ∷ drop (i + 1) xs
next_left xs i d below =
    let later : suc i ≡ i + 1 = omega arith in
    drop-cons xs i d below ∙ ap (λ n. get_or xs i d ∷ drop n xs) later

pub none_behind : {A : Type 0} (xs : List A) → xs ++ [] ≡ xs
none_behind [] = refl
none_behind (x ∷ xs) = ap (λ more. x ∷ more) (none_behind xs)

-- one more of those that are left asks something
pub one_more : {X : Type 0} (asks : X → List Judgement) (sofar new : List Judgement) (x : X) (left rest : List X) (whole : List Judgement)
    → left ≡ x ∷ rest → new ≡ sofar ++ asks x → sofar ++ flat_map asks left ≡ whole → new ++ flat_map asks rest ≡ whole
one_more asks sofar new x left rest whole left_is new_is so_far =
    ap (λ l. l ++ flat_map asks rest) new_is
    ∙ append_assoc sofar (asks x) (flat_map asks rest)
    ∙ ap (λ l. sofar ++ flat_map asks l) (sym left_is)
    ∙ so_far

-- none is left
pub all_asked : {X : Type 0} (asks : X → List Judgement) (sofar : List Judgement) (left : List X) (whole : List Judgement)
    → left ≡ [] → sofar ++ flat_map asks left ≡ whole → sofar ≡ whole
all_asked asks sofar left whole left_is so_far = sym (none_behind sofar) ∙ ap (λ l. sofar ++ flat_map asks l) (sym left_is) ∙ so_far

-- the same where each gives one thing
pub one_mapped : {X Y : Type 0} (f : X → Y) (sofar new : List Y) (x : X) (left rest : List X) (whole : List Y)
    → left ≡ x ∷ rest → new ≡ sofar ++ f x ∷ [] → sofar ++ map f left ≡ whole → new ++ map f rest ≡ whole
one_mapped f sofar new x left rest whole left_is new_is so_far =
    ap (λ l. l ++ map f rest) new_is
    ∙ append_assoc sofar (f x ∷ []) (map f rest)
    ∙ ap (λ l. sofar ++ map f l) (sym left_is)
    ∙ so_far

-- two steps, one after the other
pub both_asked : (old middle new some more : List Judgement) → middle ≡ old ++ some → new ≡ middle ++ more → new ≡ old ++ (some ++ more)
both_asked old middle new some more first second = second ∙ ap (λ l. l ++ more) first ∙ append_assoc old some more

-- the values of a response are asked about by the certificates among them
pub values_asked : (issuer : Certificate) (response : OcspResponse) (values : List Place)
    → flat_map (asked_of_value issuer response) values ≡ flat_map (asked_of_delegate issuer response) (filter_map certificate_in values)
values_asked issuer response [] = refl
values_asked issuer response (value ∷ values) = by (values_asked issuer response values) (certificate_in value) refl where
  by : flat_map (asked_of_value issuer response) values ≡ flat_map (asked_of_delegate issuer response) (filter_map certificate_in values)
      → (read : Option Certificate) → certificate_in value ≡ read
      → asked_of_option issuer response (certificate_in value) ++ flat_map (asked_of_value issuer response) values
      ≡ flat_map (asked_of_delegate issuer response) (filter_map certificate_in (value ∷ values))
  by rest None e = rw e rest
  by rest (Some c) e = rw e (ap (λ more. asked_of_delegate issuer response c ++ more) rest)

pub response_asked : {E : Type 0} (result : Result (Unit {0}) E) (old middle new : List Judgement) (issuer : Certificate) (response : OcspResponse)
    → middle ≡ old ++ asked_of_issuer issuer response → IfOk result (λ _. new ≡ middle ++ flat_map (asked_of_value issuer response) response.certs)
    → IfOk result (λ _. new ≡ old ++ asked_of_response issuer response)
response_asked (Ok x) old middle new issuer response first second =
    both_asked old middle new (asked_of_issuer issuer response) (flat_map (asked_of_delegate issuer response) (certificates_in response)) first
    (second ∙ ap (λ more. middle ++ more) (values_asked issuer response response.certs))
response_asked (Err e) old middle new issuer response first second = tt

-- one more that is seen
pub map_push : {X Y : Type 0} (f : X → Y) (sofar new : List X) (x : X) (y : Y) → new ≡ sofar ++ x ∷ [] → f x ≡ y → map f new ≡ map f sofar ++ y ∷ []
map_push {X = X} f sofar new x y new_is same = ap (map f) new_is ∙ behind sofar ∙ ap (λ one. map f sofar ++ one ∷ []) same where
  behind : (xs : List X) → map f (xs ++ x ∷ []) ≡ map f xs ++ f x ∷ []
  behind [] = refl
  behind (first ∷ xs) = ap (λ more. f first ∷ more) (behind xs)

-- ---- the whole

links_asked : (links : List linked.Link) → asked_of_links links ≡ map (λ (link : Link). of_certificate link.issuer link.certificate) (map seen_link links)
links_asked [] = refl
links_asked (link ∷ links) = ap (λ more. asked_of_link link ∷ more) (links_asked links)

issuers_are : (links : List linked.Link) → issuers_of_links links ≡ map (λ (link : Link). link.issuer) (map seen_link links)
issuers_are [] = refl
issuers_are (link ∷ links) = ap (λ more. issuer_of_link link ∷ more) (issuers_are links)

pub all_questions : (query : Query) (statements : List Statement) (links one other : List linked.Link) (issuers same_issuers : List Certificate)
    (start : List SignatureQuestion) (middle new : List Judgement) → start ≡ [] → one ≡ links → other ≡ links → map seen_link links ≡ links_of query
    → issuers ≡ issuers_of_links other → same_issuers ≡ issuers → middle ≡ seen_all start ++ asked_of_links one
    → new ≡ middle ++ asked_of_statements same_issuers statements → new ≡ questions_of query statements
all_questions query statements links one other issuers same_issuers start middle new start_is one_is other_is links_are issuers_of_other same first second =
    let path : asked_of_links one ≡ asked_of_path query =
    ap asked_of_links one_is ∙ links_asked links ∙ ap (map (λ (link : Link). of_certificate link.issuer link.certificate)) links_are in
    let under : same_issuers ≡ issuers_of query =
    same ∙ issuers_of_other ∙ ap issuers_of_links other_is ∙ issuers_are links ∙ ap (map (λ (link : Link). link.issuer)) links_are in
    second
    ∙ ap (λ is. middle ++ asked_of_statements is statements) under
    ∙ ap (λ l. l ++ asked_of_statements (issuers_of query) statements) (first ∙ ap (λ s. seen_all s ++ asked_of_links one) start_is ∙ path)

pub finding_asked : (s : Search) (statements : List Statement) (pairs one other : List SearchQuestion) (certificates same_certificates : List Certificate)
    (start : List SignatureQuestion) (middle new : List Judgement) → AreSearchQuestions s pairs → AllPairs IsAskedBefore pairs → start ≡ [] → one ≡ pairs
    → other ≡ pairs → AreCertificatesOfIssuers s one certificates → same_certificates ≡ certificates
    → middle ≡ seen_all start ++ map (asked_of_pair s) other → new ≡ middle ++ asked_of_statements same_certificates statements
    → AreFindingQuestions s statements new
finding_asked s statements pairs one other certificates same_certificates start middle new are order start_is one_is other_is of same first second = record {
  pairs = pairs;
  issuers = of.issuers;
  are_pairs = are;
  pairs_in_order = order;
  are_issuers = subst (λ (l : List SearchQuestion). AreIssuersIn l of.issuers) one_is of.are_issuers;
  are_asked =
      second
      ∙ ap (λ (l : List Certificate). middle ++ asked_of_statements l statements) (same ∙ of.are_certificates)
      ∙ ap (λ (l : List Judgement). l ++ asked_of_statements (map (issuer_at s) of.issuers) statements)
      (first ∙ ap (λ (l : List SignatureQuestion). seen_all l ++ map (asked_of_pair s) other) start_is ∙ ap (map (asked_of_pair s)) other_is);
}
