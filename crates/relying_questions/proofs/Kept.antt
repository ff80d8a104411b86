-- Questions whose parts stand in their texts, one after the other.
use Rattle.std.proofs.Common.{◌≡◌, ◌+◌, ◌-◌, ◌<◌, ℕ, zero, suc, List, [], ◌∷◌, ◌++◌, length, map, get_or, slice_index_or, arith, Result, Ok, Err, IfOk, refl, sym, ap, ◌∙◌, subst}
use Rattle.std.specs.List.{AllByRecursion}
use Rattle.std.proofs.lemmas.List.{get_or-map}
use Rattle.std.proofs.lemmas.List.Elements.{All-from_recursion}
use Rattle.asn.specs.DerLaws.{AreOctets}
use Rattle.cert.specs.Certificate.{Certificate}
use Rattle.path.specs.Query.{Query}
use Rattle.statements.specs.Statement.{Statement, StatementIsExactUnder, statement_under}
use Rattle.statements_facts.specs.declared.profile.Profile.{Profile}
use Rattle.relying_agreement.specs.Link.{links_from, links_of}
use Rattle.relying_questions.specs.declared.question.SignatureQuestion.{SignatureQuestion}
use Rattle.relying_questions.specs.declared.part.WhichText.TheVariants as source
use Rattle.relying_questions.specs.Places.{Texts, AllInTexts, AreInTexts, HasParts, KeepsInTexts, LinkStands, StatementStands}
use Rattle.relying_questions.specs.Places.{StatementsStand, WasReadInSomeProfile, WereRead, WereStatementsRead, statement_text, texts_at, texts_in}
use Rattle.relying_questions.proofs.Standing.{has_parts, list_stands, response_stands}

-- one more
pub pushed : {X : Type 0} (P : X → Type 0) (xs : List X) (x : X) → AllByRecursion P xs → P x → AllByRecursion P (xs ++ x ∷ [])
pushed P [] x all one = (one, tt)
pushed P (first ∷ xs) x all one = (all.0, pushed P xs x all.1 one)

pub kept_one : (Premise : Texts → Type 0) (old sofar new : List SignatureQuestion) (asked : SignatureQuestion) → KeepsInTexts Premise old sofar → new ≡ sofar ++ asked ∷ []
    → ((texts : Texts) → Premise texts → AreInTexts texts asked) → KeepsInTexts Premise old new
kept_one Premise old sofar new asked keeps new_is one texts holds all =
    subst (AllInTexts texts) (sym new_is) (pushed (AreInTexts texts) sofar asked (keeps texts holds all) (one texts holds))

-- one step after another
pub kept_more : (Premise Weaker : Texts → Type 0) (old sofar new : List SignatureQuestion) → KeepsInTexts Premise old sofar → KeepsInTexts Weaker sofar new
    → ((texts : Texts) → Premise texts → Weaker texts) → KeepsInTexts Premise old new
kept_more Premise Weaker old sofar new keeps more weaker texts holds all = more texts (weaker texts holds) (keeps texts holds all)

-- of all, the one at an index
pub at_index : {X Y : Type 0} (P : Y → Type 0) (f : X → Y) (xs : List X) (i : ℕ) (x : X) → AllByRecursion P (map f xs) → i < length xs → x ≡ get_or xs i x → P (f x)
at_index P f [] i x all below is = absurd (omega (arith, below))
at_index P f (y ∷ xs) zero x all below is = subst (λ z. P (f z)) (sym is) all.0
at_index P f (y ∷ xs) (suc i) x all below is = at_index P f xs i x all.1 (omega (arith, below)) is

pub each_at : {X : Type 0} (P : X → Type 0) (xs : List X) (i : ℕ) (x : X) → AllByRecursion P xs → i < length xs → x ≡ get_or xs i x → P x
each_at P xs i x all below is = subst P (sym is) (All-from_recursion P xs all i x below)

-- ---- the certificates of a path

-- the certificates are the texts from a number on
abbrev TextsFrom : Texts → ℕ → List Certificate → Type 0
TextsFrom texts n [] = Unit {0}
TextsFrom texts n (c ∷ path) = (texts (source.Certificate n) ≡ c.octets) × TextsFrom texts (suc n) path

pub placed : (text : List ℕ) (c : Certificate) → text ≡ c.octets → WasReadInSomeProfile c → HasParts text c
placed text c is read = subst (λ t. HasParts t c) (sym is) (has_parts c read)

links_stand : (texts : Texts) (n : ℕ) (issuer : Certificate) (path : List Certificate) → texts (source.Certificate n) ≡ issuer.octets
    → WasReadInSomeProfile issuer
    → TextsFrom texts (suc n) path → AllByRecursion WasReadInSomeProfile path → AllByRecursion (LinkStands texts) (links_from (suc n) issuer path)
links_stand texts n issuer [] text read all were = tt
links_stand texts n issuer (c ∷ path) text read all were =
    let earlier : suc n - 1 ≡ n = omega arith in (
      record {
        issuer = placed (texts (source.Certificate (suc n - 1))) issuer (ap (λ k. texts (source.Certificate k)) earlier ∙ text) read;
        certificate = placed (texts (source.Certificate (suc n))) c all.0 were.0;
      },
      links_stand texts (suc n) c path all.0 were.0 all.1 were.1,
    )

texts_from : (texts : Texts) (n : ℕ) (path : List Certificate) (d : Certificate) → ((j : ℕ) → j < length path → texts (source.Certificate (n + j)) ≡ (slice_index_or path j d).octets) → TextsFrom texts n path
texts_from texts n [] d all = tt
texts_from texts n (c ∷ path) d all =
    let here : n + 0 ≡ n = omega arith in (
      subst (λ k. texts (source.Certificate k) ≡ c.octets) here (all 0 (omega arith)),
      texts_from texts (suc n) path d (λ j below. subst (λ k. texts (source.Certificate k) ≡ (slice_index_or path j d).octets) (next n j) (all (suc j) (omega (arith, below)))),
    )
  where
    next : (n j : ℕ) → n + suc j ≡ suc n + j
    next n j = omega arith

numbered : (j : ℕ) → 1 + j ≡ suc j
numbered j = omega arith

pub query_stands : (query : Query) (statements : List (List ℕ)) → WereRead query → AllByRecursion (LinkStands (texts_in query statements)) (links_of query)
query_stands query statements were =
    links_stand (texts_in query statements) 0 query.anchor query.certificates refl were.0
    (texts_from (texts_in query statements) 1 query.certificates query.anchor
    (λ j below. ap (λ k. texts_in query statements (source.Certificate k)) (numbered j) ∙ get_or-map (λ (c : Certificate). c.octets) query.certificates j query.anchor [] below))
    were.1

-- ---- what a call answers

pub kept_by : {E : Type 0} (result : Result (Unit {0}) E) (Premise Weaker : Texts → Type 0) (old new : List SignatureQuestion) → IfOk result (λ _. KeepsInTexts Weaker old new)
    → ((texts : Texts) → Premise texts → Weaker texts) → IfOk result (λ _. KeepsInTexts Premise old new)
kept_by (Ok x) Premise Weaker old new keeps weaker = λ texts holds all. keeps texts (weaker texts holds) all
kept_by (Err e) Premise Weaker old new keeps weaker = tt

-- ---- statements

abbrev AreExact : Type 0
AreExact = (profile : Profile) → StatementIsExactUnder profile

statement_stands : AreExact → (profile : Profile) (text : List ℕ) (read : Statement) → AreOctets text → statement_under profile text ≡ Ok read
    → StatementStands text read
statement_stands exact profile text (Statement.OfList list) fits reads = list_stands profile text list
    ((exact profile text (Statement.OfList list) fits).0 reads)
statement_stands exact profile text (Statement.OfResponse own response) fits reads =
    response_stands text response fits ((exact profile text (Statement.OfResponse own response) fits).0 reads).1

statements_stand : AreExact → (texts : Texts) (n : ℕ) (octets : List (List ℕ)) (statements : List Statement)
    → ((j : ℕ) → j < length octets → texts (source.Statement (n + j)) ≡ slice_index_or octets j [])
    → WereStatementsRead octets statements → StatementsStand texts n statements
statements_stand exact texts n [] [] are were = tt
statements_stand exact texts n [] (read ∷ statements) are were = absurd were
statements_stand exact texts n (text ∷ octets) [] are were = absurd were
statements_stand exact texts n (text ∷ octets) (read ∷ statements) are were =
    let here : n + 0 ≡ n = omega arith in
    let is : texts (source.Statement n) ≡ text = ap (λ k. texts (source.Statement k)) (sym here) ∙ are 0 (omega arith) in (
      subst (λ t. StatementStands t read) (sym is) (statement_stands exact were.0.profile text read were.0.are_octets were.0.reads),
      statements_stand exact texts (suc n) octets statements
          (λ j below. ap (λ k. texts (source.Statement k)) (next n j) ∙ are (suc j) (omega (arith, below))) were.1,
    )
  where
    next : (n j : ℕ) → suc n + j ≡ n + suc j
    next n j = omega arith

zero_before : (j : ℕ) → 0 + j ≡ j
zero_before j = omega arith

pub all_statements_stand : AreExact → (certificates octets : List (List ℕ)) (statements : List Statement) → WereStatementsRead octets statements
    → StatementsStand (texts_at certificates octets) 0 statements
all_statements_stand exact certificates octets statements were =
    statements_stand exact (texts_at certificates octets) 0 octets statements (λ j below. ap (λ k. texts_at certificates octets (source.Statement k)) (zero_before j)) were

-- the one at an index
statement_at_index : {X : Type 0} (texts : Texts) (f : X → Statement) (xs : List X) (n i : ℕ) (x : X) → StatementsStand texts n (map f xs) → i < length xs → x ≡ get_or xs i x
    → StatementStands (statement_text texts (n + i)) (f x)
statement_at_index texts f [] n i x all below is = absurd (omega (arith, below))
statement_at_index texts f (y ∷ xs) n zero x all below is =
    let here : n + 0 ≡ n = omega arith in
    subst (λ k. StatementStands (statement_text texts k) (f x)) (sym here) (subst (λ z. StatementStands (statement_text texts n) (f z)) (sym is) all.0)
statement_at_index texts f (y ∷ xs) n (suc i) x all below is =
    let next : suc n + i ≡ n + suc i = omega arith in
    subst (λ k. StatementStands (statement_text texts k) (f x)) next (statement_at_index texts f xs (suc n) i x all.1 (omega (arith, below)) is)

pub statement_stands_at : {X : Type 0} (texts : Texts) (f : X → Statement) (xs : List X) (i : ℕ) (x : X) → StatementsStand texts 0 (map f xs) → i < length xs → x ≡ get_or xs i x
    → StatementStands (statement_text texts i) (f x)
statement_stands_at texts f xs i x all below is =
    subst (λ k. StatementStands (statement_text texts k) (f x)) (zero_before i) (statement_at_index texts f xs 0 i x all below is)
