-- Statements that are read one after another.
use Rattle.std.proofs.Common.{Bool, true, if◌then◌else◌, ◌≡◌, ℕ, zero, suc, ◌+◌, ◌<◌, List, [], ◌∷◌, ◌++◌, map, length, take, get_or, arith, refl, sym, ap, subst, ◌∙◌, Result, Ok, is_ok, IsOk, length-take, take_all, ◌≤◌}
use denote.Ref.{Bor}
use Rattle.std.proofs.lemmas.List.{get_or-take, get_or-map, length-map, map_more, map-append}
use Rattle.statements_facts.specs.declared.profile.Profile.{Profile}
use Rattle.path.specs.Reading.{texts_of}
use Rattle.statements.specs.Statement.{Statement, seen_statement, statement_under}
use Rattle.statements.specs.declared.statement.Statement as code
use Rattle.statements_parts.specs.Fault.{StatementFailsUnlessFull}
use Rattle.statements_parts.specs.declared.fault.ReadingFault.{ReadingFault}
use Rattle.statements_parts.specs.declared.fault.ReadingFault.TheVariants.{Memory}
use Rattle.statements_parts.specs.declared.fault.StatementRule.{StatementRule}
use Rattle.relying_texts.specs.Reading.{AreStatementsReadUnder, IsFirstStatementRefusedUnder}

abbrev pub read_as : code.Statement → Result Statement (StatementRule × ℕ)
read_as read = Ok (seen_statement read)

-- the texts up to a number are the statements that were read
abbrev pub AreReadUpTo : Profile → List (Bor (List ℕ)) → ℕ → List code.Statement → Type 0
AreReadUpTo profile texts i read = map (statement_under profile) (take i (texts_of texts)) ≡ map read_as read

text_is : (texts : List (Bor (List ℕ))) (i : ℕ) (d : Bor (List ℕ)) → i < length texts → (get_or texts i d).now ≡ get_or (texts_of texts) i []
text_is texts i d below = sym (get_or-map (λ (text : Bor (List ℕ)). text.now) texts i d [] below)

texts_count : (texts : List (Bor (List ℕ))) (i : ℕ) → i < length texts → i < length (texts_of texts)
texts_count texts i below = omega (arith, length-map texts (λ (text : Bor (List ℕ)). text.now))

-- one more
pub read_more : (profile : Profile) (texts : List (Bor (List ℕ))) (i : ℕ) (d : Bor (List ℕ)) (read now : List code.Statement) (one : code.Statement) → i < length texts
    → statement_under profile (get_or texts i d).now ≡ read_as one → now ≡ read ++ one ∷ [] → AreReadUpTo profile texts i read → AreReadUpTo profile texts (i + 1) now
read_more profile texts i d read now one below reads grown so_far =
    let here : statement_under profile (get_or (texts_of texts) i []) ≡ read_as one = ap (statement_under profile) (sym (text_is texts i d below)) ∙ reads in
    map_more (statement_under profile) (texts_of texts) i [] (texts_count texts i below) ∙ (λ k. so_far k ++ here k ∷ []) ∙ sym (map-append read_as read (one ∷ [])) ∙ ap (map read_as) (sym grown)

each_is_read : (profile : Profile) (texts : List (List ℕ)) (read : List code.Statement) → map (statement_under profile) texts ≡ map read_as read → (i : ℕ) → i < length texts → IsOk (statement_under profile (get_or texts i []))
each_is_read profile [] read e i below = absurd (omega arith)
each_is_read profile (text ∷ texts) [] e i below = absurd cc
each_is_read profile (text ∷ texts) (one ∷ read) e zero below = let head : statement_under profile text ≡ read_as one = cc in ap is_ok head
each_is_read profile (text ∷ texts) (one ∷ read) e (suc i) below = let rest : map (statement_under profile) texts ≡ map read_as read = cc in each_is_read profile texts read rest i (omega arith)

refused_at : (profile : Profile) (texts : List (Bor (List ℕ))) (i : ℕ) (read : List code.Statement) (fault : ReadingFault) → i < length texts
    → StatementFailsUnlessFull fault (statement_under profile (get_or (texts_of texts) i [])) → AreReadUpTo profile texts i read → IsFirstStatementRefusedUnder profile (texts_of texts) i fault
refused_at profile texts i read fault below fails so_far = record {
  within = texts_count texts i below;
  refused = fails;
  before = λ k earlier.
      let here = texts_count texts i below in
      let len = length-take i (texts_of texts) in
      subst (λ t. IsOk (statement_under profile t)) (get_or-take i (texts_of texts) k [] earlier) (each_is_read profile (take i (texts_of texts)) read so_far k (omega arith));
}

pub refused_here : (profile : Profile) (texts : List (Bor (List ℕ))) (i : ℕ) (d : Bor (List ℕ)) (read : List code.Statement) (fault : ReadingFault) → i < length texts
    → StatementFailsUnlessFull fault (statement_under profile (get_or texts i d).now) → AreReadUpTo profile texts i read → IsFirstStatementRefusedUnder profile (texts_of texts) i fault
refused_here profile texts i d read fault below fails so_far =
    refused_at profile texts i read fault below (subst (λ t. StatementFailsUnlessFull fault (statement_under profile t)) (text_is texts i d below) fails) so_far

pub no_room : (profile : Profile) (texts : List (Bor (List ℕ))) (i : ℕ) (read : List code.Statement) → i < length texts → AreReadUpTo profile texts i read → IsFirstStatementRefusedUnder profile (texts_of texts) i Memory
no_room profile texts i read below so_far = refused_at profile texts i read Memory below tt so_far

-- what a list is after a push that succeeded
pub pushed : {A : Type 0} (ok : Bool) (more same now : List A) → ok ≡ true → now ≡ (if ok then more else same) → now ≡ more
pushed ok more same now is e = e ∙ ap (λ b. if b then more else same) is

read_each : (read : List code.Statement) → map read_as read ≡ map (λ (one : Statement). Ok one) (map seen_statement read)
read_each [] = refl
read_each (one ∷ read) = ap (λ rest. read_as one ∷ rest) (read_each read)

-- all of them
pub all_read : (profile : Profile) (texts : List (Bor (List ℕ))) (i : ℕ) (read : List code.Statement) → length texts ≤ i → AreReadUpTo profile texts i read → AreStatementsReadUnder profile (texts_of texts) (map seen_statement read)
all_read profile texts i read end so_far =
    let count = length-map texts (λ (text : Bor (List ℕ)). text.now) in
    ap (map (statement_under profile)) (sym (take_all i (texts_of texts) (omega (arith, end, count)))) ∙ so_far ∙ read_each read
