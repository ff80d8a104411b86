-- What a run over a shelf answers.
use Rattle.std.proofs.Common.{◌≡◌, inl, inr, refl, sym, subst, ap, ◌∙◌, true≢false, ℕ, List, [], ◌∷◌, ◌++◌, Option, Some, IsSome, unwrap_or}
use Rattle.relying_agreement.specs.Verdict.{IsVerdict}
use Rattle.statements_facts.specs.Coming.{after_all}
use Rattle.statements_facts.specs.Fact.{Fact, facts_in}
use Rattle.statements_facts.specs.Statement.{Holdings, empty_holdings}
use Rattle.statements_facts.specs.declared.fact.Facts.{Facts}
use Rattle.sqlite.specs.Effect.{Database}
use Rattle.store_maps.specs.Held.{IsStoreOf}
use Rattle.sqlite.specs.Schema.{Schema}
use Rattle.store_sql.specs.Tables.{crls_tree, entries_tree, no_schema, scoped_crls_table, scoped_entries_table, start_schema, store_schema}
use Rattle.store_sql.specs.declared.origin.Origin.{Origin}
use Rattle.cli_store.specs.Standing.{IsFound, IsFoundOrMade, Seen}
use Rattle.test_program.specs.Shelves.{HasTaken, after_these, places_on, statements_at}
use Rattle.test_program.specs.Runs.{ChecksByTexts, ComparesByTexts, DeliversByTexts, DeliversThenChecks, HasStore, held_at}
use Rattle.test_program.specs.declared.shelf.Kept.{Kept}

not_empty : {T : Type 0} (front : List T) (x : T) (back : List T) → front ++ x ∷ back ≡ [] → ⊥
not_empty [] x back same = absurd cc
not_empty (y ∷ front) x back same = absurd cc

-- a database without tables is no store
tables : (origin : Origin) → store_schema origin ≡ no_schema → ⊥
tables origin same =
    not_empty (start_schema origin).tables (scoped_crls_table (crls_tree origin)) (scoped_entries_table (entries_tree origin) ∷ []) (ap (λ (schema : Schema). schema.tables) same)

no_store : (db : Database) (held : Holdings) → IsStoreOf db held → db.schema ≡ no_schema → ⊥
no_store db held is empty = tables is.origin (sym is.rows.schema_is ∙ empty)

module _ (stores : List Kept) (path : List ℕ) where
  some : (found : Option (List Facts)) (rows : List Facts) → found ≡ Some rows → IsSome found
  some found rows is = subst (λ (rows : Option (List Facts)). IsSome rows) (sym is) refl

  -- a store that was found there holds what the statements say
  pub stands : (old : Seen) → IsFound (places_on stores) path old → HasStore stores path
  stands old found = some (statements_at stores path) found.0.0 found.0.1

  pub holds : (old : Seen) → IsFound (places_on stores) path old → IsStoreOf old.now (held_at stores path)
  holds old found = subst (λ (rows : Option (List Facts)). IsStoreOf old.now (after_these empty_holdings (unwrap_or rows []))) (sym found.0.1) found.0.2

  -- and no other was made there
  pub holds_if : HasStore stores path → (old : Seen) → IsFoundOrMade (places_on stores) path old → IsStoreOf old.now (held_at stores path)
  holds_if has old (inl found) = holds old found
  holds_if has old (inr (inl none, is)) = absurd (true≢false (sym (subst (λ (rows : Option (List Facts)). IsSome rows) none has)))
  holds_if has old (inr (inr (empty, (rows, at, held, intact), lacks), is)) = absurd (no_store empty.now (after_these empty_holdings rows) held (lacks intact))

pub checks : ChecksByTexts
checks texts stores store verdicts words verdict it =
    let by = it.checked in record {
      accepts = it.accepts;
      query = it.query;
      asked = it.asked;
      stands = stands stores store by.old by.found;
      is = (by.is by.left (held_at stores store) (holds stores store by.old by.found)).0;
    }

pub compares : ComparesByTexts
compares texts stores pair verdicts words comparison it =
    let by = it.compared in
    let path = pair.store.now in
    let other = pair.other.now in record {
      accepts = it.accepts;
      query = it.query;
      asked = it.asked;
      stands = stands stores path by.old by.found;
      other_stands = stands stores other by.other_old by.other_found;
      is = (by.is by.left by.other_left (held_at stores path) (held_at stores other) (holds stores path by.old by.found) (holds stores other by.other_old by.other_found)).0;
    }

pub delivers : DeliversByTexts
delivers texts stores words counts it =
    let by = it.taken in record {
      accepts = it.accepts;
      believes = it.believes;
      facts = it.facts;
      says = it.says;
      counted = λ has. (by.taken by.left (held_at stores words.store.now) (holds_if stores words.store.now has by.old by.found)).1;
    }

-- one statement more
after_one_more : (held : Holdings) (before : List Facts) (taken : Facts) → after_these held (before ++ taken ∷ []) ≡ after_all (after_these held before) (facts_in taken)
after_one_more held [] taken = refl
after_one_more held (first ∷ before) taken = after_one_more (after_all held (facts_in first)) before taken

module _ (stores next : List Kept) (path : List ℕ) (facts : List Fact) (it : HasTaken stores next path facts) where
  was_held : held_at stores path ≡ after_these empty_holdings it.before
  was_held = ap (λ (rows : Option (List Facts)). after_these empty_holdings (unwrap_or rows [])) it.was

  is_held : held_at next path ≡ after_all (held_at stores path) facts
  is_held =
      ap (λ (rows : Option (List Facts)). after_these empty_holdings (unwrap_or rows [])) it.is
      ∙ after_one_more empty_holdings it.before it.taken
      ∙ ap (λ (held : Holdings). after_all held (facts_in it.taken)) (sym was_held)
      ∙ ap (after_all (held_at stores path)) it.says

pub delivers_then_checks : DeliversThenChecks
delivers_then_checks texts others stores next words counts verdicts asked verdict delivered taken checked =
    let by = checked.checked in
    subst (λ (held : Holdings). IsVerdict checked.accepts checked.query held verdict) (is_held stores next words.store.now delivered.facts taken)
    (by.is by.left (held_at next words.store.now) (holds next words.store.now by.old by.found)).0
