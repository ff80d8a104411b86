-- From rows that are shown to what stands in the tables, and one test behind another.
use Rattle.std.proofs.Common.{◌≡◌, ℕ, List, [], ◌∷◌, map, false, Result, Ok, Err, refl, sym, ap, ap₂, subst, ◌∙◌, inl, inr, ◌⊎◌, ◌++◌, suc, length, arith, length-append}
use Rattle.sqlite.specs.Order.{Row}
use Rattle.sqlite.specs.Tree.{IsTable}
use Rattle.sqlite.specs.Term.{Term}
use Rattle.sqlite.specs.Schema.{Schema}
use Rattle.sqlite.specs.Command.TheVariants.{Select}
use Rattle.sqlite.specs.Effect.{Database}
use Rattle.sqlite.specs.Listing.{understood, reads_listing}
use Rattle.sqlite.specs.State.{State, HasCleanDisk, IsUnchanged, KeepsCommit, Survives}
use Rattle.sqlite.proofs.InsideLemmas.{unchanged_keeps, keeps_then}
use Rattle.sqlite.proofs.Callers.{IsPlain, command_of, reads_as, begins_as, unchanged_then}
use Rattle.store_sql.specs.declared.fault.StoreFault.{StoreFault}
use Rattle.store_sql.specs.Cause.{MayRefuse}
use Rattle.store_sql.proofs.Laws.{later_refuses, shown_as}
use Rattle.store_adoption.specs.Tests.{AllPass, IsStopped, SomeFail, Tests}
use Rattle.store_adoption.specs.Inspects.{CheckIsCaused, HasTooMany, TablesAreInOrder, Checks}
use Rattle.store_adoption.proofs.Ordered.{in_order_of_ids, ordered_whole, ordered_start}

map_same : (f g : Row → Row) → ((r : Row) → f r ≡ g r) → (rows : List Row) → map f rows ≡ map g rows
map_same f g same [] = refl
map_same f g same (r ∷ rs) = ap₂ (λ a b. a ∷ b) (same r) (map_same f g same rs)

length_map : (f : Row → Row) (rows : List Row) → length (map f rows) ≡ length rows
length_map f [] = refl
length_map f (r ∷ rs) = ap suc (length_map f rs)

module _ (schema : Schema) (text : List ℕ) (tree : ℕ) (project : List Term) (names : List (List ℕ)) (show : Row → Row)
    (command : command_of (understood schema text) ≡ Select (record { lets = []; body = in_order_of_ids tree project }) names) (listing : reads_listing schema text ≡ false) (plain : IsPlain (understood schema text))
    (shows : (r : Row) → shown_as project [] r ≡ show r) where
  pub passed_all : (old new : State) (Passed : List Row → Type 0) → old.now.schema ≡ schema → AllPass old new text Passed → IsTable (old.now.trees tree) → Passed (map show (old.now.trees tree))
  passed_all old new Passed has all rising =
      let same = all.unchanged.0.now_is in
      let read = reads_as text [] new new schema (ap (λ (d : Database). d.schema) same ∙ has) (Select (record { lets = []; body = in_order_of_ids tree project }) names) command plain listing all.rows all.shown in
      let whole = ordered_whole tree project [] new.now all.rows (subst (λ (d : Database). IsTable (d.trees tree)) (sym same) rising) read in
      subst Passed (whole ∙ map_same (shown_as project []) show shows (new.now.trees tree) ∙ ap (λ (d : Database). map show (d.trees tree)) same) all.passed

  pub failed_some : (old new : State) (Formed : List Row → Type 0) → old.now.schema ≡ schema → IsUnchanged old new → SomeFail new text Formed → IsTable (old.now.trees tree) → Formed (map show (old.now.trees tree)) → ⊥
  failed_some old new Formed has unchanged fail rising formed =
      let same = unchanged.0.now_is in
      let first = begins_as text [] new new schema (ap (λ (d : Database). d.schema) same ∙ has) (Select (record { lets = []; body = in_order_of_ids tree project }) names) command plain listing fail.rows fail.begins in
      let start = ordered_start tree project [] new.now fail.rows (subst (λ (d : Database). IsTable (d.trees tree)) (sym same) rising) first.1 in
      fail.refused start.0 (subst Formed (sym (start.1 ∙ map_same (shown_as project []) show shows (new.now.trees tree) ∙ ap (λ (d : Database). map show (d.trees tree)) same)) formed)

  pub checked : {A : Type 0} (old new : State) (Passed Formed : List Row → Type 0) (result : Result A StoreFault) → old.now.schema ≡ schema → (TablesAreInOrder old.now → IsTable (old.now.trees tree))
      → Tests old new text Passed Formed result → Checks old new (λ done db. Passed (map show (db.trees tree))) (λ db. Formed (map show (db.trees tree))) result
  checked old new Passed Formed (Ok done) has rising all = (all.unchanged, λ ordered. passed_all old new Passed has all (rising ordered))
  checked old new Passed Formed (Err fault) has rising stops = (stops.keeps, λ ours ordered formed. let why = stops.why ours in failed_some old new Formed has why.0 why.1 (rising ordered) formed)

  pub stopped : (old new : State) → old.now.schema ≡ schema → IsTable (old.now.trees tree) → IsStopped old new text → MayRefuse old new ⊎ HasTooMany old.now
  stopped old new has rising (inl may) = inl may
  stopped old new has rising (inr many) =
      let same = many.0.0.now_is in
      let first = begins_as text [] new new schema (ap (λ (d : Database). d.schema) same ∙ has) (Select (record { lets = []; body = in_order_of_ids tree project }) names) command plain listing many.1 many.2 in
      let start = ordered_start tree project [] new.now many.1 (subst (λ (d : Database). IsTable (d.trees tree)) (sym same) rising) first.1 in
      let count : length (many.1 ++ start.0) ≡ length (old.now.trees tree) = ap length start.1 ∙ length_map (shown_as project []) (new.now.trees tree) ∙ ap (λ (d : Database). length (d.trees tree)) same in
      inr (tree, omega (arith, many.3, count, length-append many.1 start.0))

-- the cause of the test behind one that has passed is one of both
pub later_caused : (old mid new : State) (fault : StoreFault) → IsUnchanged old mid → Survives old mid (λ _. ⊥) → Survives mid new (λ _. ⊥) → HasCleanDisk mid → CheckIsCaused mid new fault → CheckIsCaused old new fault
later_caused old mid new fault same first second clean h e ordered = elim (h e (subst TablesAreInOrder (sym same.0.now_is) ordered)) [
  | inl may ↦ inl (later_refuses old mid new (λ _. ⊥) (λ _. ⊥) first second clean may)
  | inr many ↦ inr (subst HasTooMany same.0.now_is many)
]

-- what is checked says less, or is asked of more
pub checked_as : {A B : Type 0} (old new : State) (P : A → Database → Type 0) (P′ : B → Database → Type 0) (Q Q′ : Database → Type 0) (a : A) (b : B)
    → IsUnchanged old new × (TablesAreInOrder old.now → P a old.now) → (P a old.now → P′ b old.now) → IsUnchanged old new × (TablesAreInOrder old.now → P′ b old.now)
checked_as old new P P′ Q Q′ a b h f = (h.0, λ ordered. f (h.1 ordered))

-- a test that passes, and another behind it
pub checks_then : {A B : Type 0} (old mid new : State) (P : A → Database → Type 0) (P′ : B → Database → Type 0) (Q′ : Database → Type 0) (R : B → Database → Type 0) (S : Database → Type 0) (a : A) (result : Result B StoreFault)
    → IsUnchanged old mid × (TablesAreInOrder old.now → P a old.now) → Checks mid new P′ Q′ result
    → ((b : B) → TablesAreInOrder old.now → P a old.now → P′ b old.now → R b old.now) → (TablesAreInOrder old.now → P a old.now → S old.now → Q′ old.now)
    → Checks old new R S result
checks_then old mid new P P′ Q′ R S a (Ok b) first second both asks =
    (unchanged_then old mid new first.0 second.0, λ ordered. both b ordered (first.1 ordered) (subst (P′ b) first.0.0.now_is (second.1 (subst TablesAreInOrder (sym first.0.0.now_is) ordered))))
checks_then old mid new P P′ Q′ R S a (Err fault) first second both asks =
    (keeps_then old mid new (unchanged_keeps old mid (inl first.0)) second.0, λ ours ordered all. second.1 ours (subst TablesAreInOrder (sym first.0.0.now_is) ordered) (subst Q′ (sym first.0.0.now_is) (asks ordered (first.1 ordered) all)))

-- the first test fails
pub first_fails : (old new : State) (Q S : Database → Type 0) (fault : StoreFault) → KeepsCommit old new × (fault ≡ StoreFault.Schema → TablesAreInOrder old.now → Q old.now → ⊥) → (TablesAreInOrder old.now → S old.now → Q old.now)
    → KeepsCommit old new × (fault ≡ StoreFault.Schema → TablesAreInOrder old.now → S old.now → ⊥)
first_fails old new Q S fault h asks = (h.0, λ ours ordered all. h.1 ours ordered (asks ordered all))
