-- A delivery, one fact after another.
use Rattle.std.proofs.Common.{◌≡◌, ◌≢◌, ◌⊎◌, ℕ, ◌+◌, ◌<◌, List, [], ◌∷◌, ◌++◌, map, take, length, get_or, IsTrue, true, false, Result, Ok, Err, refl, sym, ap, subst, ◌∙◌, inl, inr, arith, if◌then◌else◌}
use Rattle.std.proofs.Math.Seq.{take-length}
use Rattle.std.proofs.lemmas.Bool.{both_ways}
use Rattle.std.proofs.lemmas.List.{map_more, map-append}
use Rattle.sqlite.specs.State.{State, KeepsCommit, Shows, IsRolledBack}
use Rattle.sqlite.specs.Effect.{Database}
use Rattle.sqlite.specs.Steps.{FailsToCommit}
use Rattle.sqlite.specs.declared.error.Error.{Error}
use Rattle.sqlite.proofs.InsideLemmas.{keeps_then}
use Rattle.sqlite.specs.Held.{Held, state}
use Rattle.sqlite_trees.specs.declared.store.Store.{Ghosts}
use Rattle.sqlite_trees.specs.Tree.{Trees}
use Rattle.statements_facts.specs.declared.issuer.Issuer.{Issuer}
use Rattle.statements_facts.specs.declared.scope.Scope.{Scope}
use Rattle.statements_facts.specs.declared.single.Single.{Single}
use Rattle.statements_facts.specs.Statement.{IssuerIdentity, CrlFact, Holdings}
use Rattle.statements_facts.specs.Single.{SingleFact, seen_single}
use Rattle.statements_facts.specs.Fact.{Fact, list_facts, seen_issuer, slot_for}
use Rattle.store_sql.specs.declared.fault.StoreFault.{StoreFault}
use Rattle.statements_facts.specs.declared.counts.TakenAs.{TakenAs}
use Rattle.statements_facts.specs.declared.counts.Counts.{Counts}
use Rattle.statements_facts.specs.Coming.{after_all, same_outcome, count_taken_as}
use Rattle.statements_facts.proofs.Laws.{one_more_taken, nothing_counted, one_more_counted}
use Rattle.store_maps.specs.Held.{IsStoreOf}
use Rattle.store_maps.proofs.HeldLaws.{trees_of}
use Rattle.store_taking.specs.Passing.{HasStepped, StepFails}
use Rattle.store_taking.specs.Taking.{IsTaken, AreTaken, fact_of_single, facts_of_singles}
use Rattle.store_taking.specs.Delivery.{Commits, Undoes, Ends, Puts, CommitsWhole}
use Rattle.store_sql.specs.Statements.{IsDurable}

-- ---- facts in turn

pub nothing_taken : (s : State) (counts : Counts) → ((outcome : TakenAs) → count_taken_as outcome counts ≡ 0) → IsTrue s.in_transaction → HasStepped s s IsStoreOf (AreTaken [] counts)
nothing_taken s counts none inside = record {
  keeps = record { was_open = λ h. h; committed = λ _. refl };
  mode = inside;
  held = λ held store. record { hold = store; counted = nothing_counted held counts none };
}

pub one_more : (old mid new : State) (facts : List Fact) (fact : Fact) (counts after : Counts) (outcome : TakenAs) → HasStepped old mid IsStoreOf (AreTaken facts counts) → HasStepped mid new IsStoreOf (IsTaken fact outcome)
    → ((each : TakenAs) → count_taken_as each after ≡ count_taken_as each counts + (if same_outcome each outcome then 1 else 0)) → HasStepped old new IsStoreOf (AreTaken (facts ++ fact ∷ []) after)
one_more old mid new facts fact counts after outcome one two added = record {
  keeps = keeps_then old mid new one.keeps two.keeps;
  mode = two.mode;
  held = λ held store.
      let so = one.held held store in
      let it = two.held (after_all held facts) so.hold in
      record {
        hold = subst (IsStoreOf new.now) (one_more_taken held facts fact) it.holds;
        counted = one_more_counted held facts counts after fact outcome so.counted it.counted added;
      };
}

pub stops_on_the_way : (old mid new : State) (facts : List Fact) (counts : Counts) (fault : StoreFault) → HasStepped old mid IsStoreOf (AreTaken facts counts) → StepFails mid new IsStoreOf fault → StepFails old new IsStoreOf fault
stops_on_the_way old mid new facts counts fault one two = record {
  keeps = keeps_then old mid new one.keeps two.keeps;
  formed = λ e held store. two.formed e (after_all held facts) (one.held held store).hold;
}

-- a fact alone
pub one_taken : (old new : State) (fact : Fact) (none counts : Counts) (outcome : TakenAs) → HasStepped old new IsStoreOf (IsTaken fact outcome) → ((each : TakenAs) → count_taken_as each none ≡ 0)
    → ((each : TakenAs) → count_taken_as each counts ≡ count_taken_as each none + (if same_outcome each outcome then 1 else 0)) → HasStepped old new IsStoreOf (AreTaken (fact ∷ []) counts)
one_taken old new fact none counts outcome one zero added = record {
  keeps = one.keeps;
  mode = one.mode;
  held = λ held store.
      let it = one.held held store in
      record { hold = it.holds; counted = one_more_counted held [] none counts fact outcome (nothing_counted held none zero) it.counted added };
}

-- ---- a list, kept for several

pub list_more : (scope : Scope) (fact : CrlFact) (first : IssuerIdentity) (others : List Issuer) (k : ℕ) (next : Issuer) → k < length others → next ≡ get_or others k next
    → list_facts scope fact (first ∷ map seen_issuer (take (k + 1) others)) ≡ list_facts scope fact (first ∷ map seen_issuer (take k others)) ++ Fact.OfCrl (slot_for scope (seen_issuer next)) fact ∷ []
list_more scope fact first others k next low is =
    ap (λ issuers. list_facts scope fact (first ∷ issuers)) (map_more seen_issuer others k next low)
    ∙ map-append (λ issuer. Fact.OfCrl (slot_for scope issuer) fact) (first ∷ map seen_issuer (take k others)) (seen_issuer (get_or others k next) ∷ [])
    ∙ ap (λ issuer. list_facts scope fact (first ∷ map seen_issuer (take k others)) ++ Fact.OfCrl (slot_for scope (seen_issuer issuer)) fact ∷ []) (sym is)

-- ---- the single responses of one response

pub single_more : (issuer : IssuerIdentity) (all : List Single) (k : ℕ) (d : Single) → k < length all
    → facts_of_singles issuer (map seen_single (take (k + 1) all)) ≡ facts_of_singles issuer (map seen_single (take k all)) ++ fact_of_single issuer (seen_single (get_or all k d)) ∷ []
single_more issuer all k d low =
    ap (facts_of_singles issuer) (map_more seen_single all k d low)
    ∙ map-append (fact_of_single issuer) (map seen_single (take k all)) (seen_single (get_or all k d) ∷ [])

pub all_singles : (issuer : IssuerIdentity) (all : List Single) (singles : List SingleFact) (k : ℕ) → k ≡ length all → map seen_single all ≡ singles → facts_of_singles issuer (map seen_single (take k all)) ≡ facts_of_singles issuer singles
all_singles issuer all singles k at are = ap (λ n. facts_of_singles issuer (map seen_single (take n all))) at ∙ ap (λ xs. facts_of_singles issuer (map seen_single xs)) (take-length all) ∙ ap (facts_of_singles issuer) are

-- of one at least was told
pub some_told : (all : List Single) (k : ℕ) (P : Type 0) → all ≢ [] → k ≡ length all → (k ≡ 0) ⊎ P → P
some_told [] k P some at told = absurd (some refl)
some_told (x ∷ all) k P some at (inl none) = absurd (omega (arith, at, none))
some_told (x ∷ all) k P some at (inr is) = is

-- ---- the transaction ends

pub commits : (old last new : State) (facts : List Fact) (counts : Counts) → HasStepped old last IsStoreOf (AreTaken facts counts) → Shows last new last.now last.now false → Commits old new facts counts
commits old last new facts counts passes shows = record {
  was_open = passes.keeps.was_open shows.was_open;
  is_open = shows.is_open;
  committed_is = shows.committed_is ∙ sym shows.now_is;
  taken = λ held store. subst (λ db. AreTaken facts counts db held) (sym shows.now_is) (passes.held held store);
}

pub rolled_back : (last new : State) (e : Error) → IsTrue last.in_transaction → FailsToCommit last new e → IsRolledBack last new
rolled_back last new e inside (inl fails) = fails.3
rolled_back last new e inside (inr late) = absurd (both_ways _ late.1 inside)

undoes : (old last new : State) (fault : StoreFault) → KeepsCommit old last → IsRolledBack last new → (fault ≡ StoreFault.Schema → (held : Holdings) → IsStoreOf old.now held → ⊥) → Undoes old new fault
undoes old last new fault keeps back formed = record {
  was_open = λ h. keeps.was_open (back.was_open h);
  undone = λ h. (back.undone h).0 ∙ keeps.committed (back.was_open h);
  formed = formed;
}

pub stop_undoes : (old last new : State) (fault : StoreFault) → StepFails old last IsStoreOf fault → IsRolledBack last new → Undoes old new fault
stop_undoes old last new fault stops back = undoes old last new fault stops.keeps back stops.formed

pub failed_commit_undoes : (old last new : State) (facts : List Fact) (counts : Counts) (e : Error) (fault : StoreFault) → HasStepped old last IsStoreOf (AreTaken facts counts) → FailsToCommit last new e → fault ≢ StoreFault.Schema → Undoes old new fault
failed_commit_undoes old last new facts counts e fault passes fails other = undoes old last new fault passes.keeps (rolled_back last new e passes.mode fails) (λ is held store. other is)

-- what the commit leaves is the whole delivery
pub leaves_whole : (old last : State) (facts : List Fact) (counts : Counts) (trees : Trees) → HasStepped old last IsStoreOf (AreTaken facts counts) → IsTrue old.is_open → trees ≡ last.now.trees → CommitsWhole old facts trees
leaves_whole old last facts counts trees passes was_open is = (
  was_open,
  λ held store. trees_of (after_all held facts) last.now trees is (passes.held held store).hold,
)

-- ---- from before the transaction began

module _ {S : Type 0} (g : Ghosts S) (old begun : Held S) (is : begun ≡ record old { in_transaction = true }) where
  pub leaves_all : (last : State) (facts : List Fact) (counts : Counts) (trees : Trees) → HasStepped (state g begun) last IsStoreOf (AreTaken facts counts) → IsTrue (state g begun).is_open → trees ≡ last.now.trees
      → CommitsWhole (state g old) facts trees
  leaves_all last facts counts trees passes was_open left =
      leaves_whole (state g (record old { in_transaction = true })) last facts counts trees (subst (λ h. HasStepped (state g h) last IsStoreOf (AreTaken facts counts)) is passes) (subst (λ h. IsTrue (state g h).is_open) is was_open) left

  pub undoes_all : (last new : State) (fault : StoreFault) → StepFails (state g begun) last IsStoreOf fault → IsRolledBack last new → Undoes (state g old) new fault
  undoes_all last new fault stops back =
      let it = stop_undoes (state g (record old { in_transaction = true })) last new fault (subst (λ h. StepFails (state g h) last IsStoreOf fault) is stops) back in
      record { was_open = it.was_open; undone = it.undone; formed = it.formed }

-- what a transaction came to is what the delivery came to
pub puts_so : (old new : State) (facts : List Fact) (result : Result Counts StoreFault) → (IsTrue old.is_open → old.now ≡ old.committed) → Ends old new facts result → IsDurable new → Puts old new facts result
puts_so old new facts (Ok counts) settled ends durable = record {
  was_open = ends.was_open;
  is_open = ends.is_open;
  taken = ends.taken;
  durable = λ held store trees may.
      let left : trees ≡ new.now.trees = durable ends.is_open trees may ∙ ap (λ (db : Database). db.trees) ends.committed_is in
      trees_of (after_all held facts) new.now trees left (ends.taken held store).hold;
}
puts_so old new facts (Err fault) settled ends durable = record {
  was_open = ends.was_open;
  same = λ h. ends.undone h ∙ sym (settled (ends.was_open h));
  formed = ends.formed;
}
