-- What was asked inside a transaction that is dropped.
use Rattle.std.proofs.Common.{◌≡◌, true, subst, inl, inr, Result, Ok, Err}
use Rattle.sqlite.specs.Store.{Ghosts}
use Rattle.sqlite.specs.Held.{Held, state}
use Rattle.sqlite.specs.State.{State, KeepsCommit, IsRolledBack, Survives}
use Rattle.sqlite.proofs.InsideLemmas.{unchanged_keeps, keeps_then}
use Rattle.statements_facts.specs.Statement.{Holdings}
use Rattle.store_sql.proofs.Laws.{sooner_refuses}
use Rattle.path.specs.Query.{Query, Accepts}
use Rattle.relying_agreement.specs.declared.verdict.Verdict.{Verdict}
use Rattle.relying_agreement.specs.declared.verdict.Comparison.{Comparison}
use Rattle.relying_verdicts.specs.declared.fault.Fault.{Fault}
use Rattle.relying_verdicts.specs.declared.fault.Fault.TheVariants.{Store, Memory}
use Rattle.relying_verdicts.specs.Asking.{AskIsCaused, AskOfBothIsCaused, HasAsked, HasAskedBoth, AreInvalidOrOpen, IsInvalidOrOpen}
use Rattle.path_issuers.specs.Search.{Search}
use Rattle.relying_search.specs.Finding.{Finding}
use Rattle.relying_search.specs.declared.finding.FindingBudget.{FindingBudget}
use Rattle.relying_verdicts.specs.Looking.{IsFoundOnlyIfOpen}
use Rattle.relying.specs.Asking.{HasLooked, HasLookedAtBoth}

dropped : (old last new : State) → KeepsCommit old last → IsRolledBack last new → KeepsCommit old new
dropped old last new keeps undone = keeps_then old last new keeps (unchanged_keeps last new (inr undone))

module _ {S : Type 0} (g : Ghosts S) (old begun : Held S) (last new : State) (is : begun ≡ record old { in_transaction = true }) (undone : IsRolledBack last new) where
  pub looked : {A : Type 0} (Is : Holdings → A → Type 0) (result : Result A Fault) → HasAsked (state g begun) last Is result → HasLooked KeepsCommit (state g old) new Is result
  looked Is (Ok found) asks =
      let h = subst (λ b. HasAsked (state g b) last Is (Ok found)) is asks in
      (dropped (state g old) last new (record { was_open = h.keeps.was_open; committed = h.keeps.committed }) undone, λ held it. (h.held held it).1)
  looked Is (Err (Store fault)) asks =
      let h = subst (λ b. HasAsked (state g b) last Is (Err (Store fault))) is asks in
      (dropped (state g old) last new (record { was_open = h.keeps.was_open; committed = h.keeps.committed }) undone, λ ours held it. h.formed ours held it)
  looked Is (Err Memory) asks =
      let h = subst (λ b. HasAsked (state g b) last Is (Err Memory)) is asks in
      (dropped (state g old) last new (record { was_open = h.was_open; committed = h.committed }) undone, tt)

both : {S T : Type 0} (g : Ghosts S) (h : Ghosts T) (old begun : Held S) (other other_begun : Held T) (P : State → State → Type 0)
    → begun ≡ record old { in_transaction = true } → other_begun ≡ record other { in_transaction = true } → P (state g begun) (state h other_begun)
    → P (state g (record old { in_transaction = true })) (state h (record other { in_transaction = true }))
both g h old begun other other_begun P is other_is p = subst (λ b. P (state g (record old { in_transaction = true })) (state h b)) other_is (subst (λ b. P (state g b) (state h other_begun)) is p)

module _ {S T : Type 0} (g : Ghosts S) (h : Ghosts T) (old begun : Held S) (other other_begun : Held T) (last new other_last other_new : State)
    (is : begun ≡ record old { in_transaction = true }) (other_is : other_begun ≡ record other { in_transaction = true }) (undone : IsRolledBack last new) (other_undone : IsRolledBack other_last other_new) where
  pub looked_both : {A : Type 0} (Is : Holdings → Holdings → A → Type 0) (result : Result A Fault) → HasAskedBoth (state g begun) last (state h other_begun) other_last Is result
      → HasLookedAtBoth KeepsCommit (state g old) new (state h other) other_new Is result
  looked_both Is (Ok found) asks =
      let it = both g h old begun other other_begun (λ s t. HasAskedBoth s last t other_last Is (Ok found)) is other_is asks in (
        dropped (state g old) last new (record { was_open = it.keeps.was_open; committed = it.keeps.committed }) undone,
        dropped (state h other) other_last other_new (record { was_open = it.other_keeps.was_open; committed = it.other_keeps.committed }) other_undone,
        λ one two store stores. (it.held one two store stores).2,
      )
  looked_both Is (Err (Store fault)) asks =
      let it = both g h old begun other other_begun (λ s t. HasAskedBoth s last t other_last Is (Err (Store fault))) is other_is asks in (
        dropped (state g old) last new (record { was_open = it.keeps.was_open; committed = it.keeps.committed }) undone,
        dropped (state h other) other_last other_new (record { was_open = it.other_keeps.was_open; committed = it.other_keeps.committed }) other_undone,
        λ ours one two store stores. it.formed ours one two store stores,
      )
  looked_both Is (Err Memory) asks =
      let it = both g h old begun other other_begun (λ s t. HasAskedBoth s last t other_last Is (Err Memory)) is other_is asks in (
        dropped (state g old) last new (record { was_open = it.0.was_open; committed = it.0.committed }) undone,
        dropped (state h other) other_last other_new (record { was_open = it.1.was_open; committed = it.1.committed }) other_undone,
        tt,
      )

-- the cause of a fault inside the transaction is one of the whole
pub asked_at : {S : Type 0} (g : Ghosts S) (old begun : Held S) (last new : State) (fault : Fault) → begun ≡ record old { in_transaction = true } → AskIsCaused (state g begun) last fault
    → Survives last new (λ _. ⊥) → AskIsCaused (state g old) new fault
asked_at g old begun last new (Store fault) is h later = λ e held store.
    sooner_refuses (state g old) last new (λ _. ⊥) later (subst (λ b. AskIsCaused (state g b) last (Store fault)) is h e held store)
asked_at g old begun last new Memory is h later = tt

pub asked_both_at : {S T : Type 0} (g : Ghosts S) (h : Ghosts T) (old begun : Held S) (other other_begun : Held T) (last new other_last other_new : State) (fault : Fault)
    → begun ≡ record old { in_transaction = true } → other_begun ≡ record other { in_transaction = true } → AskOfBothIsCaused (state g begun) last (state h other_begun) other_last fault
    → Survives last new (λ _. ⊥) → Survives other_last other_new (λ _. ⊥) → AskOfBothIsCaused (state g old) new (state h other) other_new fault
asked_both_at g h old begun other other_begun last new other_last other_new (Store fault) is other_is it later other_later = λ e one two store stores.
    elim (both g h old begun other other_begun (λ s t. AskOfBothIsCaused s last t other_last (Store fault)) is other_is it e one two store stores) [
      | inl first ↦ inl (sooner_refuses (state g old) last new (λ _. ⊥) later first)
      | inr second ↦ inr (sooner_refuses (state h other) other_last other_new (λ _. ⊥) other_later second)
    ]
asked_both_at g h old begun other other_begun last new other_last other_new Memory is other_is it later other_later = tt

-- a transaction has begun on a connection that was open before
pub opened : {S : Type 0} (accepts : Accepts) (query : Query) (g : Ghosts S) (old begun : Held S) (verdict : Verdict) → begun ≡ record old { in_transaction = true }
    → IsInvalidOrOpen accepts query (state g begun).is_open verdict → IsInvalidOrOpen accepts query (state g old).is_open verdict
opened accepts query g old begun verdict is it = subst (λ b. IsInvalidOrOpen accepts query (state g b).is_open verdict) is it

pub found_open : {S : Type 0} (accepts : Accepts) (s : Search) (budget : FindingBudget) (g : Ghosts S) (old begun : Held S) (finding : Finding) → begun ≡ record old { in_transaction = true }
    → IsFoundOnlyIfOpen accepts s budget (state g begun).is_open finding → IsFoundOnlyIfOpen accepts s budget (state g old).is_open finding
found_open accepts s budget g old begun finding is it = subst (λ b. IsFoundOnlyIfOpen accepts s budget (state g b).is_open finding) is it

pub opened_both : {S T : Type 0} (accepts : Accepts) (query : Query) (g : Ghosts S) (h : Ghosts T) (old begun : Held S) (other other_begun : Held T) (comparison : Comparison)
    → begun ≡ record old { in_transaction = true } → other_begun ≡ record other { in_transaction = true }
    → AreInvalidOrOpen accepts query (state g begun).is_open (state h other_begun).is_open comparison → AreInvalidOrOpen accepts query (state g old).is_open (state h other).is_open comparison
opened_both accepts query g h old begun other other_begun comparison is other_is it =
    subst (λ b. AreInvalidOrOpen accepts query (state g old).is_open (state h b).is_open comparison) other_is
    (subst (λ b. AreInvalidOrOpen accepts query (state g b).is_open (state h other_begun).is_open comparison) is it)
