-- A delivery in two steps: what was read, and what the store made of it.
use Rattle.std.proofs.Common.{◌≡◌, ℕ, List, Result, IsErrAnd, MatchResult, Ok, Err, arith, inl, refl, sym, ap, subst, ◌∙◌}
use Rattle.sqlite.specs.State.{State, Survives}
use Rattle.statements_facts.specs.declared.profile.Profile.{Profile}
use Rattle.statements_facts.specs.Fact.{Fact, facts_in}
use Rattle.statements_facts.specs.declared.counts.Counts.{Counts}
use Rattle.statements_facts.specs.declared.fact.Facts.{Facts}
use Rattle.store_sql.specs.declared.fault.StoreFault.{StoreFault}
use Rattle.store_sql.specs.Statements.{CommitsNothing}
use Rattle.store_taking.specs.Delivery.{CommitsWhole, Puts}
use Rattle.store_taking.specs.Room.{PutsForCause}
use Rattle.path.specs.Query.{Accepts}
use Rattle.relying_agreement.specs.Run.{facts_or_none, facts_under, genuine_facts}
use Rattle.relying.specs.declared.fault.DeliverFault.{DeliverFault}
use Rattle.relying.specs.declared.fault.DeliverFault.TheVariants.{Issuer, Statement, Store}
use Rattle.relying.specs.Delivery.{DeliversForCause, IsDeliveryAnswer, IsReasonOfFault, IsRefusal, MayCommit, StatementSays}

-- ---- nothing was read

pub refused : (profile : Profile) (accepts : Accepts) (issuer statement : List ℕ) (fault : DeliverFault) → IsRefusal profile accepts issuer statement fault → IsReasonOfFault profile accepts issuer statement fault
refused profile accepts issuer statement (Issuer fault) why = why
refused profile accepts issuer statement (Statement fault) why = why
refused profile accepts issuer statement (Store fault) why = absurd why

pub refused_so : (profile : Profile) (accepts : Accepts) (issuer statement : List ℕ) (s : State) (fault : DeliverFault) → IsRefusal profile accepts issuer statement fault → IsDeliveryAnswer profile accepts issuer statement s s (Err fault)
refused_so profile accepts issuer statement s (Issuer fault) why = (why, record { was_open = λ live. live; now_is = λ live. refl })
refused_so profile accepts issuer statement s (Statement fault) why = (why, record { was_open = λ live. live; now_is = λ live. refl })
refused_so profile accepts issuer statement s (Store fault) why = absurd why

pub refused_for_cause : (profile : Profile) (accepts : Accepts) (issuer statement : List ℕ) (s : State) (fault : DeliverFault) → IsRefusal profile accepts issuer statement fault → DeliversForCause profile accepts issuer statement s s (Err fault)
refused_for_cause profile accepts issuer statement s (Issuer fault) why = tt
refused_for_cause profile accepts issuer statement s (Statement fault) why = tt
refused_for_cause profile accepts issuer statement s (Store fault) why = absurd why

-- and what was read was not taken
pub taken_for_cause : (profile : Profile) (accepts : Accepts) (issuer statement : List ℕ) (facts : Facts) (old new : State) (taken : Result Counts StoreFault) (answer : Result Counts DeliverFault)
    → StatementSays profile accepts issuer statement (facts_in facts) → PutsForCause old new facts taken
    → MatchResult taken (λ counts. answer ≡ Ok counts) (λ fault. IsErrAnd answer (λ told. told ≡ Store fault)) → DeliversForCause profile accepts issuer statement old new answer
taken_for_cause profile accepts issuer statement facts old new (Ok counts) answer says caused same = subst (DeliversForCause profile accepts issuer statement old new) (sym same) tt
taken_for_cause profile accepts issuer statement facts old new (Err fault) (Ok counts) says caused none = absurd none
taken_for_cause profile accepts issuer statement facts old new (Err fault) (Err told) says caused same =
    subst (λ e. DeliversForCause profile accepts issuer statement old new (Err e)) (sym same) (λ clean. (facts, says, caused clean))

pub taken_so : (profile : Profile) (accepts : Accepts) (issuer statement : List ℕ) (facts : Facts) (old new : State) (taken : Result Counts StoreFault) (answer : Result Counts DeliverFault)
    → StatementSays profile accepts issuer statement (facts_in facts) → Puts old new (facts_in facts) taken
    → MatchResult taken (λ counts. answer ≡ Ok counts) (λ fault. IsErrAnd answer (λ told. told ≡ Store fault)) → IsDeliveryAnswer profile accepts issuer statement old new answer
taken_so profile accepts issuer statement facts old new (Ok counts) answer says puts same = subst (IsDeliveryAnswer profile accepts issuer statement old new) (sym same) (facts_in facts, says, puts)
taken_so profile accepts issuer statement facts old new (Err fault) (Ok counts) says puts none = absurd none
taken_so profile accepts issuer statement facts old new (Err fault) (Err told) says puts same =
    subst (λ e. IsDeliveryAnswer profile accepts issuer statement old new (Err e)) (sym same) ((facts_in facts, says), puts)

nothing_done : (s : State) → CommitsNothing s s
nothing_done s = record { clean = omega arith; shield = λ h. h; counts = omega arith; limit = refl; closes = λ clean is. inl is; crash = λ clean db may. inl may }

pub commits_nothing : (profile : Profile) (accepts : Accepts) (issuer statement : List ℕ) (facts : List Fact) (s : State) (fault : DeliverFault) → IsRefusal profile accepts issuer statement fault → MayCommit facts s s (Err fault)
commits_nothing profile accepts issuer statement facts s (Issuer fault) why = nothing_done s
commits_nothing profile accepts issuer statement facts s (Statement fault) why = nothing_done s
commits_nothing profile accepts issuer statement facts s (Store fault) why = absurd why

-- ---- what was read was taken

-- the facts that the two texts say are those that were read
pub facts_said : (profile : Profile) (accepts : Accepts) (issuer statement : List ℕ) (facts : List Fact) → StatementSays profile accepts issuer statement facts → genuine_facts profile accepts issuer statement ≡ facts
facts_said profile accepts issuer statement facts says = ap (facts_under profile accepts statement) says.by_is ∙ ap facts_or_none says.said

pub may_commit : (profile : Profile) (accepts : Accepts) (issuer statement : List ℕ) (facts : List Fact) (old new : State) → StatementSays profile accepts issuer statement facts → Survives old new (CommitsWhole old facts)
    → Survives old new (CommitsWhole old (genuine_facts profile accepts issuer statement))
may_commit profile accepts issuer statement facts old new says survives = subst (λ (said : List Fact). Survives old new (CommitsWhole old said)) (sym (facts_said profile accepts issuer statement facts says)) survives
