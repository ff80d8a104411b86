-- What a validation under way stands for, and what a step of it says (RFC 5280, 6.1.2 to 6.1.5).
use Rattle.std.specs.Prelude.{◌≡◌, ◌⊎◌, ◌↔◌, ◌+◌, ◌<◌, ◌≤◌, ℕ, ℤ, List, map, Option, Result, IfOk, OnErr, false, length, take, sum_by}
use Rattle.std.specs.Borrow.{Bor}
use Rattle.std.specs.Option.{option_copied}
use Rattle.names.specs.GeneralName.{IsProcessed}
use Rattle.names.specs.GeneralLayout.{GeneralName}
use Rattle.names.specs.GeneralCoverage.{form_of_general_name}
use Rattle.cert.specs.Certificate.{Certificate, seen_certificate}
use Rattle.cert.specs.declared.certificate.Certificate as code
use Rattle.path.specs.declared.options.Options.{Options}
use Rattle.path.specs.declared.reason.Reason.{Reason}
use Rattle.path.specs.declared.reason.Outcome.{Outcome}
use Rattle.path.specs.declared.reason.Step.{Step}
use Rattle.path.specs.declared.reason.Step.TheVariants.{Passed, Failed, Ended}
use Rattle.path.specs.Query.{Query, Accepts, count}
use Rattle.path_conditions.specs.NamesOf.{Permits, Excludes}
use Rattle.path_host_constraints.specs.HostConstraints.{HasNoBase}
use Rattle.path.specs.Conditions.{MeetsCondition, MeetsConditions, constraints_at, hosts_at}
use Rattle.path.specs.Validity.{IsServed, IsLeastBroken, IsNotServedFor, IsOutcome}
use Rattle.path_conditions.specs.Narrowing.{has_processed}
use Rattle.path_conditions.specs.Constraints.{Constraints, AdmitsName}

-- the question that certificates, as they were read, are part of
abbrev pub query_of : code.Certificate → List code.Certificate → ℤ → Option (List ℕ) → Options → Query
query_of anchor path moment purpose options = record {
  anchor = seen_certificate anchor;
  certificates = map seen_certificate path;
  moment = moment;
  purpose = purpose;
  options = options;
}

-- the question that a caller asks
abbrev pub question : code.Certificate → List code.Certificate → ℤ → Option (Bor (List ℕ)) → Options → Query
question anchor path moment purpose options = query_of anchor path moment (option_copied purpose) options

-- a validation that certificates 1 to done have passed
pub record Progress (V : Type 0) : Type 0 where
  pub verifier : V
  pub query : Query
  pub done : ℕ
  pub constraints : Constraints

-- each certificate up to k permits the name
abbrev pub IsPermitted : Query → ℕ → GeneralName → Type 0
IsPermitted q k name = (i : ℕ) → 1 ≤ i → i ≤ k → Permits (constraints_at q i) name

-- some certificate up to k excludes the name
abbrev pub IsExcluded : Query → ℕ → GeneralName → Type 0
IsExcluded q k name = (i : ℕ) × (1 ≤ i) × (i ≤ k) × Excludes (constraints_at q i) name

-- the constraints that are held admit exactly the names, of processed forms, that the certificates up to k admit
abbrev pub AdmitsExactly : Query → ℕ → Constraints → Type 0
AdmitsExactly q k held =
    (name : GeneralName) → IsProcessed (form_of_general_name name) →
    (AdmitsName held name ↔ (IsPermitted q k name × ¬ IsExcluded q k name))

-- how many subtrees a certificate carries, and the first k together
abbrev pub subtrees_of : Certificate → ℕ
subtrees_of c = length c.extensions.name_constraints.permitted + length c.extensions.name_constraints.excluded

abbrev pub subtrees_up_to : Query → ℕ → ℕ
subtrees_up_to q k = sum_by subtrees_of (take k q.certificates)

-- certificate j carries no subtree of a processed form, mail addresses and hosts among them
pub record CarriesNoSubtree (q : Query) (j : ℕ) : Type 0 where
  pub permitted : has_processed (constraints_at q j).permitted ≡ false
  pub excluded : has_processed (constraints_at q j).excluded ≡ false
  pub hosts : HasNoBase (hosts_at q j)

-- no certificate of the path carries one
abbrev pub CarryNoSubtrees : code.Certificate → List code.Certificate → ℤ → Option (Bor (List ℕ)) → Options → Type 0
CarryNoSubtrees anchor path moment purpose options =
    (j : ℕ) → 1 ≤ j → j ≤ length path → CarriesNoSubtree (question anchor path moment purpose options) j

-- what is answered is the outcome of the question that the caller asks
abbrev pub HasOutcome : {V E : Type 0} → (V → Accepts) → V → code.Certificate → List code.Certificate → ℤ → Option (Bor (List ℕ)) → Options → Result Outcome E → Type 0
HasOutcome accepts verifier anchor path moment purpose options result =
    IfOk result (IsOutcome (accepts verifier) (question anchor path moment purpose options))

-- certificates 1 to j meet all conditions, and j carries a subtree of a processed form, for which memory is asked
pub record AsksMemoryAt (accepts : Accepts) (q : Query) (j : ℕ) : Type 0 where
  pub served : IsServed q
  pub from : 1 ≤ j
  pub to : j ≤ count q
  pub each : (i : ℕ) → 1 ≤ i → i ≤ j → MeetsConditions accepts q i
  pub carries : ¬ CarriesNoSubtree q j

-- an error is answered only if the question that the caller asks has such a certificate
abbrev pub NeedsRoom : {V E : Type 0} → (V → Accepts) → V → code.Certificate → List code.Certificate → ℤ → Option (Bor (List ℕ)) → Options → Result Outcome E → Type 0
NeedsRoom accepts verifier anchor path moment purpose options result =
    OnErr result ((j : ℕ) × AsksMemoryAt (accepts verifier) (question anchor path moment purpose options) j)

-- The words below speak of the certificate behind those that have passed: it meets the condition whose breach is the reason,
-- or all of them, or this is the condition of the least rank that it breaks.
abbrev pub NextMeets : {V : Type 0} → (V → Accepts) → Progress V → Reason → Type 0
NextMeets accepts state reason = MeetsCondition (accepts state.verifier) state.query (state.done + 1) reason

abbrev pub MeetsAll : {V : Type 0} → (V → Accepts) → Progress V → Type 0
MeetsAll accepts state = MeetsConditions (accepts state.verifier) state.query (state.done + 1)

abbrev pub NextBreaks : {V : Type 0} → (V → Accepts) → Progress V → Reason → Type 0
NextBreaks accepts state reason = IsLeastBroken (accepts state.verifier) state.query (state.done + 1) reason

-- there is such a certificate, the path is served, and it meets all conditions
abbrev pub NextPasses : {V : Type 0} → (V → Accepts) → Progress V → Type 0
NextPasses accepts state = IsServed state.query × (state.done < count state.query) × MeetsAll accepts state

-- why the next step fails
abbrev pub FailsFor : Accepts → Query → ℕ → Reason → Type 0
FailsFor accepts q k reason =
    IsNotServedFor q reason ⊎ (IsServed q × (k < count q) × IsLeastBroken accepts q (k + 1) reason)

-- what a step says, and where it leads
abbrev pub TakesStep : {V : Type 0} → (V → Accepts) → Progress V → Progress V → Step → Type 0
TakesStep accepts old new Passed =
    IsServed old.query × (old.done < count old.query) × MeetsAll accepts old
    × (new.done ≡ old.done + 1) × (new.query ≡ old.query) × (new.verifier ≡ old.verifier)
TakesStep accepts old new (Failed reason) = FailsFor (accepts old.verifier) old.query old.done reason × (new ≡ old)
TakesStep accepts old new Ended = IsServed old.query × (old.done ≡ count old.query) × (new ≡ old)
