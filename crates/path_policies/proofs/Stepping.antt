-- A step of the processing, from what is held.
use Rattle.std.proofs.Common.{◌≡◌, ℕ, ◌+◌, ◌<◌, ◌≤◌, ◌==◌, List, ◌∷◌, [], ◌++◌, length, get_or, arith, refl, sym, ap, ◌∙◌, subst}
use Rattle.std.proofs.lemmas.List.{length-append, length-map, get_or_default}
use Rattle.std.specs.Borrow.{Bor}
use Rattle.std.specs.Global.{Vec}
use Rattle.path_policies.specs.declared.inhibitions.Inhibitions as code
use Rattle.path_policies.specs.declared.query.PolicyCertificate as asked_of
use Rattle.path_policies.specs.declared.query.PolicyQuery as asked
use Rattle.path_policies.specs.declared.policy_set.PolicySet.{PolicySet}
use Rattle.path_policies.specs.declared.reason.PolicyReason.{PolicyReason}
use Rattle.path_policies.specs.declared.reason.PolicyReason.TheVariants as R
use Rattle.path_policies.specs.declared.reason.PolicyOutcome.TheVariants.{Bad}
use Rattle.path_policies.specs.declared.walk.Step.{Step}
use Rattle.path_policies.specs.declared.walk.Step.TheVariants as step
use Rattle.path_policies.specs.Query.{PolicyQuery, count, certificate_numbered}
use Rattle.path_policies.specs.Seen.{seen_query, seen_policy_certificate, seen_inhibitions, no_inhibitions}
use Rattle.path_policies.specs.Sets.{has}
use Rattle.path_policies.specs.Steps.{inhibitions_behind}
use Rattle.path_policies.specs.Walk.{PassUpTo, TakesStep, FailsBehind, FailsFirst, HasWalked}
use Rattle.path_policies.specs.Outcome.{IsAcceptable, AreAcceptableBefore, IsPolicyOutcome}
use Rattle.path_policies.specs.Progress.{PolicyProgress, Represents}
use Rattle.path_policies.specs.State.{IsRefusedCertificate}
use Rattle.path_policies.proofs.Counting.{numbered}
use Rattle.path_policies.proofs.Walking.{passed, failed, stepped}
use Rattle.path_policies.proofs.Ending.{acceptable, fails_first}

-- the certificates that have passed are acceptable
pub acceptable_before : {v w : PolicyProgress} → v ≡ w → v.done ≤ count v.query → PassUpTo v.query v.done → AreAcceptableBefore w.query (w.done + 1)
acceptable_before {v} {w} e le pass = subst (λ (u : PolicyProgress). AreAcceptableBefore u.query (u.done + 1)) e (λ j from below. acceptable v.query v.done le pass j from (omega arith))

-- if all have passed, the last one is refused, for the user's policies
last_refused : (v : PolicyProgress) (number : ℕ) (reason : PolicyReason) → v.done ≡ count v.query → PassUpTo v.query v.done
    → IsPolicyOutcome v.query (Bad number reason) → IsRefusedCertificate v number reason
last_refused v number R.NoValidPolicy all pass is = let to = is.0.to in absurd (is.1 (acceptable v.query v.done (omega arith) pass number is.0.from (omega arith)).required)
last_refused v number R.AnyPolicyMapped all pass is = let to = is.0.to in absurd (is.1.1 (acceptable v.query v.done (omega arith) pass number is.0.from (omega arith)).mapped)
last_refused v number R.NoUserPolicy all pass is = is.0 ∙ sym all

pub refused_last : {v w : PolicyProgress} → v ≡ w → w.done ≡ count w.query → PassUpTo v.query v.done → (number : ℕ) (reason : PolicyReason)
    → IsPolicyOutcome v.query (Bad number reason) → IsRefusedCertificate w number reason × IsPolicyOutcome w.query (Bad number reason)
refused_last {v} {w} e all pass number reason is =
    subst (λ (u : PolicyProgress). IsRefusedCertificate u number reason × IsPolicyOutcome u.query (Bad number reason)) e
    (last_refused v number reason (subst (λ (u : PolicyProgress). u.done ≡ count u.query) (sym e) all) pass is, is)

-- a certificate that is taken and fails is the next one
next_refused : (v : PolicyProgress) (i : ℕ) (reason : PolicyReason) → FailsBehind v.query i reason → IsRefusedCertificate v (v.done + 1) reason
next_refused v i R.NoValidPolicy fails = refl
next_refused v i R.AnyPolicyMapped fails = refl
next_refused v i R.NoUserPolicy fails = absurd fails

pub refused_next : {v w : PolicyProgress} → v ≡ w → w.done < count w.query → (i : ℕ) → i ≡ v.done → (firsts : List (Vec (Bor (List ℕ)))) (old new : PolicySet) (reason : PolicyReason)
    → HasWalked v.query i firsts old
    → TakesStep (certificate_numbered v.query (i + 1)) (inhibitions_behind v.query i) (i + 1 == count v.query) (has old) (has new) (step.Failed reason)
    → IsRefusedCertificate w (i + 1) reason × IsPolicyOutcome w.query (Bad (i + 1) reason)
refused_next {v} {w} e below i is firsts old new reason walked fails =
    let less : v.done < count v.query = subst (λ (u : PolicyProgress). u.done < count u.query) (sym e) below in
    let first : FailsFirst v.query (i + 1) reason = failed v.query i firsts old new reason walked (omega arith) fails in
    subst (λ (u : PolicyProgress). IsRefusedCertificate u (i + 1) reason × IsPolicyOutcome u.query (Bad (i + 1) reason)) e
    (subst (λ (n : ℕ). IsRefusedCertificate v (n + 1) reason) (sym is) (next_refused v first.i reason first.fails), fails_first v.query (i + 1) reason first)

-- so many certificates are not all
pub not_all : {v w : PolicyProgress} → v ≡ w → w.done < count w.query → (i : ℕ) → i ≡ v.done → i < count v.query
not_all {v} {w} e below i is =
    let less : v.done < count v.query = subst (λ (u : PolicyProgress). u.done < count u.query) (sym e) below in
    omega arith

-- the certificate is taken, as the code reads it and what the counters say at it
pub taken : (read : asked.PolicyQuery) (each : List code.Inhibitions) (firsts : List (Vec (Bor (List ℕ)))) (old new : PolicySet)
    → Represents (seen_query read) each firsts old → (i : ℕ) → i < count (seen_query read) → (certificate : asked_of.PolicyCertificate) (here : code.Inhibitions)
    → here ≡ get_or each i here → (one other : Step) → one ≡ other
    → TakesStep (seen_policy_certificate (get_or read.certificates.now i certificate)) (seen_inhibitions here) (i + 1 == length read.certificates.now) (has old) (has new) one
    → TakesStep (certificate_numbered (seen_query read) (i + 1)) (inhibitions_behind (seen_query read) i) (i + 1 == count (seen_query read)) (has old) (has new) other
taken read each firsts old new held i below certificate here here_is one other is takes =
    let certificates = read.certificates.now in
    let n_is : count (seen_query read) ≡ length certificates = length-map certificates seen_policy_certificate in
    stepped (seen_query read) i (seen_policy_certificate (get_or certificates i certificate)) (seen_inhibitions here) (length certificates) (has old) (has new) one other
    (numbered certificates i certificate (subst (λ (n : ℕ). i < n) n_is below))
    (ap seen_inhibitions (here_is ∙ get_or_default each i here no_inhibitions (subst (λ (n : ℕ). i < n) (sym held.count_is) below)) ∙ held.each_is i below)
    n_is is takes

-- one that passes
pub walked_next : (q : PolicyQuery) (i : ℕ) (firsts items : List (Vec (Bor (List ℕ)))) (first : Vec (Bor (List ℕ))) (old new : PolicySet) → i ≡ length firsts → items ≡ firsts ++ first ∷ []
    → HasWalked q (length firsts) firsts old
    → TakesStep (certificate_numbered q (i + 1)) (inhibitions_behind q i) (i + 1 == count q) (has old) (has new) (step.Passed first)
    → HasWalked q (length items) items new
walked_next q i firsts items first old new is items_are walked takes =
    let more : length items ≡ i + 1 = ap length items_are ∙ length-append firsts (first ∷ []) ∙ ap (λ (n : ℕ). n + 1) (sym is) in
    let next : HasWalked q (i + 1) (firsts ++ first ∷ []) new = passed q i firsts first old new (subst (λ (n : ℕ). HasWalked q n firsts old) (sym is) walked) takes in
    subst (λ (n : ℕ). HasWalked q n items new) (sym more) (subst (λ (list : List (Vec (Bor (List ℕ)))). HasWalked q (i + 1) list new) (sym items_are) next)

one_more : (firsts items : List (Vec (Bor (List ℕ)))) (first : Vec (Bor (List ℕ))) → items ≡ firsts ++ first ∷ [] → length items ≡ length firsts + 1
one_more firsts items first items_are = ap length items_are ∙ length-append firsts (first ∷ [])

pub represents_next : (q : PolicyQuery) (i : ℕ) (each : List code.Inhibitions) (firsts items : List (Vec (Bor (List ℕ)))) (first : Vec (Bor (List ℕ))) (old new : PolicySet)
    → Represents q each firsts old → i ≡ length firsts → i < count q → items ≡ firsts ++ first ∷ [] → HasWalked q (length items) items new → Represents q each items new
represents_next q i each firsts items first old new held is below items_are walked =
    let more = one_more firsts items first items_are in
    record { count_is = held.count_is; each_is = held.each_is; within = omega arith; walked = walked }

pub passed_next : {v w : PolicyProgress} → v ≡ w → w.done < count w.query → (firsts items : List (Vec (Bor (List ℕ)))) (new : PolicySet) (first : Vec (Bor (List ℕ)))
    → v.done ≡ length firsts → items ≡ firsts ++ first ∷ [] → HasWalked v.query (length items) items new
    → (w.done < count w.query) × IsAcceptable w.query (w.done + 1) × (v.query ≡ w.query) × (length items ≡ w.done + 1)
passed_next {v} {w} e below firsts items new first is items_are walked =
    let less : v.done < count v.query = subst (λ (u : PolicyProgress). u.done < count u.query) (sym e) below in
    let more : length items ≡ v.done + 1 = one_more firsts items first items_are ∙ ap (λ (n : ℕ). n + 1) (sym is) in
    let here : IsAcceptable v.query (length items) = acceptable v.query (length items) (omega arith) walked.pass (length items) (omega arith) (omega arith) in (
      below,
      subst (λ (u : PolicyProgress). IsAcceptable u.query (u.done + 1)) e (subst (IsAcceptable v.query) more here),
      ap (λ (u : PolicyProgress). u.query) e,
      more ∙ ap (λ (u : PolicyProgress). u.done + 1) e,
    )
