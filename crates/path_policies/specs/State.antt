-- What a step of the processing says, and where it leads (RFC 5280, 6.1.3 (f), 6.1.4 (a), 6.1.5 (g)).
use Rattle.std.specs.Prelude.{◌≡◌, ◌+◌, ◌<◌, ℕ}
use Rattle.path_policies.specs.declared.reason.PolicyReason.{PolicyReason}
use Rattle.path_policies.specs.declared.reason.PolicyReason.TheVariants.{NoValidPolicy, AnyPolicyMapped, NoUserPolicy}
use Rattle.path_policies.specs.declared.reason.PolicyOutcome.TheVariants as outcome
use Rattle.path_policies.specs.declared.state.PolicyStep.{PolicyStep}
use Rattle.path_policies.specs.declared.state.PolicyStep.TheVariants.{Passed, Failed, Ended}
use Rattle.path_policies.specs.Query.{count}
use Rattle.path_policies.specs.Outcome.{IsAcceptable, IsPolicyOutcome}
use Rattle.path_policies.specs.Progress.{PolicyProgress}

-- the certificate that is refused is the next one; or the last one, which has passed, if none of the user's policies is valid
abbrev pub IsRefusedCertificate : PolicyProgress → ℕ → PolicyReason → Type 0
IsRefusedCertificate old number NoValidPolicy = number ≡ old.done + 1
IsRefusedCertificate old number AnyPolicyMapped = number ≡ old.done + 1
IsRefusedCertificate old number NoUserPolicy = number ≡ old.done

abbrev pub TakesPolicyStep : PolicyProgress → PolicyStep → Type 0
TakesPolicyStep old (Passed new) =
    (old.done < count old.query) × IsAcceptable old.query (old.done + 1) × (new.query ≡ old.query) × (new.done ≡ old.done + 1)
TakesPolicyStep old (Failed number reason) = IsRefusedCertificate old number reason × IsPolicyOutcome old.query (outcome.Bad number reason)
TakesPolicyStep old (Ended sets) = (old.done ≡ count old.query) × IsPolicyOutcome old.query (outcome.Good sets)
