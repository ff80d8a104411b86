-- What passes on, from the parts.
use Rattle.std.proofs.Common.{◌≡◌, ℕ, List, Some, Result, Ok, Err, inl, inr}
use Rattle.cert.specs.Certificate.{Certificate, certificate}
use Rattle.path.specs.Query.{Accepts}
use Rattle.path_verifiers.specs.Fingerprint.{fingerprint_of}
use Rattle.path_verifiers.specs.ListVerifier.{Believes, is_listed}
use Rattle.path_verifiers.specs.declared.list_verifier.ListVerifier.{ListVerifier}
use Rattle.statements.specs.Statement.{genuine_statement_under}
use Rattle.statements_facts.specs.declared.counts.Counts.{Counts}
use Rattle.cli_failures.specs.Failures.{Holding}
use Rattle.cli_failures.specs.declared.failure.Failure.{Failure}
use Rattle.cli_operands.specs.Asked.{HoldsFingerprints}
use Rattle.cli_steps.specs.Commands.{BelievesFile}
use Rattle.cli_steps.specs.Passing.{DeliversTo, DeliversUnder, PassesOn, TakesSaid, TakingBy}

-- it came to who answers
pub passed : {R A T : Type 0} (Reads : A → Type 0) (Refuses : Failure → Type 0) (Answers : R → R → A → Result T Failure → Type 0) (old new : R) (it : A) (result : Result T Failure) → Reads it → Answers old new it result
    → PassesOn Reads Refuses Answers old new result
passed Reads Refuses Answers old new it (Ok answer) reads did = (it, reads, did)
passed Reads Refuses Answers old new it (Err failure) reads did = inr (it, reads, did)

-- what was read, or refused, is something of which more is said
pub further : {R A B T : Type 0} (more : A → B) (Reads : A → Type 0) (Are : B → Type 0) (Refuses Others : Failure → Type 0) (Answers : R → R → B → Result T Failure → Type 0) (old new : R) (result : Result T Failure)
    → ((it : A) → Reads it → Are (more it)) → ((failure : Failure) → Refuses failure → Others failure)
    → PassesOn Reads Refuses (λ old new it result. Answers old new (more it) result) old new result → PassesOn Are Others Answers old new result
further more Reads Are Refuses Others Answers old new (Ok answer) so others (it, reads, did) = (more it, so it reads, did)
further more Reads Are Refuses Others Answers old new (Err failure) so others (inl (refused, same)) = inl (others failure refused, same)
further more Reads Are Refuses Others Answers old new (Err failure) so others (inr (it, reads, did)) = inr (more it, so it reads, did)

-- ---- deliveries

module _ {R : Type 0} (Takes : TakingBy R) (old new : R) (holds : Holding) (accepts : Accepts) where
  pub deliver_under : (by : Certificate) (statement file : List ℕ) (result : Result Counts Failure) → holds.has file (Some statement)
      → TakesSaid (genuine_statement_under holds.profile accepts by statement) file Takes old new result → DeliversUnder holds accepts by file Takes old new result
  deliver_under by statement file result found =
      further (λ facts. facts) _ _ _ _ Takes old new result (λ facts says. (statement, found, says)) (λ failure denied. inr (statement, found, denied))

  pub deliver_to : (octets : List ℕ) (by : Certificate) (issuer file : List ℕ) (result : Result Counts Failure) → holds.has issuer (Some octets) → certificate octets ≡ Ok by
      → DeliversUnder holds accepts by file Takes old new result → DeliversTo holds accepts issuer file Takes old new result
  deliver_to octets by issuer file result found reads =
      further (λ facts. facts) _ _ _ _ Takes old new result
      (λ facts says. record { by = by; issuer_is = (octets, found, reads); statement = says.0; file_is = says.1; genuine = says.2 })
      (λ failure refused. inr (by, (octets, found, reads), refused))

-- ---- fingerprints

-- what a verifier of fingerprints accepts
abbrev pub accepted_by : ListVerifier → Accepts
accepted_by verifier = λ algorithm key message signature. is_listed verifier (fingerprint_of algorithm key message signature)

-- that of the fingerprints of a file believes the file
pub believes_file : (holds : Holding) (file : List ℕ) (verifier : ListVerifier) (prints : List (List ℕ)) → HoldsFingerprints holds file prints → Believes verifier prints
    → BelievesFile holds file (accepted_by verifier)
believes_file holds file verifier prints named believes = record {
  prints = prints;
  named = named;
  believed = λ algorithm key message signature. believes (fingerprint_of algorithm key message signature);
}
