-- What is asked under the key in the issuer's file, and why it is not.
use Rattle.std.proofs.Common.{ℕ, Bool, List, Result, Ok, Err, IfErr, IfOk, inr}
use Rattle.std.specs.Global.{Vec}
use Rattle.cert.specs.Certificate.{Certificate}
use Rattle.cli_words.specs.declared.line.Kind.{Kind}
use Rattle.cli_failures.specs.Failures.{Holding, HoldsCertificate}
use Rattle.cli_failures.specs.declared.failure.Failure.{Failure}
use Rattle.cli_showing.specs.Shown.{ArePrintLines, ArePrintsUnder, IsFailureOfPrints, IsNotShown}

module _ (holds : Holding) (issuer : List ℕ) (kind : Kind) (file : List ℕ) (signer : Certificate) (held : HoldsCertificate holds issuer signer) where
  pub prints_under : (with_parts : Bool) (result : Result (Vec ℕ) Failure) → IfOk result (λ text. ArePrintLines holds signer.key_info kind with_parts file text.items)
      → IfOk result (λ text. ArePrintsUnder holds issuer kind with_parts file text.items)
  prints_under with_parts (Ok text) are = (signer, held, are)
  prints_under with_parts (Err failure) are = tt

  pub fails_under : (result : Result (Vec ℕ) Failure) → IfErr result (IsNotShown holds kind file) → IfErr result (IsFailureOfPrints holds issuer kind file)
  fails_under (Ok text) fails = tt
  fails_under (Err failure) fails = inr (signer, held, fails)
