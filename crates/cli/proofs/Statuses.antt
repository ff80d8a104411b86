-- Statuses of answers and of failures.
use Rattle.std.proofs.Common.{◌≡◌, inl, inr, refl, ℕ, arith}
use Rattle.cli_failures.specs.Report.{exit_status}
use Rattle.cli_failures.specs.declared.failure.Failure.{Failure}
use Rattle.cli_failures.specs.declared.failure.Failure.TheVariants.{Refused, NoCertificate, NoRevocationList, NoResponse, NotGenuine, BadLine, BadTime, BadPurpose, BadPolicy, BadName, BadTopic, Unreadable, Unwritable, StoreFailed, NoMemory, Shut, NoInput}
use Rattle.cli.specs.Ended.{IsAnswering, IsFailing}

-- a failure has one of three
pub is_failing : (failure : Failure) → IsFailing (exit_status failure)
is_failing (Refused file fault) = inl refl
is_failing (NoCertificate file rule at) = inl refl
is_failing (NoRevocationList file rule at) = inl refl
is_failing (NoResponse file rule at) = inl refl
is_failing (NotGenuine file fault) = inl refl
is_failing (BadLine file line) = inl refl
is_failing BadTime = inr (inl refl)
is_failing BadPurpose = inr (inl refl)
is_failing (BadPolicy word) = inr (inl refl)
is_failing (BadName stop) = inr (inl refl)
is_failing BadTopic = inr (inl refl)
is_failing Shut = inr (inr refl)
is_failing NoInput = inr (inr refl)
is_failing (Unreadable file) = inr (inr refl)
is_failing Unwritable = inr (inr refl)
is_failing (StoreFailed why) = inr (inr refl)
is_failing NoMemory = inr (inr refl)

four : (status : ℕ) → IsAnswering status → status ≡ 4 → ⊥
four status (inl is) said = omega (arith, is, said)
four status (inr (inl is)) said = omega (arith, is, said)
four status (inr (inr (inl is))) said = omega (arith, is, said)
four status (inr (inr (inr (inl is)))) said = omega (arith, is, said)
four status (inr (inr (inr (inr is)))) said = omega (arith, is, said)

five : (status : ℕ) → IsAnswering status → status ≡ 5 → ⊥
five status (inl is) said = omega (arith, is, said)
five status (inr (inl is)) said = omega (arith, is, said)
five status (inr (inr (inl is))) said = omega (arith, is, said)
five status (inr (inr (inr (inl is)))) said = omega (arith, is, said)
five status (inr (inr (inr (inr is)))) said = omega (arith, is, said)

six : (status : ℕ) → IsAnswering status → status ≡ 6 → ⊥
six status (inl is) said = omega (arith, is, said)
six status (inr (inl is)) said = omega (arith, is, said)
six status (inr (inr (inl is))) said = omega (arith, is, said)
six status (inr (inr (inr (inl is)))) said = omega (arith, is, said)
six status (inr (inr (inr (inr is)))) said = omega (arith, is, said)

-- and an answer none of them
pub not_both : (status : ℕ) → IsAnswering status → IsFailing status → ⊥
not_both status answers (inl is) = four status answers is
not_both status answers (inr (inl is)) = five status answers is
not_both status answers (inr (inr is)) = six status answers is
