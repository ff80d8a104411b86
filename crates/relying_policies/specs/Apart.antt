-- Which certificate of a search is refused for its extensions about policies.
use Rattle.std.specs.Prelude.{◌≡◌, ◌⊎◌, ℕ, List, length, IsOk}
use Rattle.cert.specs.Certificate.{seen_certificate}
use Rattle.cert.specs.Fault.{FailsUnlessFull}
use Rattle.cert.specs.declared.certificate.Certificate as code
use Rattle.cert.specs.declared.fault.CertFault.{CertFault}
use Rattle.path_policies.specs.Reading.{IsFirstRefused, policy_certificate}

-- the target is, and the place is that behind the bag; or it is not, and this is the first in the bag
abbrev pub IsRefusedInSearch : List code.Certificate → code.Certificate → ℕ → CertFault → Type 0
IsRefusedInSearch bag target place fault =
    ((place ≡ length bag) × FailsUnlessFull fault (policy_certificate (seen_certificate target)))
    ⊎ (IsOk (policy_certificate (seen_certificate target)) × IsFirstRefused bag place fault)
