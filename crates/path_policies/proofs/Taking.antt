-- Certificates that are taken one after another.
use Rattle.std.proofs.Common.{◌≡◌, ℕ, ◌+◌, ◌<◌, ◌≤◌, List, [], ◌∷◌, ◌++◌, length, get_or, arith, sym, ap, ◌∙◌, ⊎_elim, Ok, is_ok, IsOk}
use Rattle.std.proofs.lemmas.Bool.{cases_lt}
use Rattle.std.proofs.lemmas.List.{length-append, get_or_default, get_or_push, get_or_append_left}
use Rattle.cert.specs.declared.fault.CertFault.{CertFault}
use Rattle.cert.specs.declared.certificate.Certificate as code
use Rattle.cert.specs.Fault.{FailsUnlessFull}
use Rattle.cert.specs.Certificate.{seen_certificate}
use Rattle.path_policies.specs.declared.query.PolicyCertificate as taken
use Rattle.path_policies.specs.Reading.{policy_certificate, AreTaken, IsFirstRefused}
use Rattle.path_policies.specs.Seen.{seen_policy_certificate}

pub taken_more : (certificates : List code.Certificate) (n : ℕ) (all : List taken.PolicyCertificate) (one : taken.PolicyCertificate) (d : code.Certificate) → n < length certificates
    → policy_certificate (seen_certificate (get_or certificates n d)) ≡ Ok (seen_policy_certificate one) → AreTaken certificates n all → AreTaken certificates (n + 1) (all ++ one ∷ [])
taken_more certificates n all one d within here before = record {
  count_is = length-append all (one ∷ []) ∙ ap (λ n. n + 1) before.count_is;
  each = λ i c p below. ⊎_elim (old i c p) (new i c p below) (cases_lt i n);
} where
  old : (i : ℕ) (c : code.Certificate) (p : taken.PolicyCertificate) → i < n
      → policy_certificate (seen_certificate (get_or certificates i c)) ≡ Ok (seen_policy_certificate (get_or (all ++ one ∷ []) i p))
  old i c p less = before.each i c p less ∙ ap (λ t. Ok (seen_policy_certificate t)) (sym (get_or_append_left all (one ∷ []) p i (rw before.count_is less)))

  new : (i : ℕ) (c : code.Certificate) (p : taken.PolicyCertificate) → i < n + 1 → n ≤ i
      → policy_certificate (seen_certificate (get_or certificates i c)) ≡ Ok (seen_policy_certificate (get_or (all ++ one ∷ []) i p))
  new i c p below more =
      let is : n ≡ i = omega arith in
      ap (λ found. policy_certificate (seen_certificate found)) (ap (λ (at : ℕ). get_or certificates at c) (sym is) ∙ get_or_default certificates n c d within) ∙ here ∙ ap (λ t. Ok (seen_policy_certificate t)) (sym (get_or_push all one p i (before.count_is ∙ is)))

pub refused_at : (certificates : List code.Certificate) (n : ℕ) (all : List taken.PolicyCertificate) (fault : CertFault) → n < length certificates
    → ((c : code.Certificate) → FailsUnlessFull fault (policy_certificate (seen_certificate (get_or certificates n c)))) → AreTaken certificates n all → IsFirstRefused certificates n fault
refused_at certificates n all fault within fails before = record {
  within = within;
  refused = fails;
  before = λ j c below. taken_one all before j c below;
} where
  taken_one : (all : List taken.PolicyCertificate) → AreTaken certificates n all → (j : ℕ) (c : code.Certificate) → j < n → IsOk (policy_certificate (seen_certificate (get_or certificates j c)))
  taken_one [] before j c below = let none = before.count_is in absurd (omega arith)
  taken_one (p ∷ all) before j c below = ap is_ok (before.each j c p below)
