-- What the processing of policies is asked (RFC 5280, 6.1.1), and what is taken of each certificate. Certificates are numbered from 1 on;
-- policies are told by the contents octets of their OBJECT IDENTIFIERs.
use Rattle.std.specs.Prelude.{ℕ, List, [], ◌∷◌, Bool, false, None, length, slice_index_or}
use Rattle.cert_policies.specs.PolicyExtensions.{PolicyExtensions}

-- anyPolicy (4.2.1.4): 2.5.29.32.0
abbrev pub any_policy : List ℕ
any_policy = 0x55 ∷ 0x1D ∷ 0x20 ∷ 0x00 ∷ []

pub record PolicyCertificate : Type 0 where
  pub self_issued : Bool
  pub extensions : PolicyExtensions

pub record PolicyQuery : Type 0 where
  -- the certificates 1 to n; the trust anchor says nothing
  pub certificates : List PolicyCertificate
  -- user-initial-policy-set (c); with anyPolicy among them, every policy
  pub initial_policies : List (List ℕ)
  -- initial-policy-mapping-inhibit (e), initial-explicit-policy (f), initial-any-policy-inhibit (g)
  pub inhibit_policy_mapping : Bool
  pub require_explicit_policy : Bool
  pub inhibit_any_policy : Bool

abbrev pub count : PolicyQuery → ℕ
count q = length q.certificates

-- a certificate that says nothing
abbrev pub says_nothing : PolicyCertificate
says_nothing = record {
  self_issued = false;
  extensions = record { policies = None; mappings = []; require_explicit_policy = None; inhibit_policy_mapping = None; inhibit_any_policy = None };
}

abbrev pub certificate_numbered : PolicyQuery → ℕ → PolicyCertificate
certificate_numbered q i = slice_index_or (says_nothing ∷ q.certificates) i says_nothing
