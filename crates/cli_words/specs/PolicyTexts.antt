-- What is asked of certificate policies, as it was written.
use Rattle.std.specs.Prelude.{ℕ, List, Bool, map}
use Rattle.cli_words.specs.declared.policies.PolicyWords.{PolicyWords}

-- the texts of the policies that the user takes, and what else is asked of policies (RFC 5280, 6.1.1 (c), (f), (e), (g))
pub record PolicyTexts : Type 0 where
  pub policies : List (List ℕ)
  pub require_policy : Bool
  pub inhibit_mapping : Bool
  pub inhibit_any_policy : Bool

-- those of the words
abbrev pub seen_policy_words : PolicyWords → PolicyTexts
seen_policy_words words = record {
  policies = map (λ policy. policy.now) words.policies.items;
  require_policy = words.require_policy;
  inhibit_mapping = words.inhibit_mapping;
  inhibit_any_policy = words.inhibit_any_policy;
}
