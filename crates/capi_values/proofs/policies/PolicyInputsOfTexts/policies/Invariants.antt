use Rattle.std.proofs.Common.{◌≡◌, ◌++◌, drop}
use Rattle.path_policies.specs.Seen.{contents_of}
use Rattle.capi_values.specs.Texts.{octets_of_texts}
use Rattle.capi_values.proofs.policies.PolicyInputsOfTexts.policies.Given as goal

abbrev pub invariant-loop-text : goal.invariant-loop-text
invariant-loop-text l =
    contents_of l.policies.items ++ octets_of_texts (drop l.text-index l.text-items) ≡ octets_of_texts l.text-items
