use Rattle.std.proofs.Common.{◌≡◌, ◌++◌, drop}
use Rattle.cli_requests.specs.Requests.{first_policies, octets_of_words}
use Rattle.cli_requests.proofs.policies.first_policies.Given as goal

abbrev pub invariant-loop-word : goal.invariant-loop-word
invariant-loop-word l =
    octets_of_words l.policies.items ++ first_policies (octets_of_words (drop l.word-index l.words)) ≡ first_policies (octets_of_words l.words)
