use Rattle.std.proofs.Common.{◌≡◌, drop}
use Rattle.cli_requests.specs.Requests.{are_operands, octets_of_words}
use Rattle.cli_requests.proofs.request.check_operands.Given as goal

abbrev pub invariant-loop-word : goal.invariant-loop-word
invariant-loop-word l = are_operands (octets_of_words (drop l.word-index l.words)) ≡ are_operands (octets_of_words l.words)
