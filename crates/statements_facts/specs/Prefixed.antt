-- Entries beside the first octets of their serial numbers.
use Rattle.statements_facts.specs.declared.prefixed.Prefixed.{Prefixed}
use Rattle.statements_facts.specs.Listed.{ListedSerial, seen_listed}

abbrev pub seen_prefixed : Prefixed → ListedSerial
seen_prefixed prefixed = seen_listed prefixed.listed
