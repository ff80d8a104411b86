-- The parts that lists alone are made of.
use Rattle.std.specs.Prelude.{ℕ, not, Result, Ok}
use Rattle.std.specs.Str.{bytes_eq}
use Rattle.asn.specs.Place.{Place}
use Rattle.asn.specs.Members.{Members}
use Rattle.asn.specs.Walk.{◌>>=◌, check_that}
use Rattle.names.specs.GeneralLayout.{NameContents}
use Rattle.cert.specs.AlgorithmIdentifier.{AlgorithmIdentifier}
use Rattle.cert.specs.TbsCertificate.{is_empty_name}
use Rattle.statements_parts.specs.Parts.{statement_component, name_in_statement}
use Rattle.statements_parts.specs.declared.fault.StatementRule.{StatementRule}
use Rattle.statements_parts.specs.declared.fault.StatementRule.TheVariants.{Layout}

-- issuer (5.1.2.3): a name that is not empty
unfoldable pub list_issuer : Place → Result NameContents (StatementRule × ℕ)
list_issuer value = do
  read ← name_in_statement value
  named ← check_that (not (is_empty_name read.rdns)) Layout value.at
  Ok read

-- signatureAlgorithm (5.1.1.2): the same octets as the algorithm identifier in the signed part
unfoldable pub same_list_algorithm : AlgorithmIdentifier → Place → Result (Unit {0}) (StatementRule × ℕ)
same_list_algorithm inner value = check_that (bytes_eq value.octets inner.value.octets) Layout value.at

-- the next value as the signatureAlgorithm
abbrev pub next_list_algorithm : AlgorithmIdentifier → Members → Result (Unit {0} × Members) (StatementRule × ℕ)
next_list_algorithm inner = statement_component 0x30 (same_list_algorithm inner)
