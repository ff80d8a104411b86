-- ResponderID (RFC 6960, 4.2.1): CHOICE { byName [1] EXPLICIT Name, byKey [2] EXPLICIT KeyHash }, KeyHash ::= OCTET STRING
use Rattle.std.specs.Prelude.{ℕ, ◌==◌, List, Result, Ok, if◌then◌else◌}
use Rattle.asn.specs.Place.{Place, tag, body}
use Rattle.asn.specs.Members.{Members, members}
use Rattle.asn.specs.Walk.{◌>>=◌, is_a, required, next_or, ended}
use Rattle.names.specs.GeneralLayout.{NameContents}
use Rattle.names.specs.GeneralView.{name_contents}
use Rattle.statements_parts.specs.Parts.{statement_component, name_in_statement}
use Rattle.statements_parts.specs.declared.fault.StatementRule.{StatementRule}
use Rattle.statements_parts.specs.declared.fault.StatementRule.TheVariants.{Layout}
use Rattle.statements_ocsp.specs.declared.responder.ResponderId.{ResponderId}
use Rattle.statements_ocsp.specs.declared.responder.ResponderId.TheVariants as code

-- who answers: a name, or the contents octets of the hash of a key
pub data Responder : Type 0 where
  by_name : NameContents → Responder
  by_key : List ℕ → Responder

abbrev pub seen_responder : ResponderId → Responder
seen_responder (code.ByName name) = by_name (name_contents name)
seen_responder (code.ByKey hash) = by_key hash.now

unfoldable pub named_responder : Place → Result Responder (StatementRule × ℕ)
named_responder value = do
  named ← is_a 0xA1 Layout value
  name ← statement_component 0x30 name_in_statement (members value)
  one ← ended Layout name.1
  Ok (by_name name.0)

unfoldable pub keyed_responder : Place → Result Responder (StatementRule × ℕ)
keyed_responder value = do
  keyed ← is_a 0xA2 Layout value
  hash ← required 0x04 Layout (members value)
  one ← ended Layout hash.1
  Ok (by_key (body hash.0))

unfoldable pub responder_at : Place → Result Responder (StatementRule × ℕ)
responder_at value = if tag value == 0xA1 then named_responder value else keyed_responder value

unfoldable pub responder : Members → Result (Responder × Members) (StatementRule × ℕ)
responder left = do
  value ← next_or Layout left
  read ← responder_at value.0
  Ok (read, value.1)
