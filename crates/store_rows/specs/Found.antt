-- What each look-up finds in the rows.
use Rattle.std.specs.Prelude.{◌≡◌, ◌↔◌, ℕ, Bool, List, Option, Some, None, IsTrue, option_map, find, slice_get}
use Rattle.statements_facts.specs.declared.revoked.Listed.{Listed}
use Rattle.statements_facts.specs.declared.scope.Scope.{Scope}
use Rattle.statements_facts.specs.Listed.{ListedSerial, first_reason, seen_listed}
use Rattle.statements_facts.specs.Statement.{IssuerIdentity}
use Rattle.store_rows.specs.declared.beside.SerialAtPlace.{SerialAtPlace}
use Rattle.store_rows.specs.declared.crl.Head.{Head}
use Rattle.store_rows.specs.declared.entry.ListKey.{ListKey}
use Rattle.statements_facts.specs.declared.answer.OcspAnswer.{OcspAnswer}
use Rattle.store_rows.specs.Contents.{Contents, scope_number, id_of, head_of, is_crl_of, said_of, is_single_of}
use Rattle.store_rows.specs.Places.{beside_of, entries_under}
use Rattle.store_rows.specs.Seen.{seen_head}
use Rattle.statements_facts.specs.Answer.{seen_ocsp}

-- the entries of a list
abbrev pub entries_of_list : ListKey → Contents → List ListedSerial
entries_of_list list it = entries_under it.entries list.issuer (scope_number list.scope)

-- what stands at this index, beside a serial number
abbrev pub IsBesideAt : ListKey → ℕ → List ℕ → Contents → SerialAtPlace → Type 0
IsBesideAt list index serial it beside = beside ≡ beside_of (slice_get (entries_of_list list it) index) serial

-- whether this entry stands at this index
abbrev pub TellsEntryAt : ListKey → ℕ → Listed → Contents → Bool → Type 0
TellsEntryAt list index listed it there = IsTrue there ↔ (slice_get (entries_of_list list it) index ≡ Some (seen_listed listed))

-- whether no entry stands at this index
abbrev pub TellsEndAt : ListKey → ℕ → Contents → Bool → Type 0
TellsEndAt list index it ends = IsTrue ends ↔ (slice_get (entries_of_list list it) index ≡ None)

-- whether these are the entries
abbrev pub TellsEntries : ListKey → List ListedSerial → Contents → Bool → Type 0
TellsEntries list listed it same = IsTrue same ↔ (entries_of_list list it ≡ listed)

-- the reason of a serial number, where the list has it
abbrev pub IsReasonIn : ListKey → List ℕ → Contents → Option ℕ → Type 0
IsReasonIn list serial it reason = reason ≡ first_reason (entries_of_list list it) serial

-- the list of an issuer and a scope, without its entries
abbrev pub IsHeadOf : ℕ → Scope → Contents → Option Head → Type 0
IsHeadOf issuer scope it head = option_map seen_head head ≡ option_map head_of (find (is_crl_of issuer scope) it.crls)

-- what a response says of a certificate of this issuer
abbrev pub SaysOf : ℕ → List ℕ → List ℕ → Contents → Option OcspAnswer → Type 0
SaysOf issuer name_hash serial it said = option_map seen_ocsp said ≡ option_map said_of (find (is_single_of issuer name_hash serial) it.singles)

-- the id of an issuer
abbrev pub IsIssuerId : IssuerIdentity → Contents → Option ℕ → Type 0
IsIssuerId identity it id = id ≡ id_of it.issuers identity
