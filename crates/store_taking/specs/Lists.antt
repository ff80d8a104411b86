-- A statement beside the rows of the one that is held.
use Rattle.std.specs.Prelude.{◌≡◌, ◌≢◌, ℕ, List, Option, Some}
use Rattle.statements_facts.specs.declared.fact.CrlFacts.{CrlFacts}
use Rattle.statements_facts.specs.declared.scope.Scope.{Scope}
use Rattle.statements_facts.specs.declared.single.Single.{Single}
use Rattle.statements_facts.specs.Coming.{CrlIsTakenAs, OcspIsTakenAs}
use Rattle.statements_facts.specs.Fact.{crl_fact}
use Rattle.statements_facts.specs.Listed.{ListedSerial}
use Rattle.statements_facts.specs.Single.{seen_single}
use Rattle.store_rows.specs.declared.crl.Head.{Head}
use Rattle.store_rows.specs.declared.entry.ListKey.{ListKey}
use Rattle.statements_facts.specs.declared.answer.OcspAnswer.{OcspAnswer}
use Rattle.store_rows.specs.Contents.{CrlHead, Contents, scope_number}
use Rattle.store_rows.specs.Holding.{with_crl, with_entries}
use Rattle.store_rows.specs.Found.{entries_of_list}
use Rattle.statements_facts.specs.Answer.{seen_ocsp}
use Rattle.store_maps.specs.Held.{crl_under, ocsp_under}
use Rattle.statements_facts.specs.declared.counts.TakenAs.{TakenAs}
use Rattle.statements_facts.specs.declared.counts.TakenAs.TheVariants.{Stored, Kept, Contradicted}

abbrev pub crl_head : CrlFacts → CrlHead
crl_head list = record { number = list.number; window = record { from = list.from; until = list.until } }

-- a list, row and entries, in the place of that of its issuer and scope
abbrev pub with_list : ℕ → Scope → CrlHead → List ListedSerial → Contents → Contents
with_list id scope head listed it = with_entries id (scope_number scope) listed (with_crl id scope head it)

-- what becomes of a list whose number and window are those of the one that is held: the entries alone tell
abbrev pub IsToldByEntries : List ListedSerial → List ListedSerial → TakenAs → Type 0
IsToldByEntries held listed Stored = ⊥
IsToldByEntries held listed Kept = held ≡ listed
IsToldByEntries held listed Contradicted = held ≢ listed

-- ---- as the code has them

abbrev pub with_crl_facts : ListKey → CrlFacts → Contents → Contents
with_crl_facts key list = with_list key.issuer key.scope (crl_head list) list.revoked

-- what becomes of a list whose number and window are others than those of the one that is held, whatever that lists
abbrev pub HeadDecides : Head → CrlFacts → TakenAs → Type 0
HeadDecides held list outcome =
    (reasons : List ℕ → Option ℕ) → CrlIsTakenAs (Some (record { number = held.number; window = record { from = held.from; until = held.until }; reasons = reasons })) (crl_fact list) outcome

abbrev pub EntriesDecide : ListKey → CrlFacts → Contents → TakenAs → Type 0
EntriesDecide key list it outcome = IsToldByEntries (entries_of_list key it) list.revoked outcome

abbrev pub ListIsTakenAs : ListKey → CrlFacts → Contents → TakenAs → Type 0
ListIsTakenAs key list it outcome = CrlIsTakenAs (crl_under it key.scope key.issuer) (crl_fact list) outcome

-- ---- what responses say

-- of a certificate, for the same time
abbrev pub SaysSame : OcspAnswer → Single → Type 0
SaysSame held single = ((seen_single single).fact.window ≡ (seen_ocsp held).window) × ((seen_single single).fact.status ≡ (seen_ocsp held).status)

abbrev pub SingleIsTakenBeside : OcspAnswer → Single → TakenAs → Type 0
SingleIsTakenBeside held single outcome = OcspIsTakenAs (Some (seen_ocsp held)) (seen_single single).fact outcome

-- under the id of its issuer
abbrev pub SingleIsTakenAs : ℕ → Single → Contents → TakenAs → Type 0
SingleIsTakenAs id single it outcome = OcspIsTakenAs (ocsp_under it (seen_single single).name_hash (seen_single single).serial id) (seen_single single).fact outcome
