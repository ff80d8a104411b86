-- What a store holds: its rows as two maps, from slot to fact.
use Rattle.std.specs.Prelude.{◌≡◌, ◌<◌, ℕ, List, Option, option_map, option_and_then, find}
use Rattle.std.specs.List.{AllByRecursion}
use Rattle.sqlite.specs.Effect.{Database}
use Rattle.sqlite_trees.specs.Tree.{Trees}
use Rattle.statements_facts.specs.declared.scope.Scope.{Scope}
use Rattle.statements_facts.specs.Listed.{first_reason}
use Rattle.statements_facts.specs.Statement.{IssuerIdentity, CrlFact, OcspFact, Holdings, CrlAnswer, answer_for}
use Rattle.store_sql.specs.declared.origin.Origin.{Origin}
use Rattle.store_sql.specs.Tables.{store_schema}
use Rattle.store_rows.specs.declared.crl.Head.{Head}
use Rattle.store_rows.specs.declared.entry.ListKey.{ListKey}
use Rattle.statements_facts.specs.declared.answer.OcspAnswer.{OcspAnswer}
use Rattle.store_rows.specs.Contents.{Contents, is_crl_of, is_single_of, id_of, said_of, scope_number}
use Rattle.store_rows.specs.Places.{entries_under}
use Rattle.store_rows.specs.Holding.{HasContents, AreInForm, next_id}
use Rattle.statements_facts.specs.Answer.{seen_crl, seen_ocsp}
use Rattle.statements_facts.specs.declared.answer.CrlAnswer as listed

-- ---- from rows to facts

-- the list that stands under an issuer's id, with the reasons that its entries give
abbrev pub crl_under : Contents → Scope → ℕ → Option CrlFact
crl_under it scope id = option_map (λ row. record { number = row.number; window = row.window; reasons = first_reason (entries_under it.entries id (scope_number scope)) }) (find (is_crl_of id scope) it.crls)

abbrev pub ocsp_under : Contents → List ℕ → List ℕ → ℕ → Option OcspFact
ocsp_under it name_hash serial id = option_map said_of (find (is_single_of id name_hash serial) it.singles)

abbrev pub held_in : Contents → Holdings
held_in it = record {
  profile = it.profile;
  crl = λ slot. option_and_then (crl_under it slot.scope) (id_of it.issuers slot.issuer);
  ocsp = λ slot. option_and_then (ocsp_under it slot.name_hash slot.serial) (id_of it.issuers slot.issuer);
}

-- ---- the store

-- What stands under an id stands under that of an issuer, so that a new one finds nothing under its id.
pub record IsOwned (it : Contents) : Type 0 where
  pub crls : AllByRecursion (λ row. row.issuer < next_id it.issuers) it.crls
  pub singles : AllByRecursion (λ row. row.issuer < next_id it.issuers) it.singles

-- the database is that of a store, and this is held
pub record IsStoreOf (db : Database) (held : Holdings) : Type 0 where
  pub origin : Origin
  pub contents : Contents
  pub rows : HasContents db origin contents
  pub form : AreInForm contents
  pub owned : IsOwned contents
  pub held_is : held_in contents ≡ held

-- these are the trees of a store that holds this
abbrev pub AreTreesOf : Holdings → Trees → Type 0
AreTreesOf held trees = (origin : Origin) × IsStoreOf (record { schema = store_schema origin; trees = trees }) held

-- ---- look-ups

-- a list with its reason for one serial number
abbrev pub seen_with_reason : Head → Option ℕ → CrlAnswer
seen_with_reason head reason = record { number = head.number; window = record { from = head.from; until = head.until }; reason = reason }

-- what a list of this scope that stands under an issuer's id says of a serial number
abbrev pub IsCrlUnder : ListKey → List ℕ → Contents → Option listed.CrlAnswer → Type 0
IsCrlUnder list serial it crl = option_map seen_crl crl ≡ option_map (answer_for serial) (crl_under it list.scope list.issuer)

-- what the list of an issuer and a scope says of a serial number
abbrev pub IsCrlHeld : IssuerIdentity → Scope → List ℕ → Holdings → Option listed.CrlAnswer → Type 0
IsCrlHeld issuer scope serial held crl = option_map seen_crl crl ≡ option_map (answer_for serial) (held.crl (record { issuer = issuer; scope = scope }))

-- what a response says of a certificate
abbrev pub IsOcspHeld : IssuerIdentity → List ℕ → List ℕ → Holdings → Option OcspAnswer → Type 0
IsOcspHeld issuer name_hash serial held said = option_map seen_ocsp said ≡ held.ocsp (record { issuer = issuer; name_hash = name_hash; serial = serial })
