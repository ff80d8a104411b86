-- What a store's tables hold, without the serial numbers of the entries.
use Rattle.std.specs.Prelude.{◌≡◌, ℕ, List, length, map}
use Rattle.statements_facts.specs.Single.{SingleFact}
use Rattle.statements_facts.specs.declared.scope.Scope.{Scope}
use Rattle.statements_facts.specs.Answer.{seen_ocsp}
use Rattle.store_rows.specs.Contents.{IssuerRow, CrlRow, EntryRow, SingleRow, CrlHead, Contents, head_of, scope_number}
use Rattle.store_rows.specs.Places.{entries_under}
use Rattle.store_rows.specs.Seen.{seen_head}
use Rattle.store_listing.specs.declared.held.HeldIssuer.{HeldIssuer}
use Rattle.store_listing.specs.declared.held.HeldList.{HeldList}
use Rattle.store_listing.specs.declared.held.HeldSingle.{HeldSingle}
use Rattle.store_listing.specs.declared.held.Listing.{Listing}
use Rattle.store_listing.specs.declared.counted.KeyedHead.{KeyedHead}
use Rattle.store_listing.specs.Counts.{list_number}

-- a list under the id of its issuer, without its entries
pub record StoredHead : Type 0 where
  pub issuer : ℕ
  pub scope : Scope
  pub head : CrlHead

-- and with their count
pub record ListedCrl : Type 0 where
  pub issuer : ℕ
  pub scope : Scope
  pub head : CrlHead
  pub entries : ℕ

-- what a response says of a certificate, under the id of the certificate's issuer
pub record ListedSingle : Type 0 where
  pub issuer : ℕ
  pub single : SingleFact

pub record Overview : Type 0 where
  pub issuers : List IssuerRow
  pub lists : List ListedCrl
  pub singles : List ListedSingle

-- ---- of rows

abbrev pub entry_count : List EntryRow → ℕ → Scope → ℕ
entry_count entries issuer scope = length (entries_under entries issuer (scope_number scope))

abbrev pub listed_crl : List EntryRow → CrlRow → ListedCrl
listed_crl entries row = record { issuer = row.issuer; scope = row.scope; head = head_of row; entries = entry_count entries row.issuer row.scope }

abbrev pub listed_single : SingleRow → ListedSingle
listed_single row = record { issuer = row.issuer; single = record { name_hash = row.name_hash; serial = row.serial; fact = row.fact } }

-- each row of the tables, in their order
abbrev pub overview_of : Contents → Overview
overview_of it = record { issuers = it.issuers; lists = map (listed_crl it.entries) it.crls; singles = map listed_single it.singles }

abbrev pub stored_head : CrlRow → StoredHead
stored_head row = record { issuer = row.issuer; scope = row.scope; head = head_of row }

-- a list whose entries are counted by the numbers of lists
abbrev pub with_count : (ℕ → ℕ) → StoredHead → ListedCrl
with_count count list = record { issuer = list.issuer; scope = list.scope; head = list.head; entries = count (list_number list.issuer (scope_number list.scope)) }

-- ---- as the code has them

abbrev pub seen_held_issuer : HeldIssuer → IssuerRow
seen_held_issuer issuer = record { id = issuer.id; identity = record { name = issuer.name; key_info = issuer.key_info.items } }

abbrev pub seen_keyed : KeyedHead → StoredHead
seen_keyed keyed = record { issuer = keyed.list.issuer; scope = keyed.list.scope; head = seen_head keyed.head }

abbrev pub seen_held_list : HeldList → ListedCrl
seen_held_list list = record { issuer = list.issuer; scope = list.scope; head = seen_head list.head; entries = list.entries }

abbrev pub seen_held_single : HeldSingle → ListedSingle
seen_held_single single = record { issuer = single.issuer; single = record { name_hash = single.name_hash.items; serial = single.serial.items; fact = seen_ocsp single.said } }

abbrev pub seen_listing : Listing → Overview
seen_listing all = record { issuers = map seen_held_issuer all.issuers.items; lists = map seen_held_list all.lists.items; singles = map seen_held_single all.singles.items }

-- it lists these rows, and nothing else
abbrev pub IsListing : Contents → Listing → Type 0
IsListing it all = seen_listing all ≡ overview_of it
