-- Entries of version 1 in another order.
use Rattle.std.specs.Prelude.{◌≡◌, ℕ, List, map}
use Rattle.std.specs.Global.{Vec}
use Rattle.statements_facts.specs.declared.revoked.Listed.{Listed}
use Rattle.statements_facts.specs.Listed.{ListedSerial, first_reason, seen_listed}
use Rattle.store_adoption.specs.Version1.{UnscopedEntry, listed_under}
use Rattle.store_migration.specs.declared.grouped.IssuersEntry.{IssuersEntry}

abbrev pub seen_unscoped_entry : IssuersEntry → UnscopedEntry
seen_unscoped_entry entry = record { issuer = entry.issuer; listed = seen_listed entry.listed }

-- each issuer has the same entries in both, in one order
abbrev pub HasSameLists : List UnscopedEntry → List UnscopedEntry → Type 0
HasSameLists one other = (issuer : ℕ) → listed_under one issuer ≡ listed_under other issuer

-- ---- as the code has them

abbrev pub KeepsLists : List UnscopedEntry → Vec IssuersEntry → Type 0
KeepsLists entries sorted = HasSameLists (map seen_unscoped_entry sorted.items) entries

-- the entries of one issuer
abbrev pub AreListedUnder : List IssuersEntry → ℕ → Vec Listed → Type 0
AreListedUnder sorted issuer listed = map seen_listed listed.items ≡ listed_under (map seen_unscoped_entry sorted) issuer

-- each serial number has the reason that it has among them
abbrev pub HasReasonsOf : List IssuersEntry → ℕ → List ListedSerial → Type 0
HasReasonsOf sorted issuer revoked = (serial : List ℕ) → first_reason revoked serial ≡ first_reason (listed_under (map seen_unscoped_entry sorted) issuer) serial
