-- The serial numbers and reasons of entries say of each serial number what the entries say.
use Rattle.std.proofs.Common.{◌≡◌, ℕ, Bool, true, false, List, [], ◌∷◌, map, refl}
use Rattle.std.specs.Str.{bytes_eq}
use Rattle.statements_facts.specs.Listed.{first_reason}
use Rattle.statements_crl.specs.Entry.{Entry, reason_listed, listed_serial}

-- what the listed serial numbers say first, the entries say first
pub reason_at : (serial : List ℕ) (entries : List Entry) → first_reason (map listed_serial entries) serial ≡ reason_listed entries serial
reason_at serial [] = refl
reason_at serial (entry ∷ entries) = by (reason_at serial entries) (bytes_eq entry.serial serial) refl where
  by : first_reason (map listed_serial entries) serial ≡ reason_listed entries serial → (b : Bool) → bytes_eq entry.serial serial ≡ b → first_reason (map listed_serial (entry ∷ entries)) serial ≡ reason_listed (entry ∷ entries) serial
  by rest true e = rw e refl
  by rest false e = rw e rest
