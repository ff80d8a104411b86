-- Laws of what is held.
use Rattle.std.specs.Prelude.{◌≡◌, ◌<◌, ◌≤◌, ℕ, List, length, Some}
use Rattle.statements_facts.specs.Statement.{IssuerIdentity, CrlSlot, CrlFact, OcspSlot, OcspFact}
use Rattle.statements_facts.specs.Listed.{ListedSerial, first_reason, IsAscending}
use Rattle.statements_facts.specs.Coming.{with_crl_fact, with_ocsp_fact}
use Rattle.store_rows.specs.Contents.{IssuerRow, CrlHead, Contents, id_of, scope_number}
use Rattle.store_rows.specs.Holding.{AreInForm, HasRoom, with_issuer, with_crl, with_entries, with_single}
use Rattle.sqlite_trees.specs.Tree.{IsAscending as Ascends}
use Rattle.store_maps.specs.Held.{held_in, IsOwned}

-- a new issuer changes neither map: nothing stands under its id
abbrev pub NewIssuerChangesNoMap : Type 0
NewIssuerChangesNoMap = (it : Contents) (identity : IssuerIdentity) → IsOwned it → held_in (with_issuer identity it) ≡ held_in it

abbrev pub fact_of_rows : CrlHead → List ListedSerial → CrlFact
fact_of_rows head listed = record { number = head.number; window = head.window; reasons = first_reason listed }

-- A list that takes the place of another, row and entries, is held in its slot, and each other slot holds what it held.
abbrev pub ReplacedListIsHeld : Type 0
ReplacedListIsHeld = (it : Contents) (slot : CrlSlot) (id : ℕ) (head : CrlHead) (listed : List ListedSerial) → AreInForm it → Ascends (λ (one other : IssuerRow). one.id < other.id) it.issuers → HasRoom id
    → length listed ≤ 4294967296 → IsAscending listed → id_of it.issuers slot.issuer ≡ Some id
    → held_in (with_entries id (scope_number slot.scope) listed (with_crl id slot.scope head it)) ≡ with_crl_fact (held_in it) slot (fact_of_rows head listed)

abbrev pub ReplacedSingleIsHeld : Type 0
ReplacedSingleIsHeld = (it : Contents) (slot : OcspSlot) (id : ℕ) (fact : OcspFact) → Ascends (λ (one other : IssuerRow). one.id < other.id) it.issuers → id_of it.issuers slot.issuer ≡ Some id
    → held_in (with_single id (record { name_hash = slot.name_hash; serial = slot.serial; fact = fact }) it) ≡ with_ocsp_fact (held_in it) slot fact
