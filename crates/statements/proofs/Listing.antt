-- The serial numbers and reasons of entries, one for one.
use Rattle.std.proofs.Common.{◌≡◌, ℕ, ℤ, List, map, refl, ap, ◌∙◌}
use Rattle.std.proofs.Math.Path.{fun_ext}
use Rattle.asn.specs.Integer.{binary_value}
use Rattle.statements_crl.proofs.Laws.{reason_at}
use Rattle.statements_crl.specs.Entry.{Entry, listed_serial, reason_listed}
use Rattle.statements_facts.specs.Listed.{ListedSerial, first_reason}
use Rattle.statements_crl.specs.CertificateList.{CertificateList}
use Rattle.statements_facts.specs.Statement.{CrlFact}
use Rattle.statements.specs.CrlFact.{fact_of_list}

pub reasons_are : (revoked : List ListedSerial) (entries : List Entry) → ((serial : List ℕ) → first_reason revoked serial ≡ first_reason (map listed_serial entries) serial) → first_reason revoked ≡ reason_listed entries
reasons_are revoked entries same = fun_ext (λ serial. same serial ∙ reason_at serial entries)

-- ---- what the list says

pub fact_equal :
    (number : ℕ) (from until : ℤ) (revoked listed : List ListedSerial) (list : CertificateList) →
    number ≡ binary_value list.number → from ≡ list.this_update → until ≡ list.next_update →
    ((serial : List ℕ) → first_reason revoked serial ≡ first_reason listed serial) → listed ≡ map listed_serial list.entries →
    Path CrlFact (record { number = number; window = record { from = from; until = until }; reasons = first_reason revoked }) (fact_of_list list)
fact_equal number from until revoked listed list number_is from_is until_is reasons listed_is =
    rw (number_is, from_is, until_is, reasons_are revoked list.entries (λ serial. reasons serial ∙ ap (λ listed. first_reason listed serial) listed_is)) refl
