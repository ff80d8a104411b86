use Rattle.std.proofs.Common.{rules, ◌≡◌, refl, Some, Ok, Err}
use Rattle.asn.specs.Place.{seen_tlv}
use Rattle.asn.specs.Reading.{left}
use Rattle.asn.specs.Members.{with_first}
use Rattle.statements_crl.specs.Entry.{entries_checked, entries, listed_again}
use Rattle.statements_crl.proofs.ListedAgain.{none_refused}
use Rattle.statements_crl.proofs.entry_walk.Entries.next_listed.Goals as goal

-- src/entry_list.rt:41:13
pub returns-in_default : goal.returns-in_default
returns-in_default c =
    let same : c.args.self.now.members ≡ Some c.in_ok-behind.behind = search rules in
    let first : left c.in_ok-behind.behind ≡ with_first (seen_tlv c.in_ok-first.first) (left c.next.new.self) = search rules in
    let done : entries_checked (entries (left c.in_ok-behind.behind).values) ≡ Ok tt = search rules in
    let refused : listed_again (seen_tlv c.in_ok-first.first) ≡ Err c.in_default.field-0 = search rules in
    let none = none_refused (left c.in_ok-behind.behind) (left c.next.new.self) (seen_tlv c.in_ok-first.first) c.in_default.field-0 first done refused in
    rw (same, none) (refl, refl)
