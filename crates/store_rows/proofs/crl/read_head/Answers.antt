use Rattle.std.proofs.Common.{to_z, of_z, w64, rules, ◌≡◌}
use Rattle.store_rows.proofs.Crls.{head_read}
use Rattle.store_rows.proofs.crl.read_head.Goals as goal

pub returns-clause-ok : goal.returns-clause-ok
returns-clause-ok c head low is =
    let from : to_z w64 (of_z w64 c.in_ok-from.from) ≡ c.in_ok-from.from = search rules in
    let until : to_z w64 (of_z w64 c.in_ok-until.until) ≡ c.in_ok-until.until = search rules in
    rw (from, until) (head_read c.args.row.now c.as_slice.result.now c.in-Some.number c.in_ok-from.from c.in_ok-until.until (rw c.as_slice.ensures.value c.in_ok-octets.ensures.ok) c.in_ok-from.ensures.ok c.in_ok-until.ensures.ok c.in-Some.ensures.some.0 c.in-Some.ensures.some.1 head low is)
