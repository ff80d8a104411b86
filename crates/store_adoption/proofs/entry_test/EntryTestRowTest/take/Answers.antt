use Rattle.std.proofs.Common.{◌≡◌, IsTrue, Err, rules, option_map, ap}
use Rattle.std.proofs.lemmas.Result.{err_from_is_err_and}
use Rattle.store_adoption.specs.Cells.{IsEntryCells}
use Rattle.store_adoption.specs.Seen.{seen_placed}
use Rattle.store_sql.specs.declared.fault.StoreFault.{StoreFault}
use Rattle.store_adoption.proofs.Following.{all_here, entry_follows, entry_passes}
use Rattle.store_adoption.proofs.entry_test.EntryTestRowTest.take.Goals as goal

pub returns-in_err-entry-clause-refused : goal.returns-in_err-entry-clause-refused
returns-in_err-entry-clause-refused c =
    let p = err_from_is_err_and c.from_residual.result c.from_residual.ensures.1 in
    rw (p.1, p.2) (λ e rows later passed formed. c.in_err-entry.ensures.schema (ap Err (let is : c.in_err-entry.field-0.0 ≡ StoreFault.Schema = cc in is)) (all_here IsEntryCells rows c.args.row.now later formed.0))

pub returns-then-not-follows-clause-refused : goal.returns-then-not-follows-clause-refused
returns-then-not-follows-clause-refused c e rows later passed formed =
    let yes : IsTrue c.follows.result = c.follows.ensures.1 (entry_follows rows later c.args.row.now (option_map seen_placed c.args.self.now.last) (seen_placed c.in_ok-entry.entry) passed.2 c.in_ok-entry.ensures.ok.1 formed.1) in
    search rules

pub returns-clause-passed : goal.returns-clause-passed
returns-clause-passed c rows passed =
    let yes : IsTrue c.follows.result = search rules in
    entry_passes rows c.args.row.now (option_map seen_placed c.args.self.now.last) (seen_placed c.in_ok-entry.entry) passed c.in_ok-entry.ensures.ok.0 c.in_ok-entry.ensures.ok.1 (c.follows.ensures.0 yes)
