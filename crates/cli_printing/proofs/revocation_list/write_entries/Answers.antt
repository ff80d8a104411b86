use Rattle.std.proofs.Common.{◌++◌, refl}
use Rattle.statements_crl.specs.Entry.{seen_entry}
use Rattle.cli_printing.specs.CrlText.{entry_line}
use Rattle.cli_printing.proofs.Appending.{appends_both}
use Rattle.cli_printing.proofs.Joining.{joined_more}
use Rattle.cli_printing.proofs.revocation_list.write_entries.Goals as goal

pub loop-entry-preserved : goal.loop-entry-preserved
loop-entry-preserved g c =
    let was = c.loop-entry.invariant in
    let entry = seen_entry c.in-Some.entry in
    record {
      text = was.text ++ entry_line entry;
      whole = joined_more entry_line _ was.text entry _ _ c.in-Some.ensures was.whole;
      written = appends_both _ _ _ _ _ _ was.written c.in_ok-write_entry.ensures refl;
    }
