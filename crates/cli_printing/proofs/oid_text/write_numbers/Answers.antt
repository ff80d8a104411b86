use Rattle.std.proofs.Common.{◌∷◌, ◌++◌, ℕ, ap, sym, arith}
use Rattle.std.proofs.lemmas.Grind.{common_steps}
use Rattle.std.specs.Fmt.{decimal}
use Rattle.cli_printing.specs.OidText.{dotted_number}
use Rattle.cli_printing.proofs.Appending.{appends_both}
use Rattle.cli_printing.proofs.Joining.{joined_more}
use Rattle.cli_printing.proofs.oid_text.write_numbers.Goals as goal

pub loop-number-preserved : goal.loop-number-preserved
loop-number-preserved g c =
    let was = c.loop-number.invariant in
    let number = c.in-Some-next_number.number.now in
    record {
      short = grind (arith, common_steps);
      text = was.text ++ dotted_number number;
      whole = joined_more dotted_number _ was.text number _ _ c.in-Some-next_number.ensures.splits was.whole;
      written = appends_both _ _ (g.W.Write.contents c.write.new.self) _ _ _ was.written c.in_ok-write.ensures.bytes
          (ap (λ (n : ℕ). was.text ++ 46 ∷ decimal n) (sym c.number_of-in-Some-next_number.ensures));
    }
