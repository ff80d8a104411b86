use Rattle.std.proofs.Common.{◌∷◌, ◌++◌, ◌∙◌, List, ap, arith, drop, drop-cons, refl, suc, sym, take}
use Rattle.std.proofs.lemmas.List.{take-append-drop}
use Rattle.cli_operands.specs.declared.path_file.PathFile.{PathFile}
use Rattle.cli_operands.proofs.file_places.place_among.Goals as goal

pub returns-then-left-len : goal.returns-then-left-len
returns-then-left-len c =
    let files = c.args.files.now in
    let i = c.loop-it.it-index in
    let it = c.it-item.result in
    let here = drop-cons files i it c.loop-it-test.true ∙ ap (λ (other : PathFile). other ∷ drop (suc i) files) (sym c.it-item.is) in
    record {
      before = take i files;
      it = it;
      behind = drop (suc i) files;
      files_are = sym (take-append-drop i files) ∙ ap (λ (rest : List PathFile). take i files ++ rest) here;
      file_is = refl;
      counted = omega (arith, c.loop-it.invariant);
      some = omega arith;
      within = omega (arith, c.if-left-len.true, c.len.ensures);
    }
