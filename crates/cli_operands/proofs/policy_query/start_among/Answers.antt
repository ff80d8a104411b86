use Rattle.std.proofs.Common.{◌∷◌, ◌++◌, ◌∙◌, ℕ, List, Vec, Global, ap, arith, drop, drop-cons, length, map, refl, suc, sym, take}
use Rattle.std.proofs.lemmas.List.{length-map, length-take, take-append-drop}
use Rattle.der_stream.specs.Sequence.{joined}
use Rattle.cli_operands.specs.declared.path_file.PathFile.{PathFile}
use Rattle.cli_operands.proofs.NamedPolicies.{split_values}
use Rattle.cli_operands.proofs.policy_query.start_among.Goals as goal

pub returns-then-left-len : goal.returns-then-left-len
returns-then-left-len c =
    let files = c.args.files.now in
    let i = c.loop-it.it-index in
    let it = c.it-item.result in
    let left = c.loop-it.left in
    let items = λ (value : Vec ℕ Global). value.items in
    let parts = split_values it.values.items left (omega (arith, c.if-left-len.true, c.len.ensures)) in
    let here = drop-cons files i it c.loop-it-test.true ∙ ap (λ (other : PathFile). other ∷ drop (suc i) files) (sym c.it-item.is) in
    record {
      before = take i files;
      it = it;
      behind = drop (suc i) files;
      files_are = sym (take-append-drop i files) ∙ ap (λ (rest : List PathFile). take i files ++ rest) here;
      file_is = refl;
      front = map items (take left it.values.items);
      value = parts.0;
      back = map items (drop (suc left) it.values.items);
      values_are = parts.1;
      counted = omega (arith, c.loop-it.invariant, length-map (take left it.values.items) items, length-take left it.values.items, c.if-left-len.true, c.len.ensures);
      start_is = c.front_len.ensures ∙ ap (λ (them : List (Vec ℕ Global)). length (joined (map items (take left them)))) c.as_slice.ensures.value;
    }
