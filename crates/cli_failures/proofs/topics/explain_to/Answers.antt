use Rattle.std.proofs.Common.{subst, map, Bor, List, ℕ, arith, length}
use Rattle.std.proofs.lemmas.Iterator.Consumers.{YieldsList-end, YieldsList-so_far, YieldsList-turn}
use Rattle.std.proofs.lemmas.Iterator.Splits.{YieldsList-from_str_split}
use Rattle.std.specs.List.{flat_map}
use Rattle.std.specs.Io.KnownBytes.{Appends}
use Rattle.cli_answers.specs.Fronts.{TakesFront}
use Rattle.cli_answers.proofs.Laws.{front_of_each}
use Rattle.cli_failures.specs.Topics.{line_if_about, text_entries}
use Rattle.cli_failures.proofs.topics.explain_to.Goals as goal

pub returns-clause-written : goal.returns-clause-written
returns-clause-written g c =
    let end = YieldsList-end (YieldsList-from_str_split 10 c.args.entries.now (omega arith) (cc) (cc) (cc)) c.loop-entry.yielded _ c.loop-entry.yielded_by _ _ c.in-None.is c.next.ensures.steps in
    subst (λ (entries : List (List ℕ)). Appends (g.W.Write.contents c.args.writer.now) (g.W.Write.contents c.loop-entry.writer) (flat_map (line_if_about (map (λ (w : Bor (List ℕ)). w.now) c.args.words.now)) entries)) end.0 c.loop-entry.invariant.2

pub returns-in-Err-clause-front : goal.returns-in-Err-clause-front
returns-in-Err-clause-front g c =
    let words = map (λ (w : Bor (List ℕ)). w.now) c.args.words.now in
    let all = text_entries c.args.entries.now in
    let k = length c.loop-entry.yielded in
    let road = YieldsList-from_str_split 10 c.args.entries.now (omega arith) (cc) (cc) (cc) in
    let so_far = YieldsList-so_far road c.loop-entry.yielded _ c.loop-entry.yielded_by in
    let turn = YieldsList-turn road c.loop-entry.yielded _ c.loop-entry.yielded_by _ _ _ c.in-Some.is c.next.ensures.steps in
    front_of_each (line_if_about words) all k c.in-Some.entry.now
    (g.W.Write.contents c.args.writer.now) (g.W.Write.contents c.loop-entry.writer) (g.W.Write.contents c.write_if_about.new.writer)
    turn.0
    (subst (λ (entries : List (List ℕ)). Appends (g.W.Write.contents c.args.writer.now) (g.W.Write.contents c.loop-entry.writer) (flat_map (line_if_about words) entries)) so_far c.loop-entry.invariant.2)
    (subst (λ (entry : List ℕ). TakesFront (g.W.Write.contents c.loop-entry.writer) (g.W.Write.contents c.write_if_about.new.writer) (line_if_about words entry)) turn.1 (rw c.as_bytes.ensures.value at c.in-Err.ensures.front))
