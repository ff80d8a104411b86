use Rattle.std.proofs.Common.{◌≡◌, ◌<◌, ◌==◌, ◌++◌, ◌∷◌, [], ℕ, List, Some, Bor, length, map, sym, subst, arith, rules}
use Rattle.std.proofs.lemmas.Iterator.Consumers.{YieldsList-turn, YieldsList-end}
use Rattle.std.proofs.lemmas.Iterator.Splits.{YieldsList-from_slice_split}
use Rattle.std.proofs.lemmas.List.{length_push, map-append}
use borrow.Author.Tests.{tests}
use Rattle.cli_operands.specs.VerdictLines.{NamePrints, print_on_line}
use Rattle.cli_operands.proofs.Lines.{at_next, first_bad, good_more, is_bad, name_nothing, name_one, nothing_is_good, print_is_good}
use Rattle.cli_operands.proofs.verdict_lines.fingerprints_of.Goals as goal

pub loop-line-preserved-then-is_empty : goal.loop-line-preserved-then-is_empty
loop-line-preserved-then-is_empty c =
    let turn = YieldsList-turn (YieldsList-from_slice_split _ (λ octet. octet == 10) c.args.octets.now (cc) (cc) (cc) (λ x r q k. search (rules, tests))) c.loop-line.yielded _ c.loop-line.yielded_by _ _ c.in-Some.line c.in-Some.is c.next.ensures.steps in
    let here = at_next c.args.octets.now c.in-Some.line.now c.loop-line.number (length c.loop-line.yielded) c.loop-line.invariant.2 turn in
    let nothing : length c.in-Some.line.now ≡ 0 = search (rules, c.if-is_empty.ensures) in (
      search rules,
      search rules,
      omega (arith, c.loop-line.invariant.2, length_push c.loop-line.yielded c.in-Some.line),
      subst (λ (lines : List (List ℕ)). NamePrints lines c.loop-line.prints.items) (sym (map-append (λ (line : Bor (List ℕ)). line.now) c.loop-line.yielded (c.in-Some.line ∷ [])))
          (name_nothing (map (λ (line : Bor (List ℕ)). line.now) c.loop-line.yielded) c.loop-line.prints.items c.in-Some.line.now nothing c.loop-line.invariant.3),
      good_more c.args.octets.now c.in-Some.line.now c.loop-line.number here (nothing_is_good c.in-Some.line.now nothing) c.loop-line.invariant.4,
    )

pub returns-in_default-clause-refused : goal.returns-in_default-clause-refused
returns-in_default-clause-refused c =
    let turn = YieldsList-turn (YieldsList-from_slice_split _ (λ octet. octet == 10) c.args.octets.now (cc) (cc) (cc) (λ x r q k. search (rules, tests))) c.loop-line.yielded _ c.loop-line.yielded_by _ _ c.in-Some.line c.in-Some.is c.next.ensures.steps in
    let here = at_next c.args.octets.now c.in-Some.line.now c.loop-line.number (length c.loop-line.yielded) c.loop-line.invariant.2 turn in
    let some : 0 < length c.in-Some.line.now = search (rules, c.if-is_empty.ensures) in
    first_bad c.args.octets.now c.in-Some.line.now c.loop-line.number here (is_bad c.in-Some.line.now some (search rules)) c.loop-line.invariant.4

pub loop-line-preserved : goal.loop-line-preserved
loop-line-preserved c =
    let turn = YieldsList-turn (YieldsList-from_slice_split _ (λ octet. octet == 10) c.args.octets.now (cc) (cc) (cc) (λ x r q k. search (rules, tests))) c.loop-line.yielded _ c.loop-line.yielded_by _ _ c.in-Some.line c.in-Some.is c.next.ensures.steps in
    let here = at_next c.args.octets.now c.in-Some.line.now c.loop-line.number (length c.loop-line.yielded) c.loop-line.invariant.2 turn in
    let some : 0 < length c.in-Some.line.now = search (rules, c.if-is_empty.ensures) in
    let is : print_on_line c.in-Some.line.now ≡ Some c.in-Some-print_in.print = search rules in (
      search rules,
      search rules,
      omega (arith, c.loop-line.invariant.2, length_push c.loop-line.yielded c.in-Some.line),
      rw c.in_ok-push.ensures.items (subst (λ (lines : List (List ℕ)). NamePrints lines (c.loop-line.prints.items ++ c.in-Some-print_in.print ∷ [])) (sym (map-append (λ (line : Bor (List ℕ)). line.now) c.loop-line.yielded (c.in-Some.line ∷ [])))
          (name_one (map (λ (line : Bor (List ℕ)). line.now) c.loop-line.yielded) c.loop-line.prints.items c.in-Some.line.now c.in-Some-print_in.print some is c.loop-line.invariant.3)),
      good_more c.args.octets.now c.in-Some.line.now c.loop-line.number here (print_is_good c.in-Some.line.now c.in-Some-print_in.print is) c.loop-line.invariant.4,
    )

pub returns-clause-named : goal.returns-clause-named
returns-clause-named c =
    let end = YieldsList-end (YieldsList-from_slice_split _ (λ octet. octet == 10) c.args.octets.now (cc) (cc) (cc) (λ x r q k. search (rules, tests))) c.loop-line.yielded _ c.loop-line.yielded_by _ _ c.in-None.is c.next.ensures.steps in
    subst (λ (lines : List (List ℕ)). NamePrints lines c.loop-line.prints.items) end.0 c.loop-line.invariant.3
