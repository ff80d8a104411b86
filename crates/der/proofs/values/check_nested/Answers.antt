use Rattle.std.proofs.Common.{arith, ◌≡◌, ◌∙◌, ◌+◌, ◌≤◌, ℕ, set, subst, rules}
use Rattle.std.proofs.lemmas.List.{length-set}
use Rattle.der.specs.Value.{none}
use Rattle.der.specs.Length.{end_of}
use Rattle.der.specs.Encoding.{deepest}
use Rattle.der.specs.Header.{BeginsWithValue}
use Rattle.der.specs.FirstFault.{BreaksFirst}
use Rattle.der.specs.Front.{octets_behind}
use Rattle.der.proofs.KnownFronts.{whole_leads, breaks, passed, opened_front, primitive_value, empty_value, empty, nonempty}
use Rattle.der.proofs.Waiting.{Lacks, taken, octets_taken, octets_last, opened, octets_of_first}
use Rattle.der.proofs.values.check_nested.Goals as goal
use Rattle.der.proofs.values.check_nested.Goals.{else-front-via-then-front+else-not-is_empty, else-front-via-else-front}

pub loop-rest-init : goal.loop-rest-init
loop-rest-init c = record { room = search rules; bounded = omega arith; leads = whole_leads c.args.text.now }

pub returns-then-open-eq0-clause-ok : goal.returns-then-open-eq0-clause-ok
returns-then-open-eq0-clause-ok c =
    let L : ℕ → Type 0 = λ n. Lacks c.loop-rest.behind n c.args.text.now in
    subst L c.if-open-eq0.true (c.loop-rest.invariant.leads.encoded (none, empty c.loop-rest.rest.now c.is_empty.result c.is_empty.ensures c.if-is_empty.true))

pub loop-rest-smaller-then-is_empty : goal.loop-rest-smaller-then-is_empty
loop-rest-smaller-then-is_empty c = omega (arith, octets_taken c.loop-rest.behind c.loop-rest.open c.if-open-eq0.false)

pub loop-rest-preserved-then-is_empty : goal.loop-rest-preserved-then-is_empty
loop-rest-preserved-then-is_empty c =
    let v = c.loop-rest.invariant in
    record {
      room = v.room;
      bounded = omega (arith, v.bounded);
      leads = taken c.loop-rest.behind c.loop-rest.open c.args.text.now c.if-open-eq0.false (v.leads.encoded (none, empty c.loop-rest.rest.now c.is_empty.result c.is_empty.ensures c.if-is_empty.true));
    }

pub offset_of-requires : goal.offset_of-requires
offset_of-requires c =
    let v = c.loop-rest.invariant in
    omega (arith, v.leads.within, octets_of_first c.loop-rest.behind c.loop-rest.open (omega (arith, v.room, v.bounded)))

pub returns-in_default-clause-err : goal.returns-in_default-clause-err
returns-in_default-clause-err c =
    let v = c.loop-rest.invariant in
    let texts = c.loop-rest.behind in
    let n = c.loop-rest.open in
    let rest = c.loop-rest.rest.now in
    breaks c.args.text.now (n + 2) rest (octets_behind texts n) (Lacks texts n c.args.text.now) c.broken_rule.result c.offset_of.result v.leads
    (nonempty rest c.is_empty.result c.is_empty.ensures c.if-is_empty.false)
    (omega (arith, c.offset_of.ensures, octets_of_first texts n (omega (arith, v.room, v.bounded))))
    (c.broken_rule.ensures (n + 2) (omega (arith, v.bounded)))

pub loop-rest-preserved : goal.loop-rest-preserved
loop-rest-preserved c =
    let v = c.loop-rest.invariant in
    let depth = c.loop-rest.open + 2 in
    let front = c.in-Some.front in
    let rest = c.loop-rest.rest.now in
    let begins = c.in-Some.ensures.some in
    let deep : depth ≤ deepest = omega (arith, v.bounded) in
    let value : BeginsWithValue depth rest (end_of rest) = elim c.else-front.branch [
      | else-front-via-then-front+else-not-is_empty w ↦ empty_value depth rest front.constructed front.contents.now front.others.now deep w.if-front.true
          (empty front.contents.now w.is_empty-then-front.result w.is_empty-then-front.ensures w.if-not-is_empty.false) begins
      | else-front-via-else-front w ↦ primitive_value depth rest front.constructed front.contents.now front.others.now deep w.if-front.false begins
    ] in
    record {
      room = v.room;
      bounded = v.bounded;
      leads = passed c.args.text.now depth rest front.others.now (octets_behind c.loop-rest.behind c.loop-rest.open) (Lacks c.loop-rest.behind c.loop-rest.open c.args.text.now) begins.others_are value v.leads;
    }

pub offset_of-requires-then-open-gt-MOST_OPEN : goal.offset_of-requires-then-open-gt-MOST_OPEN
offset_of-requires-then-open-gt-MOST_OPEN c =
    let v = c.loop-rest.invariant in
    let texts = c.loop-rest.behind in
    let n = c.loop-rest.open in
    let front = c.in-Some.front in
    let begins = opened_front c.loop-rest.rest.now front.constructed front.contents.now front.others.now c.if-front.true c.in-Some.ensures.some in
    let inner = opened texts n c.args.text.now c.loop-rest.rest.now front.contents.now front.others (omega (arith, v.bounded)) (omega (arith, v.room, v.bounded)) begins v.leads in
    omega (arith, inner.within, octets_of_first (set texts n front.others) (n + 1) (omega (arith, length-set texts n front.others, v.room, v.bounded)))

pub returns-then-open-gt-MOST_OPEN-clause-err : goal.returns-then-open-gt-MOST_OPEN-clause-err
returns-then-open-gt-MOST_OPEN-clause-err c =
    let v = c.loop-rest.invariant in
    let texts = c.loop-rest.behind in
    let n = c.loop-rest.open in
    let front = c.in-Some.front in
    let whole = c.args.text.now in
    let contents = front.contents.now in
    let begins = opened_front c.loop-rest.rest.now front.constructed front.contents.now front.others.now c.if-front.true c.in-Some.ensures.some in
    let inner = opened texts n whole c.loop-rest.rest.now contents front.others (omega (arith, v.bounded)) (omega (arith, v.room, v.bounded)) begins v.leads in
    let deep : 33 ≡ n + 1 + 2 = omega (arith, v.bounded, c.if-open-gt-MOST_OPEN.true) in
    breaks whole (n + 1 + 2) contents (octets_behind (set texts n front.others) (n + 1)) (Lacks (set texts n front.others) (n + 1) whole) c.broken_too_deep.result c.offset_of-then-open-gt-MOST_OPEN.result inner
    (nonempty contents c.is_empty-then-front.result c.is_empty-then-front.ensures c.if-not-is_empty.true)
    (omega (arith, c.offset_of-then-open-gt-MOST_OPEN.ensures, octets_of_first (set texts n front.others) (n + 1) (omega (arith, length-set texts n front.others, v.room, v.bounded))))
    (subst (λ (depth : ℕ). BreaksFirst c.broken_too_deep.result depth contents) deep c.broken_too_deep.ensures)

pub loop-rest-smaller-then-not-is_empty : goal.loop-rest-smaller-then-not-is_empty
loop-rest-smaller-then-not-is_empty c =
    let v = c.loop-rest.invariant in
    let front = c.in-Some.front in
    let begins = opened_front c.loop-rest.rest.now front.constructed front.contents.now front.others.now c.if-front.true c.in-Some.ensures.some in
    omega (arith, octets_last c.loop-rest.behind front.others c.loop-rest.open (omega (arith, v.room, v.bounded)), begins.shorter)

pub loop-rest-preserved-then-not-is_empty : goal.loop-rest-preserved-then-not-is_empty
loop-rest-preserved-then-not-is_empty c =
    let v = c.loop-rest.invariant in
    let texts = c.loop-rest.behind in
    let n = c.loop-rest.open in
    let front = c.in-Some.front in
    let begins = opened_front c.loop-rest.rest.now front.constructed front.contents.now front.others.now c.if-front.true c.in-Some.ensures.some in
    record {
      room = length-set texts n front.others ∙ v.room;
      bounded = omega (arith, v.bounded, c.if-open-gt-MOST_OPEN.false);
      leads = opened texts n c.args.text.now c.loop-rest.rest.now front.contents.now front.others (omega (arith, v.bounded)) (omega (arith, v.room, v.bounded)) begins v.leads;
    }
