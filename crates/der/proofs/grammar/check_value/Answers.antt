use Rattle.std.proofs.Common.{arith, ◌≡◌, ◌-◌, ◌≤◌, ℕ, List, length, drop, ap, subst}
use Rattle.std.proofs.lemmas.List.{length-drop}
use Rattle.der.specs.Length.{end_of}
use Rattle.der.specs.Header.{BeginsWithValue}
use Rattle.der.proofs.Faults.{below_among, refused_itself}
use Rattle.der.proofs.KnownFronts.{opened_front, primitive_value}
use Rattle.der.proofs.grammar.check_value.Goals as goal

-- where the value ends
end_is : (text others : List ℕ) → others ≡ drop (end_of text) text → end_of text ≤ length text → end_of text ≡ length text - length others
end_is text others behind within = omega (arith, ap length behind, length-drop (end_of text) text)

pub returns-in_default-clause-err : goal.returns-in_default-clause-err
returns-in_default-clause-err c = refused_itself 1 c.args.text.now c.broken_rule.result (c.broken_rule.ensures 1 (omega arith))

pub returns-then-not-front-clause-ok : goal.returns-then-not-front-clause-ok
returns-then-not-front-clause-ok c =
    let begins = c.in-Some.ensures.some in
    let front = c.in-Some.front in
    let text = c.args.text.now in
    let value = primitive_value 1 text front.constructed front.contents.now front.others.now (omega arith) c.if-not-front.true begins in
    subst (λ (n : ℕ). BeginsWithValue 1 text n) (end_is text front.others.now begins.others_are value.sound.within) value

pub overflow_add-result : goal.overflow_add-result
overflow_add-result c =
    let front = c.in-Some.front in
    let begins = opened_front c.args.text.now front.constructed front.contents.now front.others.now c.if-not-front.false c.in-Some.ensures.some in
    omega (arith, below_among c.in-Err.ensures.err.broken.2, begins.shorter)

pub returns-in-Ok-clause-ok : goal.returns-in-Ok-clause-ok
returns-in-Ok-clause-ok c =
    let front = c.in-Some.front in
    let text = c.args.text.now in
    let begins = opened_front text front.constructed front.contents.now front.others.now c.if-not-front.false c.in-Some.ensures.some in
    let value = begins.encoded 1 (omega arith) c.in-Ok.ensures.ok in
    subst (λ (n : ℕ). BeginsWithValue 1 text n) (end_is text front.others.now begins.others_are value.sound.within) value

pub returns-in-Err-clause-err : goal.returns-in-Err-clause-err
returns-in-Err-clause-err c =
    let front = c.in-Some.front in
    let begins = opened_front c.args.text.now front.constructed front.contents.now front.others.now c.if-not-front.false c.in-Some.ensures.some in
    begins.refused 1 c.in-Err.rule c.in-Err.at _ (omega arith) (omega (arith, begins.shorter)) c.in-Err.ensures.err
