use Rattle.std.proofs.Common.{◌∙◌, ap, take, drop, rules, ℕ}
use Rattle.names_text.proofs.Words.{no_word, found_word}
use Rattle.std.proofs.lemmas.List.{nil_from_length}
use Rattle.names_text.proofs.preparation.next_word.Goals as goal

pub returns-then-is_empty : goal.returns-then-is_empty
returns-then-is_empty c =
    let text = c.args.text.now in
    no_word text c.split_at.result.1.now
    (c.split_at.ensures.back ∙ ap (λ (k : ℕ). drop k text) c.spaces_before.ensures.value)
    (nil_from_length c.split_at.result.1.now (search rules))

pub returns : goal.returns
returns c =
    let text = c.args.text.now in
    let rest = c.split_at.result.1.now in
    found_word text rest c.split_at-2.result.0.now c.split_at-2.result.1.now
    (c.split_at.ensures.back ∙ ap (λ (k : ℕ). drop k text) c.spaces_before.ensures.value)
    (search rules)
    (c.split_at-2.ensures.front ∙ ap (λ (k : ℕ). take k rest) c.word_len.ensures.value)
    (c.split_at-2.ensures.back ∙ ap (λ (k : ℕ). drop k rest) c.word_len.ensures.value)
