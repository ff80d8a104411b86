use Rattle.std.proofs.Common.{arith, ◌≡◌, ◌∙◌, ◌+◌, ℕ, List, length, true, false, get_or, sym, subst}
use Rattle.der.specs.Identifier.{is_constructed}
use Rattle.der.specs.Contents.{IsContents}
use Rattle.der.proofs.Faults.{first_content}
use Rattle.der.proofs.KnownFronts.{HasParts, parts_are, not_sound, primitive_front, constructed_front}
use Rattle.der.proofs.values.front_of.Goals as goal
use Rattle.der.proofs.values.front_of.Goals.{then-constructed, else-constructed}

pub returns-in_default-clause-none : goal.returns-in_default-clause-none
returns-in_default-clause-none c = λ sound. absurd (not_sound c.args.text.now c.in_default.field-0 c.in_default.ensures.err sound)

pub returns-then-is_contents-clause-some : goal.returns-then-is_contents-clause-some
returns-then-is_contents-clause-some c =
    let header = c.in-Ok.header in
    let text = c.args.text.now in
    let contents = c.split_at-2.result.0.now in
    let others = c.split_at-2.result.1.now in
    let lengths : length contents + length others + header.len ≡ length text = omega (arith, c.split_at.ensures.front_len, c.split_at.ensures.back_len, c.split_at-2.ensures.front_len, c.split_at-2.ensures.back_len) in
    let parts : HasParts text header.identifier contents others = parts_are text c.split_at.result.1.now contents others header c.in-Ok.ensures.ok c.split_at.ensures.back c.split_at-2.ensures.front c.split_at-2.ensures.back lengths in
    let form = c.is_constructed_form-constructed.ensures in
    elim c.if-constructed.branch [
      | then-constructed w ↦ rw (w.if-constructed.true) (constructed_front text header.identifier contents others (λ k. omega (arith, c.type_inv.text k)) parts (sym form ∙ w.if-constructed.true))
      | else-constructed w ↦ rw (w.if-constructed.false) (primitive_front text header.identifier contents others (λ k. omega (arith, c.type_inv.text k)) parts (sym form ∙ w.if-constructed.false) (w.is_contents.ensures.0 (sym w.value-is ∙ c.if-is_contents.true)))
    ]

pub returns-else-is_contents-clause-none : goal.returns-else-is_contents-clause-none
returns-else-is_contents-clause-none c = λ sound depth deep.
    let header = c.in-Ok.header in
    let text = c.args.text.now in
    let contents = c.split_at-2.result.0.now in
    let others = c.split_at-2.result.1.now in
    let lengths : length contents + length others + header.len ≡ length text = omega (arith, c.split_at.ensures.front_len, c.split_at.ensures.back_len, c.split_at-2.ensures.front_len, c.split_at-2.ensures.back_len) in
    let p : HasParts text header.identifier contents others = parts_are text c.split_at.result.1.now contents others header c.in-Ok.ensures.ok c.split_at.ensures.back c.split_at-2.ensures.front c.split_at-2.ensures.back lengths in
    elim c.if-constructed.branch [
      | then-constructed w ↦ absurd (let both = sym w.value-is ∙ c.if-is_contents.false in cc)
      | else-constructed w ↦
          let form : is_constructed (get_or text 0 0) ≡ false = subst (λ (i : ℕ). is_constructed i ≡ false) p.identifier_is (sym c.is_constructed_form-constructed.ensures ∙ w.if-constructed.false) in
          first_content depth text (record { sound = sound; deep = deep }) form
          (λ allowed. let wrong : false ≡ true = sym c.if-is_contents.false ∙ w.value-is ∙ w.is_contents.ensures.1 (subst (λ (i : ℕ). IsContents i contents) (sym p.identifier_is) (subst (λ (x : List ℕ). IsContents (get_or text 0 0) x) (sym p.contents_are) allowed)) in cc)
    ]
