use Rattle.std.proofs.Common.{sym, true, ◌∙◌, ◌++◌, ◌∷◌, [], List, take, ap}
use Rattle.names.specs.GeneralCoverage.{is_covered}
use Rattle.names.specs.GeneralLayout.{SubtreeBase}
use Rattle.names.specs.declared.subtree.Subtree.{Subtree}
use Rattle.path_conditions.specs.Narrowing.{members_of}
use Rattle.path_conditions.proofs.Members.{grown}
use Rattle.path_conditions.proofs.Repeated.{added_if}
use Rattle.path_conditions.proofs.excluded.Excluded.extend.Goals as goal

pub invariant_of-self-then-repeats_end : goal.invariant_of-self-then-repeats_end
invariant_of-self-then-repeats_end c =
    added_if true (members_of c.self.inside.indexes.items) c.self.inside.items.items c.args.more.now c.extend_from_slice.new.self.items
    c.self.invariant (rw c.deref.ensures.value at (sym c.repeats_end.ensures ∙ c.if-repeats_end.true))
    (c.in-Ok.ensures.items ∙ ap (λ (l : List Subtree). l ++ c.args.more.now) c.in_ok-reserve.ensures.items)

pub invariant_of-self-2 : goal.invariant_of-self-2
invariant_of-self-2 c = λ name.
    let test = λ (base : SubtreeBase). is_covered name base in
    grown test c.count_lasting-lasting.result c.self.inside.indexes.items c.in_ok-index.index c.in_ok-coming.coming c.self.inside.items.items c.args.more.now c.extend_from_slice-2.new.self.items c.push.new.self.items
    (rw c.deref-3.ensures.value at (c.in_ok-index.ensures test)) (c.in_ok-coming.ensures test) (c.self.invariant name)
    (c.in-Ok-extend_from_slice.ensures.items ∙ ap (λ (l : List Subtree). l ++ c.args.more.now) c.in_ok-reserve-3.ensures.items)
    (c.in-Ok-push.ensures.items
    ∙ ap (λ (l : List (List SubtreeBase)). l ++ c.in_ok-index.index ∷ [])
    (c.truncate.ensures.items ∙ ap (λ (l : List (List SubtreeBase)). take c.count_lasting-lasting.result l) c.in_ok-reserve-2.ensures.items))
