use Rattle.std.proofs.Common.{◌∙◌, refl, sym}
use Rattle.std.proofs.lemmas.Bool.{iff_false, not-false}
use Rattle.std.proofs.lemmas.Slice.Eq.{bytes_eq-Decides}
use Rattle.names_distinguished.specs.NameView.{entry_of, entries_of}
use Rattle.names_distinguished.proofs.InOrder.{abreast_more, values_differ, one_is_longer, two_is_longer, both_end}
use Rattle.names_distinguished.proofs.RunParts.{is_distinct}
use Rattle.names_distinguished.proofs.rdn.Rdn.matches_in_order.Goals as goal

pub returns-in_default-split_first : goal.returns-in_default-split_first
returns-in_default-split_first c = (
  λ t. cc,
  λ same. absurd (one_is_longer (entries_of c.args.self.now) (entries_of c.args.other.now) (entries_of c.loop-one.left) (entries_of c.loop-one.right) (entries_of c.in-Some.left_rest) (entry_of c.in-Some.one)
      c.loop-one.invariant c.in-Some.ensures c.in_default-split_first.ensures (is_distinct c.args.self.now) same),
)

pub returns-then-not-same_value : goal.returns-then-not-same_value
returns-then-not-same_value c = (
  λ t. cc,
  λ same. absurd (values_differ (entries_of c.args.self.now) (entries_of c.args.other.now) (entries_of c.loop-one.left) (entries_of c.loop-one.right) (entries_of c.in-Some.left_rest) (entries_of c.in-Some-split_first.right_rest)
      (entry_of c.in-Some.one) (entry_of c.in-Some-split_first.two) c.loop-one.invariant c.in-Some.ensures c.in-Some-split_first.ensures
      ((bytes_eq-Decides c.in-Some.one.kind.now c.in-Some-split_first.two.kind.now).0 (not-false _ (sym c.ne.ensures ∙ c.if-ne.false)))
      (iff_false c.same_value.ensures c.if-not-same_value.true) (is_distinct c.args.self.now) (is_distinct c.args.other.now) same),
)

pub loop-one-preserved : goal.loop-one-preserved
loop-one-preserved c =
    abreast_more (entries_of c.args.self.now) (entries_of c.args.other.now) (entries_of c.loop-one.left) (entries_of c.loop-one.right) (entries_of c.in-Some.left_rest) (entries_of c.in-Some-split_first.right_rest)
    (entry_of c.in-Some.one) (entry_of c.in-Some-split_first.two) c.loop-one.invariant c.in-Some.ensures c.in-Some-split_first.ensures
    ((bytes_eq-Decides c.in-Some.one.kind.now c.in-Some-split_first.two.kind.now).0 (not-false _ (sym c.ne.ensures ∙ c.if-ne.false)))
    (c.same_value.ensures.0 c.if-not-same_value.false)

pub returns-in-Some-split_first-2 : goal.returns-in-Some-split_first-2
returns-in-Some-split_first-2 c = (
  λ t. cc,
  λ same. absurd (two_is_longer (entries_of c.args.self.now) (entries_of c.args.other.now) (entries_of c.loop-one.left) (entries_of c.loop-one.right) _ _
      c.loop-one.invariant c.in_default.ensures c.in-Some-split_first-2.ensures (is_distinct c.args.other.now) same),
)

pub returns-in-None : goal.returns-in-None
returns-in-None c = (
  λ t. both_end (entries_of c.args.self.now) (entries_of c.args.other.now) (entries_of c.loop-one.left) (entries_of c.loop-one.right) c.loop-one.invariant c.in_default.ensures c.in-None.ensures,
  λ same. refl,
)
