use Rattle.std.proofs.Common.{◌≡◌, ℕ, List, Option, Some, None, IfNone, sym, ap, ◌∙◌}
use Rattle.der.specs.Value.{Value, primitive}
use Rattle.asn.specs.Size.{IsEncodableAt}
use Rattle.der_tree.specs.Tree.{value_of}
use Rattle.der_tree.proofs.TreeValues.{value_of-Primitive}
use Rattle.der_tree.proofs.encoding.+size.Goals as goal

-- no size under another name of the value
none_for : (o : Option ℕ) (depth : ℕ) (v w : Value) → w ≡ v → IfNone o (IsEncodableAt depth v → ⊥) → IfNone o (IsEncodableAt depth w → ⊥)
none_for None depth v w e none = λ is. none (rw (← e) is)
none_for (Some n) depth v w e none = tt

pub size_at-returns-in-Primitive-clause-none : goal.size_at-returns-in-Primitive-clause-none
size_at-returns-in-Primitive-clause-none t c =
    none_for c.primitive_size.result c.args.depth (primitive c.in-Primitive.identifier c.deref.result.now) (value_of c.args.tree.now)
    (ap value_of c.in-Primitive.is ∙ value_of-Primitive c.in-Primitive.identifier c.in-Primitive.contents ∙ ap (λ (w : List ℕ). primitive c.in-Primitive.identifier w) (sym c.deref.ensures.value))
    c.primitive_size.ensures.none
