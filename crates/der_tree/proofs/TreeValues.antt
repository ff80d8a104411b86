-- The value of each variant.
use Rattle.std.proofs.Common.{◌≡◌, ℕ, ◌∙◌, ap, sym, refl, List, [], ◌∷◌, ◌++◌, Some, None}
use Rattle.std.specs.Prelude.{Vec}
use Rattle.std.specs.declared.alloc.Global.{Global}
use Rattle.der.specs.Value.{Value, Values, primitive, constructed, none, more}
use Rattle.der.specs.Encoding.{EncodesAllAt}
use Rattle.asn.specs.Shows.{Shows, ShowsInside, ShowsNext}
use Rattle.asn.specs.declared.tlv.Tlv.{Tlv}
use Rattle.asn.specs.declared.tlv.Cursor.{Cursor}
use Rattle.der_tree.specs.declared.tree.Tree.{Tree, Tree-F, fold-roll-Tree}
use Rattle.der_tree.specs.declared.tree.Tree.TheVariants.{Primitive, Constructed, rolls-Primitive, rolls-Constructed}
use Rattle.der_tree.specs.Tree.{value_of, value_step, values_of_trees}

pub value_of-Primitive : (i : ℕ) (contents : Vec ℕ Global) → value_of (Primitive i contents) ≡ primitive i contents.items
value_of-Primitive i contents = ap value_of (sym (rolls-Primitive i contents)) ∙ fold-roll-Tree Value value_step (Tree-F.Primitive i contents)

pub value_of-Constructed : (i : ℕ) (inner : Vec Tree Global) → value_of (Constructed i inner) ≡ constructed i (values_of_trees inner.items)
value_of-Constructed i inner = ap value_of (sym (rolls-Constructed i inner)) ∙ fold-roll-Tree Value value_step (Tree-F.Constructed i inner)

-- values, and then others
abbrev pub joined : Values → Values → Values
joined none others = others
joined (more v vs) others = more v (joined vs others)

pub joined-push : (trees : List Tree) (tree : Tree) (others : Values) → joined (values_of_trees (trees ++ tree ∷ [])) others ≡ joined (values_of_trees trees) (more (value_of tree) others)
joined-push [] tree others = refl
joined-push (t ∷ trees) tree others = ap (λ (vs : Values). more (value_of t) vs) (joined-push trees tree others)

pub joined-none : (vs : Values) → joined vs none ≡ vs
joined-none none = refl
joined-none (more v vs) = ap (λ (w : Values). more v w) (joined-none vs)

pub primitive_shown : (depth : ℕ) (v : Value) (tlv : Tlv) (body : Vec ℕ Global) → Shows depth v tlv → ShowsInside depth v None → body.items ≡ tlv.body.now → value_of (Primitive tlv.tag body) ≡ v
primitive_shown depth (primitive i c) tlv body s inside e =
    value_of-Primitive tlv.tag body ∙ ap (λ (k : ℕ). primitive k body.items) s.0 ∙ ap (λ (w : List ℕ). primitive i w) (e ∙ s.2)
primitive_shown depth (constructed i vs) tlv body s inside e = absurd inside

-- one more tree: of the values that are left, the first is its value
pub built_more : (depth : ℕ) (values others : Values) (trees : List Tree) (tree : Tree) (tlv : Tlv) (left : Cursor)
    → values ≡ joined (values_of_trees trees) others → ShowsNext depth others (Some tlv) left
    → ((depth : ℕ) (v : Value) → Shows depth v tlv → value_of tree ≡ v)
    → (rest : Values) × EncodesAllAt depth left.octets.now rest × (values ≡ joined (values_of_trees (trees ++ tree ∷ [])) rest)
built_more depth values none trees tree tlv left e shows built = absurd shows
built_more depth values (more v vs) trees tree tlv left e shows built =
    (vs, shows.2, e ∙ ap (λ (u : Value). joined (values_of_trees trees) (more u vs)) (sym (built depth v shows.1)) ∙ sym (joined-push trees tree vs))

pub nothing_left : (depth : ℕ) (values others : Values) (trees : List Tree) (left : Cursor) → values ≡ joined (values_of_trees trees) others → ShowsNext depth others None left → values_of_trees trees ≡ values
nothing_left depth values none trees left e shows = sym (e ∙ joined-none (values_of_trees trees))
nothing_left depth values (more v vs) trees left e shows = absurd shows
