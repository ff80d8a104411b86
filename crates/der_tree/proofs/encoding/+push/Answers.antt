use Rattle.std.proofs.Common.{◌≡◌, ℕ, List, ◌∷◌, ◌++◌, Result, Ok, Err, OnOk, sym, ap, ◌∙◌, append_assoc, length}
use Rattle.std.specs.declared.alloc.AllocError.{AllocError}
use Rattle.der.specs.Value.{Values, constructed}
use Rattle.der.specs.Length.{length_octets}
use Rattle.asn.specs.Size.{octets_of, octets_of_all, size_of_all}
use Rattle.der_tree.specs.Tree.{value_of, values_of_trees}
use Rattle.asn.proofs.Laws.{length-octets_of_all}
use Rattle.der_tree.proofs.TreeValues.{value_of-Constructed}
use Rattle.der_tree.proofs.encoding.+push.Goals as goal

-- a header, and then the octets of the values inside
whole_of : (old mid new : List ℕ) (i n : ℕ) (vs : Values) (r : Result (Unit {0}) AllocError) → n ≡ size_of_all vs → mid ≡ old ++ i ∷ length_octets n → OnOk r (new ≡ mid ++ octets_of_all vs) → OnOk r (new ≡ old ++ octets_of (constructed i vs))
whole_of old mid new i n vs (Err e) size m w = tt
whole_of old mid new i n vs (Ok u) size m w =
    let same : n ≡ length (octets_of_all vs) = size ∙ sym (length-octets_of_all vs) in
    w ∙ ap (λ (x : List ℕ). x ++ octets_of_all vs) (m ∙ ap (λ (k : ℕ). old ++ i ∷ length_octets k) same) ∙ append_assoc old (i ∷ length_octets (length (octets_of_all vs))) (octets_of_all vs)

pub push_value-returns-in_ok-push_header-in-Constructed : goal.push_value-returns-in_ok-push_header-in-Constructed
push_value-returns-in_ok-push_header-in-Constructed t c =
    let inner = c.in-Constructed.inner.items in
    let vs = values_of_trees inner in
    let named = ap value_of c.in-Constructed.is ∙ value_of-Constructed c.in-Constructed.identifier c.in-Constructed.inner in
    let size : c.in-Some.contents ≡ size_of_all vs = rw (← c.deref-in-Constructed.ensures.value) c.in-Some.ensures.some.1 in
    rw (named) (whole_of c.args.out.now.items c.push_header-in-Constructed.new.out.items c.push_values.new.out.items c.in-Constructed.identifier c.in-Some.contents vs c.push_values.result size c.in_ok-push_header-in-Constructed.ensures (rw (← c.deref-in-Constructed-2.ensures.value) c.push_values.ensures))
