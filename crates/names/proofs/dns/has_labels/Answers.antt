use Rattle.std.proofs.Common.{arith, ◌≡◌, ◌∙◌, ◌+◌, ℕ, List, ◌∷◌, get_or, drop, sym, ap}
use Rattle.std.proofs.lemmas.Bool.{eq-eqb, ne_eqb}
use Rattle.std.proofs.lemmas.List.{drop_more}
use Rattle.std.specs.List.{list_all, slice_split}
use Rattle.names.specs.Dns.{is_dot, is_label}
use Rattle.names.proofs.LabelWalk.{goes_on, after_label, in_label}
use Rattle.names.proofs.dns.has_labels.Goals as goal
use Rattle.names.proofs.dns.has_labels.Goals.{then-octet-eq46+else-not-is_label_length, else-octet-eq46+then-is_label_octet}

pub loop-octet-preserved : goal.loop-octet-preserved
loop-octet-preserved c =
    let name = c.args.name.now in
    let count = c.loop-octet.count in
    let octet = get_or name c.loop-octet.octet-index 0 in
    let rest = drop (c.loop-octet.octet-index + 1) name in
    let next : drop c.loop-octet.octet-index name ≡ octet ∷ rest = drop_more name c.loop-octet.octet-index 0 c.loop-octet-test.true in
    let walk : goes_on count (slice_split is_dot (octet ∷ rest)) ≡ list_all is_label (slice_split is_dot name) =
    ap (λ (text : List ℕ). goes_on count (slice_split is_dot text)) (sym next) ∙ c.loop-octet.invariant.walk in
    elim c.if-octet-eq46.branch [
      | then-octet-eq46+else-not-is_label_length w ↦ rw (w.count-is) record {
        bounded = omega arith;
        walk = sym (after_label count octet rest (eq-eqb octet 46 w.if-octet-eq46.true) (sym w.is_label_length.ensures ∙ w.if-not-is_label_length.false)) ∙ walk;
      }
      | else-octet-eq46+then-is_label_octet w ↦ rw (w.count-is) record {
        bounded = omega (arith, c.loop-octet.invariant.bounded);
        walk = sym (in_label count octet rest (ne_eqb octet 46 w.if-octet-eq46.false) (sym w.is_label_octet.ensures ∙ w.if-is_label_octet.true)) ∙ walk;
      }
    ]
