use Rattle.std.proofs.Common.{sym, ◌∙◌, ap, map, length, arith, eq-eqb}
use Rattle.std.proofs.lemmas.Bool.{false≢true}
use Rattle.std.proofs.lemmas.List.{length-map}
use Rattle.asn.specs.Oid.{oid_contents}
use Rattle.path_conditions.proofs.Tests.{purpose_says}
use Rattle.path_conditions.proofs.conditions.is_listed.Goals as goal

pub returns-else-is_empty : goal.returns-else-is_empty
returns-else-is_empty c =
    let listed = c.args.certificate.now.extensions.purposes.items in
    purpose_says c.lists.result c.args.purpose.now (map oid_contents listed) (rw c.deref.ensures.value at c.lists.ensures)
    (λ e.
    let none = ap length e in
    let same = length-map listed oid_contents in
    false≢true (sym c.if-is_empty.false ∙ (c.is_empty.ensures ∙ eq-eqb _ _ (omega (arith, c.args.certificate.now.extensions.purposes.ok.0)))))
