use Rattle.std.proofs.Common.{sym, ◌∙◌, rules, tests}
use Rattle.std.specs.Str.{bytes_eq}
use Rattle.std.proofs.lemmas.Iterator.{YieldsList-from_slice}
use Rattle.std.proofs.lemmas.Iterator.Search.{all_from_yields_List}
use Rattle.std.proofs.lemmas.List.Folds.{list_all-map}
use Rattle.asn.specs.Oid.{oid_contents}
use Rattle.path_conditions.specs.CertificateConditions.{distribution_points}
use Rattle.path_conditions.proofs.conditions.are_distribution_points.Goals as goal

pub returns : goal.returns
returns c =
    all_from_yields_List (λ oid. bytes_eq (oid_contents oid) distribution_points) _ _ _ c.all.ensures.ran (YieldsList-from_slice c.args.types.now cc) (λ x b q k. search (rules, tests))
    ∙ sym (list_all-map (λ type. bytes_eq type distribution_points) oid_contents c.args.types.now)
