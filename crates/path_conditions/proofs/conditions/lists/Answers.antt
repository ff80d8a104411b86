use Rattle.std.proofs.Common.{sym, ◌∙◌, rules, tests}
use Rattle.std.proofs.lemmas.Iterator.{YieldsList-from_slice}
use Rattle.std.proofs.lemmas.Iterator.Search.{any_from_yields_List}
use Rattle.asn.specs.Oid.{oid_contents}
use Rattle.path_conditions.specs.CertificateConditions.{lists_purpose}
use Rattle.path_conditions.proofs.Selecting.{list_any-map}
use Rattle.path_conditions.proofs.conditions.lists.Goals as goal

pub returns : goal.returns
returns c =
    any_from_yields_List (λ oid. lists_purpose c.args.purpose.now (oid_contents oid)) _ _ _ c.any.ensures.ran (YieldsList-from_slice c.args.listed.now cc) (λ x b q k. search (rules, tests))
    ∙ sym (list_any-map (lists_purpose c.args.purpose.now) oid_contents c.args.listed.now)
