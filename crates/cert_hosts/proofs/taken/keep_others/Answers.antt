use Rattle.std.proofs.Common.{rules, map, ap, ◌∙◌}
use Rattle.std.proofs.lemmas.Fn.{filter_same}
use Rattle.names.specs.GeneralView.{subtree_base}
use Rattle.cert_hosts.specs.Taken.{is_other_base}
use Rattle.cert_hosts.proofs.OtherConstraints.{filter_seen}
use Rattle.cert_hosts.proofs.taken.keep_others.Goals as goal

pub returns-clause-same : goal.returns-clause-same
returns-clause-same c =
    ap (map subtree_base) (filter_same _ (λ base. is_other_base (subtree_base base)) _ (λ base b f k. search rules) _ _ c.retain.ensures.filtered)
    ∙ filter_seen subtree_base is_other_base _
