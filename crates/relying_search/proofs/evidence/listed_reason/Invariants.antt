use Rattle.std.proofs.Common.{◌≡◌, drop}
use Rattle.relying_agreement.specs.Status.{listed_reason}
use Rattle.relying_search.specs.View.{seen_lists}
use Rattle.relying_search.proofs.evidence.listed_reason.Given as goal

abbrev pub invariant-loop-crl : goal.invariant-loop-crl
invariant-loop-crl l =
    listed_reason l.moment l.may_sign (seen_lists (drop l.crl-index l.lists)) ≡ listed_reason l.moment l.may_sign (seen_lists l.lists)
