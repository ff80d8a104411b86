use Rattle.std.proofs.Common.{◌≡◌, ℤ, Bool, List, Option, drop, is_some}
use Rattle.std.specs.List.{list_any}
use Rattle.statements_facts.specs.Statement.{CrlAnswer}
use Rattle.relying_agreement.specs.Status.{crl_that_counts}
use Rattle.relying_search.specs.View.{seen_lists}
use Rattle.relying_search.proofs.evidence.has_list_among.Given as goal

abbrev one_counts : ℤ → Bool → List (Option CrlAnswer) → Bool
one_counts moment may_sign lists = list_any (λ crl. is_some (crl_that_counts moment may_sign crl)) lists

abbrev pub invariant-loop-crl : goal.invariant-loop-crl
invariant-loop-crl l =
    one_counts l.moment l.may_sign (seen_lists (drop l.crl-index l.lists)) ≡ one_counts l.moment l.may_sign (seen_lists l.lists)
