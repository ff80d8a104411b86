use Rattle.std.proofs.Common.{rules, map}
use Rattle.statements_facts.specs.Listed.{seen_listed}
use Rattle.statements_crl.specs.CertificateList.{seen_list}
use Rattle.statements.proofs.Listing.{fact_equal}
use Rattle.statements.proofs.genuine_list.facts_of.Goals as goal

pub returns-clause-fact : goal.returns-clause-fact
returns-clause-fact c =
    fact_equal c.value.result _ _ c.in_ok-of_entries.field-0 (map seen_listed c.in_ok-listed.listed.items) (seen_list c.args.list.now)
    (search rules) (search rules) (search rules) c.in_ok-of_entries.ensures.reasons c.in_ok-listed.ensures
