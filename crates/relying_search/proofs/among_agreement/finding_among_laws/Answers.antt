use Rattle.relying_search.proofs.AmongSame.{found_counts, finding_is_one, parties_find_the_same}
use Rattle.relying_search.proofs.among_agreement.finding_among_laws.Goals as goal

pub returns-clause-counted : goal.returns-clause-counted
returns-clause-counted g c =
    found_counts (g.F.PathFilter.counts c.args.filter.now) c.search_laws.ensures.ordered c.verdict_laws.ensures.valid c.verdict_laws.ensures.one

pub returns-clause-one : goal.returns-clause-one
returns-clause-one g c =
    finding_is_one (g.F.PathFilter.counts c.args.filter.now) c.search_laws.ensures.ordered c.verdict_laws.ensures.valid c.verdict_laws.ensures.one

pub returns-clause-agree : goal.returns-clause-agree
returns-clause-agree g c =
    parties_find_the_same (g.F.PathFilter.counts c.args.filter.now) c.agreement_laws.ensures.agree c.search_laws.ensures.ordered c.verdict_laws.ensures.valid
    c.verdict_laws.ensures.one
