use Rattle.path_issuers.specs.View.{seen_search}
use Rattle.cli_steps.proofs.Searched.{prints_in_operands}
use Rattle.cli_steps.proofs.asking.prints_of.Goals as goal

pub returns-clause-prints : goal.returns-clause-prints
returns-clause-prints c =
    prints_in_operands c.args.operands.now _ c.in_ok-certificates.certificates (seen_search c.search-search.result) c.args.with_parts c.prints_in.result
    c.in_ok-certificates.ensures.reads c.search-search.ensures c.prints_in.ensures.prints
