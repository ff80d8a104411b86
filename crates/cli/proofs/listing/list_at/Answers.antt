use Rattle.cli_store.specs.Standing.{seen_in}
use Rattle.cli.proofs.Lines.{listed_at}
use Rattle.cli.proofs.Unanswered.{not_listed_at}
use Rattle.cli.proofs.listing.list_at.Goals as goal

pub returns-clause-listed : goal.returns-clause-listed
returns-clause-listed g c =
    listed_at (g.S.Stores.places c.args.source.now) c.args.path.now c.args.at (seen_in c.in_ok-store.store) c.list_in.result
    c.in_ok-store.ensures.found c.list_in.ensures.listed

pub returns-clause-fails : goal.returns-clause-fails
returns-clause-fails g c =
    not_listed_at (g.S.Stores.places c.args.source.now) c.args.path.now (seen_in c.in_ok-store.store) c.list_in.result
    c.in_ok-store.ensures.found c.list_in.ensures.fails
