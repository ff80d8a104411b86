use Rattle.cli_words.specs.SearchTexts.{seen_search_words}
use Rattle.cli.specs.Host.{host}
use Rattle.cli.proofs.Asked.{not_searched, searched}
use Rattle.cli.proofs.finding.find_path.Goals as goal

pub returns-clause-found : goal.returns-clause-found
returns-clause-found g c =
    searched g.S.Stores.places (host g.S.Source.holds g.S.Stores.places c.args.source.now) c.args.store.now c.args.verdicts.now (seen_search_words c.args.words.now)
    _ c.find_believing.new.receiver (λ accepts s budget result found. found) c.find_believing.result c.find_believing.ensures

pub returns-clause-fails : goal.returns-clause-fails
returns-clause-fails g c =
    not_searched g.S.Stores.places (host g.S.Source.holds g.S.Stores.places c.args.source.now) c.args.store.now c.args.verdicts.now (seen_search_words c.args.words.now)
    _ c.find_believing.new.receiver (λ accepts s budget result found. found) c.find_believing.result c.find_believing.ensures
