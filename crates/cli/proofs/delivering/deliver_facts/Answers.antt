use Rattle.cli.specs.Host.{host}
use Rattle.cli.proofs.Asked.{delivered, not_delivered}
use Rattle.cli.proofs.delivering.deliver_facts.Goals as goal

pub returns-clause-delivered : goal.returns-clause-delivered
returns-clause-delivered g c =
    delivered g.S.Stores.places (host g.S.Source.holds g.S.Stores.places c.args.source.now) c.args.words
    _ c.deliver_believing.new.receiver (λ facts result taken. taken) c.deliver_believing.result c.deliver_believing.ensures

pub returns-clause-fails : goal.returns-clause-fails
returns-clause-fails g c =
    not_delivered g.S.Stores.places (host g.S.Source.holds g.S.Stores.places c.args.source.now) c.args.words
    _ c.deliver_believing.new.receiver (λ facts result taken. taken) c.deliver_believing.result c.deliver_believing.ensures
