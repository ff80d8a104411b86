use Rattle.std.proofs.Common.{List, subst, sym}
use Rattle.path_verifiers.specs.ListVerifier.{Believes}
use Rattle.sqlite.specs.Files.{file_state}
use Rattle.statements_facts.specs.Statement.{Holdings}
use Rattle.cli_store.specs.Standing.{LeavesIfClean, seen_in}
use Rattle.cli.specs.Host.{host}
use Rattle.cli.specs.Streams.{streams}
use Rattle.cli.proofs.Seeing.{left_as}
use Rattle.cli.proofs.Serving.{served}
use Rattle.cli.proofs.sessions.serve_over.Goals as goal

pub returns : goal.returns
returns g c = record {
  served = λ begins found.
      served (host g.S.Source.holds g.S.Stores.places c.args.source.now) c.args.words.now c.args.prints.items
      c.new-believed.result c.serve-end.new.party.believed (file_state c.args.store.conn) (file_state c.serve-end.new.party.keeper.store.conn)
      (streams g.R.Read.remaining c.args.input.now c.serve-end.new.input g.O.Write.contents c.args.out.now c.serve-end.new.out) c.serve-end.result
      (subst (λ listed. Believes listed c.args.prints.items) (sym c.new-believed.ensures.listed) c.new.ensures)
      (c.new-believed.ensures.believes c.args.prints.items c.new.ensures)
      (record { opened = c.requires.open; settled = c.requires.settled; durable = c.requires.durable }) c.serve-end.ensures.clean c.serve-end.ensures.ended
      (left_as (λ store. (g.S.Stores.places c.args.source.now).leaves c.args.words.now.store.now (seen_in store)) c.into_store.result c.serve-end.new.party.keeper.store c.into_store.ensures c.close_store.ensures.leaves)
      (left_as (λ store. (later : List Holdings) → LeavesIfClean (file_state store.conn) later → (g.S.Stores.places c.args.source.now).lasts c.args.words.now.store.now later)
      c.into_store.result c.serve-end.new.party.keeper.store c.into_store.ensures c.close_store.ensures.lasts)
      begins found;
}
