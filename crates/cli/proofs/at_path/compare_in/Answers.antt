use Rattle.std.proofs.Common.{List}
use Rattle.sqlite.specs.Files.{file_state}
use Rattle.path.specs.Reading.{seen_query}
use Rattle.statements_facts.specs.Statement.{Holdings}
use Rattle.cli_store.specs.Standing.{LeavesIfClean, seen_in}
use Rattle.cli.proofs.Seeing.{compared, left_as, not_compared}
use Rattle.cli.proofs.at_path.compare_in.Goals as goal

pub returns-in-Ok : goal.returns-in-Ok
returns-in-Ok g c = λ found other_found.
    compared
    (g.S.Stores.places c.args.source.now) c.args.stores.now
    (file_state c.args.store.conn) (file_state c.compare-comparison.new.one.store.conn) (file_state c.args.beside.conn) (file_state c.compare-comparison.new.other.store.conn)
    (left_as (λ store. (g.S.Stores.places c.args.source.now).leaves c.args.stores.now.store.now (seen_in store)) c.into_store.result c.compare-comparison.new.one.store c.into_store.ensures c.close_store.ensures.leaves)
    (left_as (λ store. (g.S.Stores.places c.args.source.now).leaves c.args.stores.now.other.now (seen_in store)) c.into_store-2.result c.compare-comparison.new.other.store c.into_store-2.ensures c.close_store-2.ensures.leaves)
    (left_as (λ store. (later : List Holdings) → LeavesIfClean (file_state store.conn) later → (g.S.Stores.places c.args.source.now).lasts c.args.stores.now.store.now later) c.into_store.result c.compare-comparison.new.one.store c.into_store.ensures c.close_store.ensures.lasts)
    (left_as (λ store. (later : List Holdings) → LeavesIfClean (file_state store.conn) later → (g.S.Stores.places c.args.source.now).lasts c.args.stores.now.other.now later) c.into_store-2.result c.compare-comparison.new.other.store c.into_store-2.ensures c.close_store-2.ensures.lasts)
    (record { opened = c.requires.open; settled = c.requires.settled; durable = c.requires.durable })
    (record { opened = c.requires.other_open; settled = c.requires.other_settled; durable = c.requires.other_durable })
    (rw c.new-one.ensures.store at c.in-Ok.ensures.survives) (rw c.new-other.ensures.store at c.in-Ok.ensures.other_survives)
    (g.V.Verifier.accepts c.args.verifier.now) (seen_query c.args.query.now) c.in-Ok.comparison
    (rw (c.new-one.ensures.verifier, c.new-one.ensures.store, c.new-other.ensures.store) at c.in-Ok.ensures.looks) found other_found

pub returns-in-Err : goal.returns-in-Err
returns-in-Err g c = λ found other_found.
    not_compared
    (g.S.Stores.places c.args.source.now) c.args.stores.now
    (file_state c.args.store.conn) (file_state c.compare-comparison.new.one.store.conn) (file_state c.args.beside.conn) (file_state c.compare-comparison.new.other.store.conn)
    (left_as (λ store. (g.S.Stores.places c.args.source.now).leaves c.args.stores.now.store.now (seen_in store)) c.into_store.result c.compare-comparison.new.one.store c.into_store.ensures c.close_store.ensures.leaves)
    (left_as (λ store. (g.S.Stores.places c.args.source.now).leaves c.args.stores.now.other.now (seen_in store)) c.into_store-2.result c.compare-comparison.new.other.store c.into_store-2.ensures c.close_store-2.ensures.leaves)
    (left_as (λ store. (later : List Holdings) → LeavesIfClean (file_state store.conn) later → (g.S.Stores.places c.args.source.now).lasts c.args.stores.now.store.now later) c.into_store.result c.compare-comparison.new.one.store c.into_store.ensures c.close_store.ensures.lasts)
    (left_as (λ store. (later : List Holdings) → LeavesIfClean (file_state store.conn) later → (g.S.Stores.places c.args.source.now).lasts c.args.stores.now.other.now later) c.into_store-2.result c.compare-comparison.new.other.store c.into_store-2.ensures c.close_store-2.ensures.lasts)
    (record { opened = c.requires.open; settled = c.requires.settled; durable = c.requires.durable })
    (record { opened = c.requires.other_open; settled = c.requires.other_settled; durable = c.requires.other_durable })
    (rw c.new-one.ensures.store at c.in-Err.ensures.survives) (rw c.new-other.ensures.store at c.in-Err.ensures.other_survives)
    c.in-Err.fault c.failed.result c.failed.ensures
    (rw (c.new-one.ensures.store, c.new-other.ensures.store) at c.in-Err.ensures.looks) found other_found
