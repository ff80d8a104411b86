use Rattle.std.proofs.Common.{◌++◌, arith, refl}
use Rattle.names_order.specs.Index.{all_of}
use Rattle.names_order.proofs.Directories.{two_decide, keys_kept}
use Rattle.names_order.proofs.index.joined_keys.Goals as goal

pub returns-then-rest-le-SHORT : goal.returns-then-rest-le-SHORT
returns-then-rest-le-SHORT c = λ many. absurd (omega arith)

pub returns : goal.returns
returns c = λ many.
    let bases = all_of c.args.indexes.now ++ c.args.more.now in
    let both = two_decide c.in_ok-keys.keys.items c.in_ok-others.others.items c.append.new.self.items (all_of c.args.indexes.now) c.args.more.now bases c.in_ok-append.ensures.items refl c.in_ok-keys.ensures c.in_ok-others.ensures in
    keys_kept c.args.rest.now c.append.new.self.items c.keep_outermost.new.keys.items bases both c.requires c.in_ok-keep_outermost.ensures
