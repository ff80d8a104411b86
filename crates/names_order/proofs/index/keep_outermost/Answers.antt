use Rattle.std.proofs.Common.{rules}
use Rattle.std.proofs.lemmas.Fn.{dedup_same}
use Rattle.names_order.specs.Order.{begins_with}
use Rattle.names_order.specs.Index.{key_octets}
use Rattle.names_order.proofs.Directories.{outermost_keys}
use Rattle.names_order.proofs.index.keep_outermost.Goals as goal

pub returns : goal.returns
returns c =
    outermost_keys c.args.keys.now.items c.sort.new.self.items c.dedup_by.new.self.items c.sort.ensures.permutation c.in_ok-sort.ensures.sorted
    (dedup_same _ (λ one other. begins_with (key_octets one) (key_octets other)) _ (λ x y b f x' y' k. search rules) _ _ c.dedup_by.ensures.filtered)
