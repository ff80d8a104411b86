use Rattle.std.proofs.Common.{arith}
use Rattle.names_distinguished.proofs.Keys.{fits_at}
use Rattle.names_distinguished.proofs.name_key.push_rdn.Goals as goal

pub push_attribute-requires : goal.push_attribute-requires
push_attribute-requires c = fits_at c.deref-attribute-items.result.now c.in_ok-attributes.attributes.items _ c.loop-attribute.attribute-index _ c.deref-attribute-items.ensures.value c.in_ok-attributes.ensures c.requires.each (omega arith)
