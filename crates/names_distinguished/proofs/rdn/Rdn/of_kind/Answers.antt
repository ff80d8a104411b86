use Rattle.std.proofs.Common.{rules}
use Rattle.names_distinguished.specs.NameView.{entries_of, entry_of}
use Rattle.names_distinguished.proofs.Matching.{found_value, later_value, no_value}
use Rattle.names_distinguished.proofs.rdn.Rdn.of_kind.Goals as goal

pub returns-then-eq : goal.returns-then-eq
returns-then-eq c =
    found_value c.args.kind.now (entries_of c.args.self.now) (entries_of c.loop-attribute.rest) (entries_of c.in-Some.after) (entry_of c.in-Some.attribute)
    c.loop-attribute.invariant c.in-Some.ensures (search rules)

pub loop-attribute-preserved : goal.loop-attribute-preserved
loop-attribute-preserved c =
    later_value c.args.kind.now (entries_of c.args.self.now) (entries_of c.loop-attribute.rest) (entries_of c.in-Some.after) (entry_of c.in-Some.attribute)
    c.loop-attribute.invariant c.in-Some.ensures (λ same. absurd (search rules))

pub returns : goal.returns
returns c = no_value c.args.kind.now (entries_of c.args.self.now) (entries_of c.loop-attribute.rest) c.loop-attribute.invariant c.in_default.ensures
