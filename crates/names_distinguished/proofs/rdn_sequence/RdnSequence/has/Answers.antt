use Rattle.std.proofs.Common.{◌∙◌, sym, refl, IsTrue}
use Rattle.std.specs.FinMap.{contains_key}
use Rattle.names_distinguished.specs.AttributeValue.{compared_value}
use Rattle.names_distinguished.specs.DistinguishedName.{RdnMap}
use Rattle.names_distinguished.specs.NameView.{entries_of, map_of, maps_of}
use Rattle.names_distinguished.proofs.Matching.{any_here, any_after, set_has}
use Rattle.std.proofs.lemmas.Bool.{both_ways}
use Rattle.names_distinguished.proofs.rdn_sequence.RdnSequence.has.Goals as goal

pub returns-then-is_some : goal.returns-then-is_some
returns-then-is_some c =
    let kind = c.args.kind.now in (
      λ _. any_here (λ (rdn : RdnMap). IsTrue (contains_key rdn kind)) (maps_of c.args.self.now) (maps_of c.loop-rdn.rest) (maps_of c.in-Some.after) (map_of c.in-Some.rdn)
          c.loop-rdn.invariant c.in-Some.ensures
          (set_has compared_value (entries_of c.in-Some.rdn) kind c.of_kind.result c.of_kind.ensures ∙ (sym c.is_some.ensures ∙ c.if-is_some.true)),
      λ _. refl,
    )

pub loop-rdn-preserved : goal.loop-rdn-preserved
loop-rdn-preserved c =
    let kind = c.args.kind.now in
    any_after (λ (rdn : RdnMap). IsTrue (contains_key rdn kind)) (maps_of c.args.self.now) (maps_of c.loop-rdn.rest) (maps_of c.in-Some.after) (map_of c.in-Some.rdn)
    c.loop-rdn.invariant c.in-Some.ensures
    (λ has. both_ways c.is_some.result c.if-is_some.false
    (c.is_some.ensures ∙ (sym (set_has compared_value (entries_of c.in-Some.rdn) kind c.of_kind.result c.of_kind.ensures) ∙ has)))
