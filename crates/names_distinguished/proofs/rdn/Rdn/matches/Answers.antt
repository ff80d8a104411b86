use Rattle.std.proofs.Common.{◌≡◌, ◌∙◌, sym, eq-eqb, rules}
use Rattle.std.proofs.lemmas.Bool.{eqb-true}
use Rattle.names_distinguished.specs.NameView.{entries_of}
use Rattle.names_distinguished.proofs.Matching.{sets_agree}
use Rattle.names_distinguished.proofs.Counting.{same_by_one_side, same_size}
use Rattle.names_distinguished.proofs.RunParts.{is_distinct}
use Rattle.names_distinguished.proofs.SameNames.{same_sets}
use Rattle.names_distinguished.proofs.rdn.Rdn.matches.Goals as goal

pub returns-then-eq : goal.returns-then-eq
returns-then-eq c =
    let same : c.octets.result.now ≡ c.octets-2.result.now = search rules in (
      λ t. same_sets c.args.self.now c.args.other.now (sym c.octets.ensures ∙ (same ∙ c.octets-2.ensures)),
      λ s. search rules,
    )

pub returns-then-count : goal.returns-then-count
returns-then-count c =
    let l = entries_of c.args.self.now in
    let r = entries_of c.args.other.now in
    let size = sym c.count.ensures ∙ (c.if-count.true ∙ c.count-in-None.ensures) in (
      λ t. same_by_one_side l r (is_distinct c.args.self.now) (is_distinct c.args.other.now) size (c.agrees_on_its_own.ensures.0 t),
      λ same. c.agrees_on_its_own.ensures.1 (sets_agree l r same),
    )

pub returns-else-count : goal.returns-else-count
returns-else-count c =
    let l = entries_of c.args.self.now in
    let r = entries_of c.args.other.now in (
      λ t. absurd (c.if-count.false (eqb-true c.count.result c.count-in-None.result t)),
      λ same. eq-eqb c.count.result c.count-in-None.result (c.count.ensures ∙ (same_size l r (is_distinct c.args.self.now) (is_distinct c.args.other.now) same ∙ sym c.count-in-None.ensures)),
    )
