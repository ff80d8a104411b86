use Rattle.std.proofs.Common.{◌≡◌, pos, arith, ap, sym, ◌∙◌}
use Rattle.std.proofs.lemmas.Int.{ints}
use Rattle.asn.specs.Integer.{binary_value}
use Rattle.asn.proofs.IntegerLemmas.{long_magnitude}
use Rattle.asn.proofs.number.Number20.from_content.Goals as goal

pub returns-then-magnitude-gt20-clause-none : goal.returns-then-magnitude-gt20-clause-none
returns-then-magnitude-gt20-clause-none c = λ number is.
    let magnitude = c.in_ok-magnitude.ensures.some in
    let large = long_magnitude c.in_ok-magnitude.magnitude.now c.if-magnitude-gt20.true (magnitude.shortest (omega arith)) in
    let same : pos number ≡ pos (binary_value c.in_ok-magnitude.magnitude.now) = sym is.value ∙ magnitude.value in
    omega (arith, ints, is.bound)

pub returns-clause-some : goal.returns-clause-some
returns-clause-some c =
    let is = c.in_ok-magnitude.ensures.some in
    let number : c.from_octets.result ≡ binary_value c.in_ok-magnitude.magnitude.now = c.from_octets.ensures.value ∙ c.padded.ensures in
    record {
      content = is.content;
      value = is.value ∙ ap pos (sym number);
      bound = c.from_octets.ensures.bound;
    }
