use Rattle.std.proofs.Common.{refl, sym, ◌∙◌}
use Rattle.der.specs.Encoding.{Encodes}
use Rattle.asn.specs.Size.{octets_of}
use Rattle.der_tree.specs.Tree.{value_of}
use Rattle.asn.proofs.Laws.{encodes, encodable}
use Rattle.der_tree.proofs.encoding.encode.Goals as goal

pub returns-in_default-clause-only : goal.returns-in_default-clause-only
returns-in_default-clause-only c = λ octets e. absurd (c.in_default.ensures.none (encodable (value_of c.args.tree.now) 1 octets e).0)

pub returns-in_default-clause-refused : goal.returns-in_default-clause-refused
returns-in_default-clause-refused c = (λ same octets e. c.in_default.ensures.none (encodable (value_of c.args.tree.now) 1 octets e).0, λ none. refl)

pub returns-in-Ok-clause-found : goal.returns-in-Ok-clause-found
returns-in-Ok-clause-found c =
    let v = value_of c.args.tree.now in
    let e : Encodes (octets_of v) v = encodes v 1 c.in-Some.ensures.some.0 in
    rw c.in-Ok.ensures e

pub returns-in-Ok-clause-only : goal.returns-in-Ok-clause-only
returns-in-Ok-clause-only c = λ octets e. c.in-Ok.ensures ∙ sym (encodable (value_of c.args.tree.now) 1 octets e).1

pub returns-in-Ok-clause-refused : goal.returns-in-Ok-clause-refused
returns-in-Ok-clause-refused c =
    let v = value_of c.args.tree.now in
    (λ same. absurd cc, λ none. absurd (none (octets_of v) (encodes v 1 c.in-Some.ensures.some.0)))

pub returns-in-Err-clause-refused : goal.returns-in-Err-clause-refused
returns-in-Err-clause-refused c =
    let v = value_of c.args.tree.now in
    (λ same. absurd cc, λ none. absurd (none (octets_of v) (encodes v 1 c.in-Some.ensures.some.0)))
