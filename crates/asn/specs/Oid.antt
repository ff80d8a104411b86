-- An OBJECT IDENTIFIER by its contents octets (X.690 8.19), each of which has one spelling.
use Rattle.std.specs.Prelude.{ℕ, List}
use Rattle.asn.specs.declared.oid.Oid.{Oid}

-- the contents octets
abbrev pub oid_contents : Oid → List ℕ
oid_contents oid = oid.contents.now
