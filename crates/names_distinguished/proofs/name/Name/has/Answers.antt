use Rattle.std.proofs.Common.{ℕ, List, IsTrue, subst}
use Rattle.std.specs.Prelude.{◌↔◌}
use Rattle.names_distinguished.specs.DistinguishedName.{HasKind}
use Rattle.names_distinguished.specs.NameView.{maps_of}
use Rattle.names_distinguished.specs.NameOctets.{rdns_of}
use Rattle.names_distinguished.proofs.name.Name.has.Goals as goal

pub returns : goal.returns
unfolding rdns_of
returns c = subst (λ (k : List ℕ). IsTrue c.has.result ↔ HasKind k (maps_of c.args.self.now.rdns)) c.contents.ensures c.has.ensures
