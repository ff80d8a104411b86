use Rattle.std.proofs.Common.{◌≡◌, rules}
use Rattle.names_distinguished.specs.NameOctets.{rdns_of}
use Rattle.names_distinguished.proofs.Matching.{matching_test}
use Rattle.names_distinguished.proofs.SameNames.{same_rdns}
use Rattle.names_distinguished.proofs.name.Name.matches.Goals as goal

pub returns-then-eq-clause-decides : goal.returns-then-eq-clause-decides
returns-then-eq-clause-decides c =
    let same : c.args.self.now.raw.now ≡ c.args.other.now.raw.now = search rules in (
      λ t. same_rdns c.args.self.now c.args.other.now c.args.self.now.members c.args.other.now.members same,
      λ s. search rules,
    )

pub returns-then-eq-clause-test : goal.returns-then-eq-clause-test
returns-then-eq-clause-test c =
    let same : c.args.self.now.raw.now ≡ c.args.other.now.raw.now = search rules in
    matching_test (rdns_of c.args.self.now) (rdns_of c.args.other.now) c.eq.result (
      λ t. same_rdns c.args.self.now c.args.other.now c.args.self.now.members c.args.other.now.members same,
      λ s. search rules,
    )
