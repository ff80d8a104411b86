use Rattle.std.proofs.Common.{rules}
use Rattle.names_distinguished.specs.NameView.{maps_of}
use Rattle.names_distinguished.proofs.Matching.{within_test}
use Rattle.names_distinguished.proofs.rdn_sequence.RdnSequence.within.Goals as goal

pub returns-clause-test : goal.returns-clause-test
returns-clause-test c = within_test (maps_of c.args.self.now) (maps_of c.args.other.now) c.is_some.result (search rules)
