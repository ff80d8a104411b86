use Rattle.names_distinguished.specs.NameView.{maps_of}
use Rattle.names_distinguished.proofs.Matching.{nothing_follows, never_match, matching_test}
use Rattle.std.proofs.Common.{rules, false}
use Rattle.names_distinguished.proofs.rdn_sequence.RdnSequence.matches.Goals as goal

pub returns-in-Some-clause-decides : goal.returns-in-Some-clause-decides
returns-in-Some-clause-decides c = nothing_follows (maps_of c.args.self.now) (maps_of c.args.other.now) (maps_of c.in-Some.rest) c.is_empty.result c.in-Some.ensures c.is_empty.ensures

pub returns-in-Some-clause-test : goal.returns-in-Some-clause-test
returns-in-Some-clause-test c =
    matching_test (maps_of c.args.self.now) (maps_of c.args.other.now) c.is_empty.result
    (nothing_follows (maps_of c.args.self.now) (maps_of c.args.other.now) (maps_of c.in-Some.rest) c.is_empty.result c.in-Some.ensures c.is_empty.ensures)

pub returns-in-None-clause-decides : goal.returns-in-None-clause-decides
returns-in-None-clause-decides c = (λ t. absurd (search rules), λ same. absurd (never_match (maps_of c.args.self.now) (maps_of c.args.other.now) c.in-None.ensures same))

pub returns-in-None-clause-test : goal.returns-in-None-clause-test
returns-in-None-clause-test c =
    matching_test (maps_of c.args.self.now) (maps_of c.args.other.now) false
    (λ t. absurd (search rules), λ same. absurd (never_match (maps_of c.args.self.now) (maps_of c.args.other.now) c.in-None.ensures same))
