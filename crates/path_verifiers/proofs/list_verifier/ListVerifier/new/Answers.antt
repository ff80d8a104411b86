use Rattle.path_verifiers.specs.ListVerifier.{is_listed}
use Rattle.path_verifiers.proofs.Searching.{believed}
use Rattle.path_verifiers.proofs.list_verifier.ListVerifier.new.Goals as goal

pub returns : goal.returns
unfolding is_listed
returns c = believed c.args.prints.items c.sort_unstable.new.self.items c.sort_unstable.ensures.permutation
