use Rattle.std.proofs.Common.{ℕ, List, Option, refl}
use Rattle.std.proofs.lemmas.Bool.{false≢true}
use Rattle.std.specs.Option.{option_copied}
use Rattle.path_host_constraints.specs.Lists.{members_of}
use Rattle.path_host_constraints.specs.HostLists.{ExcludesFound, ExcludesNoHost}
use Rattle.path_host_constraints.proofs.Loops.{is_one_at, holds_more_at, all_of}
use Rattle.path_host_constraints.proofs.host_lists.excludes_no_host.Goals as goal

pub returns-then-excludes_found : goal.returns-then-excludes_found
returns-then-excludes_found c = (
  λ never. absurd (false≢true never),
  λ none. absurd (none _ (is_one_at option_copied c.args.hosts.now c.loop-found.found-index _ c.loop-found-test.true) (c.if-excludes_found.ensures.0 refl)),
)

pub loop-found-preserved : goal.loop-found-preserved
loop-found-preserved c =
    holds_more_at option_copied c.args.hosts.now c.loop-found.found-index _ c.loop-found-test.true
    (λ (x : Option (List ℕ)). ¬ ExcludesFound (members_of c.args.indexes.now) x) c.loop-found.invariant (λ has. false≢true (c.if-excludes_found.ensures.1 has))

pub returns : goal.returns
returns c = (
  λ t. all_of option_copied c.args.hosts.now c.loop-found.found-index (λ l. ExcludesNoHost (members_of c.args.indexes.now) l) c.loop-found-test.false c.loop-found.invariant,
  λ none. refl,
)
