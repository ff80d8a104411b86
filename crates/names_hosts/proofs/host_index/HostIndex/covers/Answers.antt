use Rattle.std.proofs.Common.{◌∙◌, ap, List, ℕ}
use Rattle.std.specs.Borrow.{Bor}
use Rattle.names_hosts.specs.HostLists.{is_one_host}
use Rattle.names_hosts.proofs.HostMembers.{covered_here, covered_below}
use Rattle.names_hosts.proofs.host_index.HostIndex.covers.Goals as goal

pub returns-then-finds : goal.returns-then-finds
returns-then-finds c =
    let i = c.self.inside in
    let host = c.args.host.now in
    record {
      decides = covered_here i.all.items i.hosts.items i.domains c.args.self.now host c.finds.result c.self.invariant c.self.view_is
          (c.finds.ensures ∙ ap (λ (l : List (Bor (List ℕ))). is_one_host l host) c.deref.ensures.value) c.if-finds.true;
    }

pub returns-else-finds : goal.returns-else-finds
returns-else-finds c =
    let i = c.self.inside in
    let host = c.args.host.now in
    record {
      decides = covered_below i.all.items i.hosts.items i.domains c.args.self.now host c.finds.result c.covers.result c.self.invariant c.self.view_is
          (c.finds.ensures ∙ ap (λ (l : List (Bor (List ℕ))). is_one_host l host) c.deref.ensures.value) c.if-finds.false c.covers.ensures;
    }
