use Rattle.std.proofs.Common.{rules, ◌+◌, ℕ, List, sym, subst}
use Rattle.names_identity.proofs.HostLabels.{IsWalked, walk_goes_on, walk_meets_bad, walk_ends, walk_ends_bad}
use Rattle.names_identity.proofs.hosts.last_label.Goals as goal

pub returns-then-not-is_label_length-clause-refuses : goal.returns-then-not-is_label_length-clause-refuses
returns-then-not-is_label_length-clause-refuses c =
    walk_meets_bad c.args.text.now c.loop-dot.rest.now c.loop-dot.begin c.loop-dot.invariant c.in-Some.dot (search rules) (search rules)

pub loop-dot-preserved : goal.loop-dot-preserved
loop-dot-preserved c =
    subst (λ (l : List ℕ). IsWalked c.args.text.now l (c.loop-dot.begin + (c.in-Some.dot + 1))) (sym c.split_at.ensures.back)
    (walk_goes_on c.args.text.now c.loop-dot.rest.now c.loop-dot.begin c.loop-dot.invariant c.in-Some.dot (search rules) (search rules))

pub returns-then-is_label_length-clause-last : goal.returns-then-is_label_length-clause-last
returns-then-is_label_length-clause-last c =
    walk_ends c.args.text.now c.loop-dot.rest.now c.loop-dot.begin c.loop-dot.invariant (search rules) (search rules)

pub returns-else-is_label_length-clause-refuses : goal.returns-else-is_label_length-clause-refuses
returns-else-is_label_length-clause-refuses c =
    walk_ends_bad c.args.text.now c.loop-dot.rest.now c.loop-dot.begin c.loop-dot.invariant (search rules) (search rules)
