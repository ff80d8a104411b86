use Rattle.std.proofs.Common.{nat_eq, ◌∷◌, arith, eq-eqb}
use Rattle.std.proofs.lemmas.Bool.{eqb-true}
use Rattle.names_distinguished.specs.NameView.{entries_of}
use Rattle.names_distinguished.proofs.Agreement.{agreed_begins, agreed_more, agreed_fails, agreed_short, agreed, disagreed}
use Rattle.names_distinguished.proofs.RunParts.{entries_short, is_distinct}
use Rattle.names_distinguished.proofs.rdn.Rdn.agrees_on_its_own.Goals as goal

pub loop-rest-init : goal.loop-rest-init
loop-rest-init c = agreed_begins (entries_of c.args.self.now) (entries_of c.args.other.now) (is_distinct c.args.other.now)

pub overflow_add-found : goal.overflow_add-found
overflow_add-found c =
    let front = c.in-Some-count_front.ensures in
    let short = agreed_short (entries_of c.args.self.now) (entries_of c.args.other.now) (entries_of c.loop-rest.rest) (front.first ∷ front.others) (entries_of c.in-Some-count_front.behind) c.loop-rest.found c.in-Some-count_front.more
    c.loop-rest.invariant front.joined front.counts.number in
    let fits = entries_short c.args.self.now in
    omega arith

pub returns-in-None : goal.returns-in-None
returns-in-None c =
    let front = c.in-None.ensures in
    let fails = agreed_fails (entries_of c.args.self.now) (entries_of c.args.other.now) (entries_of c.loop-rest.rest) front.front front.rest c.loop-rest.found c.loop-rest.invariant front.joined front.differs in
    (λ t. cc, λ agree. absurd (disagreed (entries_of c.args.self.now) (entries_of c.args.other.now) fails (is_distinct c.args.self.now) agree))

pub loop-rest-preserved : goal.loop-rest-preserved
loop-rest-preserved c =
    let front = c.in-Some-count_front.ensures in
    agreed_more (entries_of c.args.self.now) (entries_of c.args.other.now) (entries_of c.loop-rest.rest) (front.first ∷ front.others) (entries_of c.in-Some-count_front.behind) c.loop-rest.found c.in-Some-count_front.more
    c.loop-rest.invariant front.joined front.counts.fits front.counts.number

pub returns : goal.returns
returns c =
    agreed (entries_of c.args.self.now) (entries_of c.args.other.now) (entries_of c.loop-rest.rest) c.loop-rest.found c.count-count.result (nat_eq c.loop-rest.found c.count-count.result) c.loop-rest.invariant c.in_default.ensures
    (is_distinct c.args.self.now) c.count-count.ensures (eqb-true c.loop-rest.found c.count-count.result, eq-eqb c.loop-rest.found c.count-count.result)
