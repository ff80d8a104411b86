use Rattle.std.proofs.lemmas.Result.{IfErr-weaker, IfOk-weaker}
use Rattle.path_issuers.specs.View.{seen_search}
use Rattle.path_issuers.specs.Links.{seen_links}
use Rattle.path_search.specs.Walk.{Answers, Stays}
use Rattle.path_search.specs.Paths.{WalkStays, WalksOn}
use Rattle.path_search.proofs.Walks.{walk_stays, walks_on}
use Rattle.path_search.proofs.walk.Walk.next.Goals as goal

pub returns-clause-answers : goal.returns-clause-answers
returns-clause-answers c =
    let ground = c.args.self.now.ground in
    IfOk-weaker c.next.result (Answers (seen_search ground.search.now) (seen_links ground.links) c.args.steps c.args.self.now.queue c.next.new.queue)
    (WalksOn c.args.steps c.args.self.now (record { ground = ground; queue = c.next.new.queue }))
    (λ answer answers. walks_on c.args.self.now c.next.new.queue c.args.steps answer answers) c.next.ensures.answers

pub returns-clause-kept : goal.returns-clause-kept
returns-clause-kept c =
    let ground = c.args.self.now.ground in
    IfErr-weaker c.next.result (λ e. Stays (seen_search ground.search.now) (seen_links ground.links) c.args.self.now.queue c.next.new.queue)
    (λ e. WalkStays c.args.self.now (record { ground = ground; queue = c.next.new.queue }))
    (λ e stays. walk_stays c.args.self.now c.next.new.queue stays) c.next.ensures.kept
