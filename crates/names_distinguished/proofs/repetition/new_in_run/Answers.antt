use Rattle.names_distinguished.specs.Repetition.{kinds_of, pointed}
use Rattle.names_distinguished.proofs.Runs.{search_begins, search_more, search_ends, none_left, at_start}
use Rattle.names_distinguished.proofs.repetition.new_in_run.Goals as goal

pub returns-then-one-start : goal.returns-then-one-start
returns-then-one-start c =
    search_ends (kinds_of c.args.all) (kinds_of c.args.run) (kinds_of c.loop-one.earlier) (pointed c.loop-one.pointer) c.loop-one.last.now c.args.start c.loop-one.limit c.loop-one.invariant c.requires
    (at_start c.args.start c.loop-one.limit (kinds_of c.args.run) (kinds_of c.loop-one.earlier) (kinds_of c.next.new.self) (c.in-Some.one.at, c.in-Some.one.kind.now) c.in-Some.ensures c.if-one-start.true)

pub loop-one-init : goal.loop-one-init
loop-one-init c = search_begins (kinds_of c.args.all) (kinds_of c.args.run) (pointed c.first-pointer.result) c.args.start c.end_of_run-limit.result c.end_of_run-limit.ensures c.first-pointer.ensures

pub loop-one-preserved : goal.loop-one-preserved
loop-one-preserved c =
    search_more (kinds_of c.args.all) (kinds_of c.args.run) (kinds_of c.loop-one.earlier) (kinds_of c.next.new.self) (pointed c.loop-one.pointer) (pointed c.going_on.result) (pointed c.past-pointer.result)
    (c.in-Some.one.at, c.in-Some.one.kind.now) c.loop-one.last.now c.args.start c.loop-one.limit c.limit_before-limit.result c.loop-one.invariant c.in-Some.ensures c.going_on.ensures c.past-pointer.ensures c.limit_before-limit.ensures

pub returns : goal.returns
returns c =
    search_ends (kinds_of c.args.all) (kinds_of c.args.run) (kinds_of c.loop-one.earlier) (pointed c.loop-one.pointer) c.loop-one.last.now c.args.start c.loop-one.limit c.loop-one.invariant c.requires
    (none_left c.args.start c.loop-one.limit (kinds_of c.args.run) (kinds_of c.loop-one.earlier) c.in_default.ensures)
