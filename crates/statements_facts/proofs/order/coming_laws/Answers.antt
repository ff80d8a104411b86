use Rattle.statements_facts.proofs.ComingLaws.{comes_as_one, holds_newest, takes_both}
use Rattle.statements_facts.proofs.Counting.{kept_leave_all}
use Rattle.statements_facts.proofs.order.coming_laws.Goals as goal

pub returns-clause-once : goal.returns-clause-once
returns-clause-once c = comes_as_one

pub returns-clause-newest : goal.returns-clause-newest
returns-clause-newest c = holds_newest

pub returns-clause-both : goal.returns-clause-both
returns-clause-both c = takes_both

pub returns-clause-kept : goal.returns-clause-kept
returns-clause-kept c = kept_leave_all
