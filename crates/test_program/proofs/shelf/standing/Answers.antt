use Rattle.sqlite.specs.Files.{file_state}
use Rattle.statements_facts.specs.Statement.{empty_holdings}
use Rattle.statements_facts.specs.declared.profile.Profile.TheVariants.{Stated}
use Rattle.test_program.specs.Shelves.{after_these}
use Rattle.test_program.proofs.Filling.{fails_still, holds_still, is_of_profile, profile_stays}
use Rattle.test_program.proofs.shelf.standing.Goals as goal

pub returns-clause-holds : goal.returns-clause-holds
returns-clause-holds c =
    holds_still c.reopened.result (file_state c.in_ok-store.store.conn).now (after_these empty_holdings c.args.rows.now) c.in_ok-store.ensures.filled c.reopened.ensures.holds

pub returns-clause-profile : goal.returns-clause-profile
returns-clause-profile c =
    is_of_profile Stated c.reopened.result (file_state c.in_ok-store.store.conn).now (after_these empty_holdings c.args.rows.now) (profile_stays empty_holdings c.args.rows.now)
    c.in_ok-store.ensures.filled c.reopened.ensures.holds

pub returns-clause-fails : goal.returns-clause-fails
returns-clause-fails c =
    fails_still c.reopened.result (file_state c.in_ok-store.store.conn).now (after_these empty_holdings c.args.rows.now) c.in_ok-store.ensures.filled c.reopened.ensures.fails
