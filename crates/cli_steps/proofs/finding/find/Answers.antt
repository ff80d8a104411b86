use Rattle.std.proofs.Common.{Ok, Err, option_map}
use Rattle.cli_words.specs.SearchTexts.{seen_search_words}
use Rattle.cli_steps.specs.Found.{with_name}
use Rattle.cli_steps.proofs.Answered.{finds_cleanly, found, not_found}
use Rattle.cli_steps.proofs.finding.find.Goals as goal

pub returns-in-Ok-clause-clean : goal.returns-in-Ok-clause-clean
returns-in-Ok-clause-clean g c =
    finds_cleanly g.K.Keeper.is_clean g.K.Keeper.keeps c.args.party.now.keeper c.find_by_words.new.receiver c.args.party.now.believed (g.S.Source.holds c.args.source.now)
    (with_name (option_map (λ text. text.now) c.args.name) (seen_search_words c.args.words.now)) (Ok c.in-Ok.found) c.in-Ok.ensures

pub returns-in-Err-clause-clean : goal.returns-in-Err-clause-clean
returns-in-Err-clause-clean g c =
    finds_cleanly g.K.Keeper.is_clean g.K.Keeper.keeps c.args.party.now.keeper c.find_by_words.new.receiver c.args.party.now.believed (g.S.Source.holds c.args.source.now)
    (with_name (option_map (λ text. text.now) c.args.name) (seen_search_words c.args.words.now)) (Err c.in-Err.failure) c.in-Err.ensures

pub returns-in-Ok-clause-steps : goal.returns-in-Ok-clause-steps
returns-in-Ok-clause-steps g c =
    found g.K.Keeper.is_clean g.K.Keeper.keeps c.args.party.now.keeper c.find_by_words.new.receiver c.args.party.now.believed (g.S.Source.holds c.args.source.now)
    (with_name (option_map (λ text. text.now) c.args.name) (seen_search_words c.args.words.now)) c.in-Ok.found c.in-Ok.ensures

pub returns-in-Err-clause-steps : goal.returns-in-Err-clause-steps
returns-in-Err-clause-steps g c =
    not_found g.K.Keeper.is_clean g.K.Keeper.keeps c.args.party.now.keeper c.find_by_words.new.receiver c.args.party.now.believed (g.S.Source.holds c.args.source.now)
    (with_name (option_map (λ text. text.now) c.args.name) (seen_search_words c.args.words.now)) c.in-Err.failure c.in-Err.ensures
