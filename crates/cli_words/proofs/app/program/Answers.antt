use Rattle.std.proofs.Common.{◌≡◌}
use Rattle.std.proofs.lemmas.Result.{IfOk-weaker}
use Rattle.clap.specs.Words.{app_of}
use Rattle.cli_words.specs.App.{IsCommand, program}
use Rattle.cli_words.proofs.app.program.Goals as goal

pub returns : goal.returns
returns c =
    IfOk-weaker _ (IsCommand program) (λ c. app_of c ≡ program) (λ new is. is.0)
    (c.subcommand-10.ensures _ _ (c.subcommand-9.ensures _ _ (c.subcommand-8.ensures _ _ (c.subcommand-7.ensures _ _ (c.subcommand-6.ensures _ _ (c.subcommand-5.ensures _ _ (c.subcommand-4.ensures _ _ (c.subcommand-3.ensures _ _ (c.subcommand-2.ensures _ _ (c.subcommand.ensures _ _ (c.subcommand_required.ensures _ c.new.ensures) c.tree.ensures) c.show.ensures) c.prints.ensures) c.deliver.ensures) c.check.ensures) c.compare.ensures) c.find.ensures) c.explain.ensures) c.session.ensures) c.list.ensures)
