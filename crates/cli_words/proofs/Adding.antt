-- A command with one argument or one subcommand more.
use Rattle.std.proofs.Common.{◌∙◌, Result, ap, refl}
use Rattle.std.specs.Prelude.{IfOk}
use Rattle.std.proofs.lemmas.Result.{IfOk-weaker}
use Rattle.clap.specs.Words.{AddsArg, AddsSubcommand, App, Rule, app_of, rule_of, with_rule, with_subcommand}
use Rattle.clap.specs.declared.builder.arg.Arg.{Arg}
use Rattle.clap.specs.declared.builder.command.Command.{Command}
use Rattle.cli_words.specs.App.{HasRule, IsCommand}

with_one_more : (old : Command) (a : Arg) (new : Command) (x : App) (y : Rule)
    → AddsArg old a new → IsCommand x old → HasRule y a → IsCommand (with_rule x y) new
with_one_more old a new x y adds (is_x, was) (is_y, local) =
    (adds.shape local ∙ ap (λ (p : App). with_rule p (rule_of a)) is_x ∙ ap (with_rule x) is_y, rw (adds.globals, was, local) refl)

pub adds_arg : {E : Type 0} (r : Result Command E) (old : Command) (a : Arg) (x : App) (y : Rule)
    → IfOk r (λ new. AddsArg old a new) → IsCommand x old → HasRule y a → IfOk r (IsCommand (with_rule x y))
adds_arg r old a x y adds is has =
    IfOk-weaker r (λ new. AddsArg old a new) (IsCommand (with_rule x y))
    (λ new added. with_one_more old a new x y added is has) adds

with_one_below : (old sub new : Command) (x y : App) → AddsSubcommand old sub new
    → IsCommand x old → IsCommand y sub → IsCommand (with_subcommand x y.top) new
with_one_below old sub new x y adds (is_x, was) (is_y, local) = (
  adds.shape local ∙ ap (λ (a : App). with_subcommand a (app_of sub).top) is_x
      ∙ ap (λ (a : App). with_subcommand x a.top) is_y,
  rw (adds.globals, was, local) refl,
)

pub adds_subcommand : {E : Type 0} (r : Result Command E) (old sub : Command) (x y : App)
    → IfOk r (λ new. AddsSubcommand old sub new) → IsCommand x old → IsCommand y sub
    → IfOk r (IsCommand (with_subcommand x y.top))
adds_subcommand r old sub x y adds is_x is_y =
    IfOk-weaker r (λ new. AddsSubcommand old sub new) (IsCommand (with_subcommand x y.top))
    (λ new added. with_one_below old sub new x y added is_x is_y) adds
