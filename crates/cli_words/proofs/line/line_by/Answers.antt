use Rattle.std.proofs.Common.{◌≡◌, ◌∙◌, ◌⊎◌, IfOk, IfErr, Option, List, sym, ap, subst, map}
use Rattle.std.proofs.lemmas.Result.{IfOk-weaker}
use Rattle.clap.specs.Words.{App, Row, Text, is_simple, is_simple_and_free, fault_of, kind_of, subcommand_of}
use Rattle.clap.specs.Kinds.{HasKind}
use Rattle.clap.specs.declared.error.kind.ErrorKind.TheVariants.{OutOfMemory}
use Rattle.cli_words.specs.App.{program}
use Rattle.cli_words.specs.CommandLine.{AreRefusedByCommand, IsLineOf, IsRefusedWith, ReadsLine}
use Rattle.cli_words.proofs.TreeWords.{program_is_simple, program_is_free}
use Rattle.cli_words.proofs.Outcomes.{errs_as, or_refused, refused_with}
use Rattle.cli_words.proofs.line.line_by.Goals as goal

pub returns-clause-reads : goal.returns-clause-reads
returns-clause-reads c =
    let app = c.requires in
    let words = map (λ s. s.now) c.args.words.now in
    let has = c.in_ok-matches.ensures.ok.2 (ap is_simple app ∙ program_is_simple) in
    let none = c.in_ok-matches.ensures.kinds (ap is_simple_and_free app ∙ program_is_free) in
    let entered = has.1 ∙ ap (λ (a : App). subcommand_of a words) app in
    IfOk-weaker c.line_or_error.result (IsLineOf (subcommand_of program words)) (ReadsLine words)
    (λ read line. (ap (λ (a : App). fault_of a words) (sym app) ∙ none, line))
    (subst (λ (rows : Option (Text × List Row)). IfOk c.line_or_error.result (IsLineOf rows)) entered c.line_or_error.ensures.line)

pub returns-clause-refuses : goal.returns-clause-refuses
returns-clause-refuses c =
    let app = c.requires in
    let words = map (λ s. s.now) c.args.words.now in
    let has = c.in_ok-matches.ensures.ok.2 (ap is_simple app ∙ program_is_simple) in
    let entered = has.1 ∙ ap (λ (a : App). subcommand_of a words) app in
    or_refused words c.line_or_error.result
    (subst (λ (rows : Option (Text × List Row)). IfErr c.line_or_error.result (λ e. (kind_of e ≡ OutOfMemory) ⊎ IsRefusedWith rows (kind_of e))) entered c.line_or_error.ensures.error)

pub returns-in_err-matches-clause-refuses : goal.returns-in_err-matches-clause-refuses
returns-in_err-matches-clause-refuses c =
    let app = c.requires in
    let words = map (λ s. s.now) c.args.words.now in
    let kinds = c.in_err-matches.ensures.kinds (ap is_simple_and_free app ∙ program_is_free) in
    let known = subst (λ (a : App). HasKind (fault_of a words) c.in_err-matches.field-0.0) app kinds in
    errs_as (λ e. (kind_of e ≡ OutOfMemory) ⊎ AreRefusedByCommand words (kind_of e)) _ c.in_err-matches.field-0.0
    (refused_with words c.in_err-matches.field-0.0 known)
    c.from_residual.ensures.1
