-- What is read of a command line in its simplest form.
use Rattle.std.proofs.Common.{◌≡◌, ◌<◌, ◌≤◌, ◌+◌, ◌^◌, ℕ, List, ◌∷◌, Result, MatchResult, length, arith}
use Rattle.clap.specs.Lexer.{usize_max}
use Rattle.clap.specs.Words.{Text, kind_of}
use Rattle.clap.specs.declared.error.Error.{Error}
use Rattle.clap.specs.declared.error.kind.ErrorKind.TheVariants.{OutOfMemory}
use Rattle.cli_words.specs.PlainLine.{PlainLine, SpellsLine, check, compare, deliver, explain, find, list, list_at, plain_words, prints, session, show, tree}
use Rattle.cli_words.specs.declared.line.Line.{Line}
use Rattle.cli_words.proofs.Outcomes.{IsReadAs, check_known, compare_known, deliver_known, explain_known, find_known, list_at_known, list_known, prints_known, session_known, show_known, tree_known}

-- fewer words than clap takes of one argument
fewer : (front : ℕ) (words more : List Text) → length words ≡ front + length more → 1 ≤ front → length words + 1 < 2 ^ 64 → length more < usize_max
fewer front words more are some few = omega (arith, are, some, few)

pub plain_known : (name : Text) (line : PlainLine) (r : Result Line Error) → length (plain_words line) + 1 < 2 ^ 64 → IsReadAs (name ∷ plain_words line) r
    → MatchResult r (SpellsLine line) (λ e. kind_of e ≡ OutOfMemory)
plain_known name (tree file) r few is = tree_known name file.text r file.plain is
plain_known name (show file) r few is = show_known name file.text r file.plain is
plain_known name (prints issuer file) r few is = prints_known name issuer.text file.text r issuer.plain file.plain is
plain_known name (deliver store verdicts issuer file) r few is =
    deliver_known name store.text verdicts.text issuer.text file.text r store.plain verdicts.plain issuer.plain file.plain is
plain_known name (check store verdicts query) r few is =
    check_known name store.text verdicts.text query.moment.text query.anchor.text query.file query.more r store.plain verdicts.plain query.moment.plain query.anchor.plain query.plain
    (fewer 10 (plain_words (check store verdicts query)) query.more (omega arith) (omega arith) few) is
plain_known name (compare store verdicts query other) r few is =
    compare_known name store.text verdicts.text query.moment.text query.anchor.text other.text query.file query.more r store.plain verdicts.plain query.moment.plain query.anchor.plain other.plain query.plain
    (fewer 12 (plain_words (compare store verdicts query other)) query.more (omega arith) (omega arith) few) is
plain_known name (find store verdicts moment anchor file) r few is =
    find_known name store.text verdicts.text moment.text anchor.text file.text r store.plain verdicts.plain moment.plain anchor.plain file.plain is
plain_known name (explain word) r few is = explain_known name word.text r word.plain is
plain_known name (session store) r few is = session_known name store.text r store.plain is
plain_known name (list store) r few is = list_known name store.text r store.plain is
plain_known name (list_at store moment) r few is = list_at_known name store.text moment.text r store.plain moment.plain is
