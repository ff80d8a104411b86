use Rattle.std.proofs.Common.{◌≡◌, Some, codes, rules}
use Rattle.clap.specs.Words.{found_of, rows_of, subcommand_rows_of}
use Rattle.cli_words.proofs.Flaws.{check_flaw, lack_flaw, question_flaw, show_flaw}
use Rattle.cli_words.proofs.line.line_of.Goals as goal

-- (The goals of `prints` are left to the search, since an edit of mistakes/ puts another call there.)
pub returns-in-tree-clause-flaw : goal.returns-in-tree-clause-flaw
returns-in-tree-clause-flaw c =
    let is : subcommand_rows_of c.args.matches.now ≡ Some (codes "tree", rows_of (found_of c.in-Some.inner.now)) = search rules in
    lack_flaw c.tree_line.result _ (codes "tree") (rows_of (found_of c.in-Some.inner.now)) is c.tree_line.ensures.flaw

pub returns-in-show-clause-flaw : goal.returns-in-show-clause-flaw
returns-in-show-clause-flaw c =
    let is : subcommand_rows_of c.args.matches.now ≡ Some (codes "show", rows_of (found_of c.in-Some.inner.now)) = search rules in
    show_flaw c.show_line.result _ (rows_of (found_of c.in-Some.inner.now)) is c.show_line.ensures.flaw

pub returns-in-deliver-clause-flaw : goal.returns-in-deliver-clause-flaw
returns-in-deliver-clause-flaw c =
    let is : subcommand_rows_of c.args.matches.now ≡ Some (codes "deliver", rows_of (found_of c.in-Some.inner.now)) = search rules in
    lack_flaw c.deliver_line.result _ (codes "deliver") (rows_of (found_of c.in-Some.inner.now)) is c.deliver_line.ensures.flaw

pub returns-in-check-clause-flaw : goal.returns-in-check-clause-flaw
returns-in-check-clause-flaw c =
    let is : subcommand_rows_of c.args.matches.now ≡ Some (codes "check", rows_of (found_of c.in-Some.inner.now)) = search rules in
    check_flaw c.check_line.result _ (rows_of (found_of c.in-Some.inner.now)) is c.check_line.ensures.flaw

pub returns-in-compare-clause-flaw : goal.returns-in-compare-clause-flaw
returns-in-compare-clause-flaw c =
    let is : subcommand_rows_of c.args.matches.now ≡ Some (codes "compare", rows_of (found_of c.in-Some.inner.now)) = search rules in
    question_flaw c.compare_line.result _ (codes "compare") (rows_of (found_of c.in-Some.inner.now)) is c.compare_line.ensures.flaw

pub returns-in-find-clause-flaw : goal.returns-in-find-clause-flaw
returns-in-find-clause-flaw c =
    let is : subcommand_rows_of c.args.matches.now ≡ Some (codes "find", rows_of (found_of c.in-Some.inner.now)) = search rules in
    question_flaw c.find_line.result _ (codes "find") (rows_of (found_of c.in-Some.inner.now)) is c.find_line.ensures.flaw

pub returns-in-session-clause-flaw : goal.returns-in-session-clause-flaw
returns-in-session-clause-flaw c =
    let is : subcommand_rows_of c.args.matches.now ≡ Some (codes "session", rows_of (found_of c.in-Some.inner.now)) = search rules in
    lack_flaw c.session_line.result _ (codes "session") (rows_of (found_of c.in-Some.inner.now)) is c.session_line.ensures.flaw

pub returns-in-list-clause-flaw : goal.returns-in-list-clause-flaw
returns-in-list-clause-flaw c =
    let is : subcommand_rows_of c.args.matches.now ≡ Some (codes "list", rows_of (found_of c.in-Some.inner.now)) = search rules in
    lack_flaw c.list_line.result _ (codes "list") (rows_of (found_of c.in-Some.inner.now)) is c.list_line.ensures.flaw
