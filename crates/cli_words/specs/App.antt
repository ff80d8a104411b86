-- The command line of the program, in clap's terms.
use Rattle.std.specs.Prelude.{◌≡◌, IfOk, Some, true, false, codes}
use Rattle.clap.specs.Lexer.{usize_max}
use Rattle.clap.specs.declared.builder.action.ArgAction.TheVariants.{Append, SetTrue}
use Rattle.clap.specs.Words.{App, Rule, Text, app_of, new_app, new_rule, rule_of, with_rule, with_subcommand}
use Rattle.clap.specs.declared.builder.arg.Arg.{Arg}
use Rattle.clap.specs.declared.builder.command.Command.{Command}
use Rattle.clap.specs.declared.builder.command.Command.TheViews.{out-Command as fields_of}
use Rattle.cli_words.specs.declared.building.Building.{Building}

-- this is what clap reads of the argument, which is not for subcommands too
abbrev pub HasRule : Rule → Arg → Type 0
HasRule rule arg = (rule_of arg ≡ rule) × (arg.global ≡ false)

-- and of the command, of which no argument is
abbrev pub IsCommand : App → Command → Type 0
IsCommand app command = (app_of command ≡ app) × ((fields_of command).has_globals ≡ false)

-- the command in the making is that, unless memory ran out
abbrev pub IsApp : App → Building → Type 0
IsApp app it = IfOk it.command (IsCommand app)

-- `--id VALUE`, which may be left out
abbrev pub optional_value : Text → Rule
optional_value id = record (new_rule id) { long = Some id; value_names = 1 }

-- `--id VALUE`, which has to be there
abbrev pub needed : Text → Rule
needed id = record (optional_value id) { required = true }

-- `--id VALUE`, which may be given several times, and may be left out
abbrev pub repeated : Text → Rule
repeated id = record (optional_value id) { action = Some Append }

-- `--id`, which may be left out
abbrev pub flag : Text → Rule
flag id = record (new_rule id) { long = Some id; action = Some SetTrue }

-- FILE
abbrev pub file_rule : Rule
file_rule = record (new_rule (codes "file")) { required = true; value_names = 1 }

-- `tree FILE`
abbrev pub tree_app : App
tree_app = with_rule (new_app (codes "tree")) file_rule

-- `--as KIND`, which may be left out
abbrev pub kind_rule : Rule
kind_rule = optional_value (codes "as")

-- `--all`, which may be left out
abbrev pub all_rule : Rule
all_rule = flag (codes "all")

-- `show [--as KIND] [--all] FILE`
abbrev pub show_app : App
show_app = with_rule (with_rule (with_rule (new_app (codes "show")) kind_rule) all_rule) file_rule

-- `--issuer ISSUER`, which has to be there
abbrev pub issuer_rule : Rule
issuer_rule = needed (codes "issuer")

-- `--parts`, which may be left out
abbrev pub parts_rule : Rule
parts_rule = flag (codes "parts")

-- `[--among FILE]..`
abbrev pub among_rule : Rule
among_rule = repeated (codes "among")

-- `prints --issuer ISSUER [--as KIND] [--parts] [--among FILE].. FILE`
abbrev pub prints_app : App
prints_app =
    with_rule (with_rule (with_rule (with_rule (with_rule (new_app (codes "prints")) issuer_rule) kind_rule)
    parts_rule) among_rule) file_rule

-- `--store STORE`, which has to be there
abbrev pub store_rule : Rule
store_rule = needed (codes "store")

-- `--verdicts VERDICTS`, which has to be there
abbrev pub verdicts_rule : Rule
verdicts_rule = needed (codes "verdicts")

-- a command over a store: with `--store STORE --verdicts VERDICTS`
abbrev pub storing : App → App
storing a = with_rule (with_rule a store_rule) verdicts_rule

-- `deliver --store STORE --verdicts VERDICTS --issuer ISSUER FILE`
abbrev pub deliver_app : App
deliver_app = with_rule (with_rule (storing (new_app (codes "deliver"))) issuer_rule) file_rule

-- `--at TIME`, which has to be there
abbrev pub moment_rule : Rule
moment_rule = needed (codes "at")

-- `--anchor ANCHOR`, which has to be there
abbrev pub anchor_rule : Rule
anchor_rule = needed (codes "anchor")

-- `--purpose OID`, which may be left out
abbrev pub purpose_rule : Rule
purpose_rule = optional_value (codes "purpose")

-- `FILE...`, at least one
abbrev pub certificates_rule : Rule
certificates_rule = record (new_rule (codes "file")) {
  required = true;
  range = Some (record { start_inclusive = 1; end_inclusive = usize_max });
  value_names = 1;
}

-- a command over a store, at a moment and under an anchor: with `--at TIME --anchor ANCHOR` too
abbrev pub anchored : App → App
anchored a = with_rule (with_rule (storing a) moment_rule) anchor_rule

-- what `check` and `compare` ask: with `[--purpose OID] FILE...` too
abbrev pub asking : App → App
asking a = with_rule (with_rule (anchored a) purpose_rule) certificates_rule

-- `--policy OID`, as often as there are policies
abbrev pub policy_rule : Rule
policy_rule = repeated (codes "policy")

-- `--require-policy`, `--inhibit-mapping` and `--inhibit-any-policy`, each of which may be left out
abbrev pub require_policy_rule : Rule
require_policy_rule = flag (codes "require-policy")

abbrev pub inhibit_mapping_rule : Rule
inhibit_mapping_rule = flag (codes "inhibit-mapping")

abbrev pub inhibit_any_policy_rule : Rule
inhibit_any_policy_rule = flag (codes "inhibit-any-policy")

-- what may be asked of policies: `[--policy OID].. [--require-policy] [--inhibit-mapping] [--inhibit-any-policy]`
abbrev pub asking_policies : App → App
asking_policies a =
    with_rule (with_rule (with_rule (with_rule a policy_rule) require_policy_rule) inhibit_mapping_rule)
    inhibit_any_policy_rule

-- `check`, with that
abbrev pub check_app : App
check_app = asking_policies (asking (new_app (codes "check")))

-- `--other STORE`, which has to be there
abbrev pub other_rule : Rule
other_rule = needed (codes "other")

-- `compare`, with the other store
abbrev pub compare_app : App
compare_app = with_rule (asking (new_app (codes "compare"))) other_rule

-- `--anchor FILE..`, at least once
abbrev pub anchors_rule : Rule
anchors_rule = record (repeated (codes "anchor")) { required = true }

-- `--name NAME`, which may be left out
abbrev pub name_rule : Rule
name_rule = optional_value (codes "name")

-- what `find` asks: `--at TIME --anchor FILE.. [--among FILE].. [--purpose OID] [--name NAME] FILE`
abbrev pub searching : App → App
searching a =
    with_rule (with_rule (with_rule (with_rule (with_rule (with_rule a moment_rule) anchors_rule) among_rule)
    purpose_rule) name_rule) file_rule

-- `find --store STORE --verdicts VERDICTS`, with that
abbrev pub find_app : App
find_app = searching (storing (new_app (codes "find")))

-- `WORD...`, which may be left out
abbrev pub topic_rule : Rule
topic_rule = record (new_rule (codes "topic")) {
  range = Some (record { start_inclusive = 1; end_inclusive = usize_max });
  value_names = 1;
}

-- `explain WORD...`
abbrev pub explain_app : App
explain_app = with_rule (new_app (codes "explain")) topic_rule

-- `--verdicts VERDICTS`, which may be left out
abbrev pub known_rule : Rule
known_rule = optional_value (codes "verdicts")

-- `session --store STORE [--verdicts VERDICTS]`
abbrev pub session_app : App
session_app = with_rule (with_rule (new_app (codes "session")) store_rule) known_rule

-- `--at TIME`, which may be left out
abbrev pub known_moment_rule : Rule
known_moment_rule = optional_value (codes "at")

-- `list --store STORE [--at TIME]`
abbrev pub list_app : App
list_app = with_rule (with_rule (new_app (codes "list")) store_rule) known_moment_rule

-- a command that wants one of its subcommands
abbrev pub wanting_subcommand : App → App
wanting_subcommand a = record a { top = record a.top { subcommand_required = true } }

-- the program
abbrev pub program : App
program =
    with_subcommand (with_subcommand (with_subcommand (with_subcommand (with_subcommand (with_subcommand
    (with_subcommand (with_subcommand (with_subcommand (with_subcommand
    (wanting_subcommand (new_app (codes "x509check")))
    tree_app.top) show_app.top) prints_app.top) deliver_app.top) check_app.top) compare_app.top)
    find_app.top) explain_app.top) session_app.top) list_app.top
