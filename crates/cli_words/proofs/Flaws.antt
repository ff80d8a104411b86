-- What is wrong with the subcommand that was entered.
use Rattle.std.proofs.Common.{◌≡◌, ◌∙◌, List, [], Option, Some, Result, Ok, Err, IfErr, inl, sym, subst, codes, refl, if◌then◌else◌}
use Rattle.std.specs.Str.{bytes_eq}
use Rattle.clap.specs.Words.{Row, Text}
use Rattle.cli_words.specs.CommandLine.{EnteredWithout, HasFlaw, HasNoLine, IsFlawOfCheck, IsFlawOfQuestion, IsFlawOfShow, IsLack, LacksOneOf, of_check, of_compare, of_deliver, of_file, of_find, of_prints, of_store}
use Rattle.cli_words.specs.declared.line.Line.{Line}
use Rattle.cli_words.specs.declared.line.Flaw.{Flaw}
use Rattle.cli_words.specs.declared.line.Flaw.TheVariants.{ArgumentMissing, OtherKind, PolicyMissing, NoMemory}

-- what the subcommand with this name has to have
abbrev pub needs : Text → List Text
needs name =
    if bytes_eq name (codes "tree") then of_file
    else (if bytes_eq name (codes "show") then of_file
    else (if bytes_eq name (codes "prints") then of_prints
    else (if bytes_eq name (codes "deliver") then of_deliver
    else (if bytes_eq name (codes "check") then of_check
    else (if bytes_eq name (codes "compare") then of_compare
    else (if bytes_eq name (codes "find") then of_find
    else (if bytes_eq name (codes "session") then of_store
    else (if bytes_eq name (codes "list") then of_store else []))))))))

same_rows : (p : Text × List Row) (name : Text) (rows : List Row) → Some p ≡ Some (name, rows) → p ≡ (name, rows)
same_rows p name rows e = cc

-- what was entered lacks something, whatever its name
lacks : (entered : Option (Text × List Row)) (name : Text) (rows : List Row) → entered ≡ Some (name, rows) → LacksOneOf (needs name) rows
    → (wanted : Text) → EnteredWithout entered wanted (needs wanted)
lacks entered name rows is lack wanted = λ found also.
    subst (λ (p : Text × List Row). LacksOneOf (needs p.0) p.1) (same_rows (name, rows) wanted found (sym is ∙ also)) lack

pub no_line : (entered : Option (Text × List Row)) (name : Text) (rows : List Row) → entered ≡ Some (name, rows) → LacksOneOf (needs name) rows → HasNoLine entered
no_line entered name rows is lack =
    record {
      tree = lacks entered name rows is lack (codes "tree");
      show = lacks entered name rows is lack (codes "show");
      prints = lacks entered name rows is lack (codes "prints");
      deliver = lacks entered name rows is lack (codes "deliver");
      check = lacks entered name rows is lack (codes "check");
      compare = lacks entered name rows is lack (codes "compare");
      find = lacks entered name rows is lack (codes "find");
      explain = lacks entered name rows is lack (codes "explain");
      session = lacks entered name rows is lack (codes "session");
      list = lacks entered name rows is lack (codes "list");
    }

-- a flaw of the line is one of the subcommand
pub lack_flaw : (r : Result Line Flaw) (entered : Option (Text × List Row)) (name : Text) (rows : List Row)
    → entered ≡ Some (name, rows) → IfErr r (IsLack (needs name) rows) → IfErr r (HasFlaw entered)
lack_flaw (Ok line) entered name rows is flaw = tt
lack_flaw (Err ArgumentMissing) entered name rows is flaw = no_line entered name rows is flaw
lack_flaw (Err OtherKind) entered name rows is flaw = absurd flaw
lack_flaw (Err PolicyMissing) entered name rows is flaw = absurd flaw
lack_flaw (Err NoMemory) entered name rows is flaw = tt

pub show_flaw : (r : Result Line Flaw) (entered : Option (Text × List Row)) (rows : List Row)
    → entered ≡ Some (codes "show", rows) → IfErr r (IsFlawOfShow rows) → IfErr r (HasFlaw entered)
show_flaw (Ok line) entered rows is flaw = tt
show_flaw (Err ArgumentMissing) entered rows is flaw = no_line entered (codes "show") rows is flaw
show_flaw (Err OtherKind) entered rows is flaw = ((codes "show", rows), is, inl (refl, flaw))
show_flaw (Err PolicyMissing) entered rows is flaw = absurd flaw
show_flaw (Err NoMemory) entered rows is flaw = tt

pub question_flaw : (r : Result Line Flaw) (entered : Option (Text × List Row)) (name : Text) (rows : List Row)
    → entered ≡ Some (name, rows) → IfErr r (IsFlawOfQuestion (needs name) rows) → IfErr r (HasFlaw entered)
question_flaw (Ok line) entered name rows is flaw = tt
question_flaw (Err ArgumentMissing) entered name rows is flaw = no_line entered name rows is flaw
question_flaw (Err OtherKind) entered name rows is flaw = absurd flaw
question_flaw (Err PolicyMissing) entered name rows is flaw = absurd flaw
question_flaw (Err NoMemory) entered name rows is flaw = tt

pub check_flaw : (r : Result Line Flaw) (entered : Option (Text × List Row)) (rows : List Row)
    → entered ≡ Some (codes "check", rows) → IfErr r (IsFlawOfCheck rows) → IfErr r (HasFlaw entered)
check_flaw (Ok line) entered rows is flaw = tt
check_flaw (Err ArgumentMissing) entered rows is flaw = no_line entered (codes "check") rows is flaw
check_flaw (Err OtherKind) entered rows is flaw = absurd flaw
check_flaw (Err PolicyMissing) entered rows is flaw = (rows, is, flaw)
check_flaw (Err NoMemory) entered rows is flaw = tt
