-- What follows of a line, or of an error, from what clap's definition makes of the words.
use Rattle.std.proofs.Common.{◌≡◌, ◌∙◌, ◌⊎◌, List, [], ◌∷◌, Option, Some, None, Result, Ok, Err, IfErr, IfOk, MatchResult, IsErrAnd, option_map, sym, ap, subst, inl, inr, codes, false, Bor, length, refl, ◌<◌}
use Rattle.std.specs.Str.{bytes_eq}
use Rattle.std.proofs.lemmas.Slice.Eq.{bytes_eq-Decides}
use Rattle.clap.specs.Words.{Row, Text, all_of, fault_of, first_of, kind_of, subcommand_of}
use Rattle.cli_words.specs.App.{program}
use Rattle.clap.specs.Kinds.{Kinds, HasKind, IsAmong}
use Rattle.clap.specs.declared.error.Error.{Error}
use Rattle.clap.specs.declared.error.kind.ErrorKind.TheVariants.{OutOfMemory}
use Rattle.cli_words.specs.CommandLine.{Ask, AskToFind, AreRefusedByCommand, HasFlaw, HasNoLine, HasNoPolicy, HasOtherKind, IsErrorOf, IsLine, IsLineOf, IsRefusedWith, LacksOneOf, ReadsLine, TakesOtherKind, has_policy_flag, is_set, kind_in_rows, kind_or_certificate, of_check, of_compare, of_deliver, of_file, of_find, of_prints, of_store, words_in}
use Rattle.cli_words.specs.PlainLine.{IsCheck, IsCompare, IsDeliver, IsExplain, IsFind, IsList, IsListAt, IsPlainWord, IsPrints, IsSession, IsShow, IsTree, search_texts}
use Rattle.cli_words.specs.declared.line.Kind.TheVariants.{Certificate}
use Rattle.cli_words.specs.declared.line.Line.{Line}
use Rattle.cli_words.specs.declared.line.Line.TheVariants.{Tree, Show, Prints, SearchPrints, Deliver, Check, CheckWithPolicies, Compare, Find, Explain, Session, List as Lists}
use Rattle.cli_words.proofs.Turns.{Finds}
use Rattle.cli_words.proofs.TreeWords.{entered as entered_tree, no_fault as no_fault_of_tree}
use Rattle.cli_words.proofs.ShowWords.{entered as entered_show, no_fault as no_fault_of_show}
use Rattle.cli_words.proofs.PrintsWords.{entered as entered_prints, no_fault as no_fault_of_prints, prints_words}
use Rattle.cli_words.proofs.DeliverWords.{deliver_words, entered as entered_deliver, no_fault as no_fault_of_deliver}
use Rattle.cli_words.proofs.CheckWords.{check_words, entered as entered_check, no_fault as no_fault_of_check}
use Rattle.cli_words.proofs.CompareWords.{compare_words, entered as entered_compare, no_fault as no_fault_of_compare}
use Rattle.cli_words.proofs.FindWords.{entered as entered_find, find_words, no_fault as no_fault_of_find}
use Rattle.cli_words.proofs.ExplainWords.{entered as entered_explain, no_fault as no_fault_of_explain, rows as rows_of_explain, topic_found}
use Rattle.cli_words.proofs.SessionWords.{entered as entered_session, no_fault as no_fault_of_session, session_words}
use Rattle.cli_words.proofs.ListWords.{entered as entered_list, entered_at as entered_list_at, list_at_words, list_words, no_fault as no_fault_of_list, no_fault_at as no_fault_of_list_at}
use Rattle.cli_words.specs.declared.line.Flaw.{Flaw}
use Rattle.cli_words.specs.declared.line.Flaw.TheVariants.{ArgumentMissing, OtherKind, PolicyMissing, NoMemory}
use Rattle.cli_words.specs.QueryTexts.{QueryTexts}
use Rattle.cli_words.specs.SearchTexts.{SearchTexts}
use Rattle.clap.specs.declared.error.kind.ErrorKind.{ErrorKind}
use Rattle.clap.specs.Lexer.{usize_max}
use Rattle.std.specs.List.{All}

-- an error that comes through `?` unchanged
pub errs_as : {T : Type 0} (P : Error → Type 0) (r : Result T Error) (x : Error) → P x → IsErrAnd r (λ e. e ≡ x) → IfErr r P
errs_as P (Ok v) x h b = absurd b
errs_as P (Err e) x h b = subst P (sym b) h

-- what clap's definition gives is a refusal
pub refused_with : (words : List Text) (e : Error) → HasKind (fault_of program words) e → (kind_of e ≡ OutOfMemory) ⊎ AreRefusedByCommand words (kind_of e)
refused_with words e h = elim h [ inl memory ↦ inl memory | inr among ↦ inr (inl among) ]

-- and so is a flaw of the subcommand
pub refused : (entered : Option (Text × List Row)) (flaw : Flaw) (kind : ErrorKind) → HasFlaw entered flaw → IsErrorOf flaw kind → IsRefusedWith entered kind
refused entered ArgumentMissing kind has is = inl (is, has)
refused entered OtherKind kind has is = inr (inl (is, has))
refused entered PolicyMissing kind has is = inr (inr (is, has))
refused entered NoMemory kind has is = absurd is

pub or_refused : (words : List Text) (r : Result Line Error)
    → IfErr r (λ e. (kind_of e ≡ OutOfMemory) ⊎ IsRefusedWith (subcommand_of program words) (kind_of e))
    → IfErr r (λ e. (kind_of e ≡ OutOfMemory) ⊎ AreRefusedByCommand words (kind_of e))
or_refused words (Ok line) h = tt
or_refused words (Err e) h = elim h [ inl memory ↦ inl memory | inr is ↦ inr (inr is) ]

-- words that break no rule and enter a subcommand with all that it has to have are a line, memory aside
pub known : (P : Line → Type 0) (words : List Text) (r : Result Line Error) → fault_of program words ≡ []
    → (HasNoLine (subcommand_of program words) → ⊥) → (HasOtherKind (subcommand_of program words) → ⊥) → (HasNoPolicy (subcommand_of program words) → ⊥)
    → ((line : Line) → IsLineOf (subcommand_of program words) line → P line)
    → IfOk r (ReadsLine words) → IfErr r (λ e. (kind_of e ≡ OutOfMemory) ⊎ AreRefusedByCommand words (kind_of e))
    → MatchResult r P (λ e. kind_of e ≡ OutOfMemory)
known P words (Ok line) well there kind policy means reads refuses = means line reads.1
known P words (Err e) well there kind policy means reads refuses =
    elim refuses [
      | inl memory ↦ memory
      | inr (inl among) ↦ absurd (subst (λ (kinds : Kinds). IsAmong (kind_of e) kinds) well among)
      | inr (inr (inl missing)) ↦ absurd (there missing.1)
      | inr (inr (inr (inl other))) ↦ absurd (kind other.1)
      | inr (inr (inr (inr flag))) ↦ absurd (policy flag.1)
    ]

-- what is said of the line that the words are, or of the error
pub record IsReadAs (words : List Text) (r : Result Line Error) : Type 0 where
  pub reads : IfOk r (ReadsLine words)
  pub refuses : IfErr r (λ e. (kind_of e ≡ OutOfMemory) ⊎ AreRefusedByCommand words (kind_of e))

-- the line is one of the rows that were entered
same_rows : (p : Text × List Row) (name : Text) (rows : List Row) → Some p ≡ Some (name, rows) → p ≡ (name, rows)
same_rows p name rows e = cc

line_in : (entered : Option (Text × List Row)) (name : Text) (rows : List Row) (line : Line) → entered ≡ Some (name, rows) → IsLineOf entered line → IsLine (name, rows) line
line_in entered name rows line is (p, here, says) =
    subst (λ (q : Text × List Row). IsLine q line) (same_rows p name rows (sym here ∙ is)) says

-- and not of another subcommand
abbrev name_of : Line → Text
name_of (Tree file) = codes "tree"
name_of (Show kind with_details file) = codes "show"
name_of (Prints issuer kind with_parts file) = codes "prints"
name_of (SearchPrints issuers among with_parts file) = codes "prints"
name_of (Deliver store verdicts issuer file) = codes "deliver"
name_of (Check store verdicts query) = codes "check"
name_of (CheckWithPolicies store verdicts query policies) = codes "check"
name_of (Compare store other verdicts query) = codes "compare"
name_of (Find store verdicts search) = codes "find"
name_of (Explain words) = codes "explain"
name_of (Session store verdicts) = codes "session"
name_of (Lists store moment) = codes "list"

named : (p : Text × List Row) (line : Line) → IsLine p line → p.0 ≡ name_of line
named (name, rows) (Tree file) says = says.0
named (name, rows) line says = says.0

differ : (a b : Text) → bytes_eq a b ≡ false → a ≡ b → ⊥
differ a b unlike same = let both = sym unlike ∙ (bytes_eq-Decides a b).1 same in cc

other_line : (entered : Option (Text × List Row)) (name : Text) (rows : List Row) (line : Line) → bytes_eq name (name_of line) ≡ false
    → entered ≡ Some (name, rows) → IsLineOf entered line → ⊥
other_line entered name rows line unlike is says =
    differ name (name_of line) unlike (named (name, rows) line (line_in entered name rows line is says))

-- what is found is found once
same_value : {A : Type 0} (found : Option A) (value given : A) → found ≡ Some value → found ≡ Some given → given ≡ value
same_value found value given there gives = let both = sym there ∙ gives in cc

-- arguments that are there are not missing
abbrev AreGiven : List Text → List Row → Type 0
AreGiven [] rows = Unit {0}
AreGiven (id ∷ ids) rows = ((text : Text) × (first_of id rows ≡ Some text)) × AreGiven ids rows

not_missing : {A : Type 0} (found : Option A) (value : A) → found ≡ Some value → found ≡ None → ⊥
not_missing found value there missing = let both = sym there ∙ missing in cc

not_lacking : (ids : List Text) (rows : List Row) → AreGiven ids rows → LacksOneOf ids rows → ⊥
not_lacking [] rows given lack = lack
not_lacking (id ∷ ids) rows given lack =
    elim lack [ inl missing ↦ not_missing (first_of id rows) given.0.0 given.0.1 missing | inr more ↦ not_lacking ids rows given.1 more ]

-- a subcommand that takes no kind has no other kind
other_kind : (entered : Option (Text × List Row)) (name : Text) (rows : List Row) → entered ≡ Some (name, rows) → HasOtherKind entered → TakesOtherKind name rows
other_kind entered name rows is (p, here, takes) =
    subst (λ (q : Text × List Row). TakesOtherKind q.0 q.1) (same_rows p name rows (sym here ∙ is)) takes

no_kind : (entered : Option (Text × List Row)) (name : Text) (rows : List Row) → entered ≡ Some (name, rows)
    → bytes_eq name (codes "show") ≡ false → bytes_eq name (codes "prints") ≡ false → HasOtherKind entered → ⊥
no_kind entered name rows is no_show no_prints other =
    elim (other_kind entered name rows is other) [
      | inl show ↦ differ name (codes "show") no_show show.0
      | inr prints ↦ differ name (codes "prints") no_prints prints.0
    ]

-- and one whose kind is left out has that of a certificate
certificate_kind : (rows : List Row) → first_of (codes "as") rows ≡ None → kind_in_rows rows ≡ Some Certificate
certificate_kind rows none = ap kind_or_certificate none

no_other_kind : (entered : Option (Text × List Row)) (name : Text) (rows : List Row) → entered ≡ Some (name, rows) → first_of (codes "as") rows ≡ None → HasOtherKind entered → ⊥
no_other_kind entered name rows is none other =
    let certificate = certificate_kind rows none in
    elim (other_kind entered name rows is other) [
      | inl show ↦ not_missing (kind_in_rows rows) Certificate certificate show.1
      | inr (p, inl missing) ↦ not_missing (kind_in_rows rows) Certificate certificate missing
      | inr (p, inr searches) ↦ searches.1 certificate
    ]

-- only `check` asks of policies
no_policy : (entered : Option (Text × List Row)) (name : Text) (rows : List Row) → entered ≡ Some (name, rows) → bytes_eq name (codes "check") ≡ false → HasNoPolicy entered → ⊥
no_policy entered name rows is unlike (others, here, lacks) = differ name (codes "check") unlike (ap (λ (p : Text × List Row). p.0) (same_rows (name, rows) (codes "check") others (sym is ∙ here)))

-- and it does not where no option of policies was given
no_flag : (rows : List Row) → Finds ((codes "require-policy", Some (codes "false")) ∷ (codes "inhibit-mapping", Some (codes "false")) ∷ (codes "inhibit-any-policy", Some (codes "false")) ∷ []) rows
    → has_policy_flag rows ≡ false
no_flag rows finds = rw (finds.0, finds.1.0, finds.1.1.0) refl

flagged : (entered : Option (Text × List Row)) (rows : List Row) → entered ≡ Some (codes "check", rows) → has_policy_flag rows ≡ false → HasNoPolicy entered → ⊥
flagged entered rows is none (others, here, lacks) =
    let same : others ≡ rows = ap (λ (p : Text × List Row). p.1) (same_rows (codes "check", others) (codes "check") rows (sym here ∙ is)) in
    let both = sym lacks.flags ∙ ap has_policy_flag same ∙ none in
    let wrong : ⊥ = cc in wrong

-- `tree`
tree_means : (entered : Option (Text × List Row)) (rows : List Row) (file : Text) → first_of (codes "file") rows ≡ Some file
    → (line : Line) → entered ≡ Some (codes "tree", rows) → IsLineOf entered line → IsTree file line
tree_means entered rows file found (Tree given) is line =
    same_value (first_of (codes "file") rows) file given.now found (line_in entered (codes "tree") rows (Tree given) is line).1
tree_means entered rows file found other is line = absurd (other_line entered (codes "tree") rows other refl is line)

pub tree_known : (name file : Text) (r : Result Line Error) → IsPlainWord file → IsReadAs (name ∷ codes "tree" ∷ file ∷ []) r → MatchResult r (IsTree file) (λ e. kind_of e ≡ OutOfMemory)
tree_known name file r plain is =
    let enters = entered_tree name file plain in
    known (IsTree file) (name ∷ codes "tree" ∷ file ∷ []) r (no_fault_of_tree name file plain)
    (λ none. not_lacking of_file enters.rows ((file, enters.finds.0), tt) (none.tree enters.rows enters.is))
    (no_kind _ (codes "tree") enters.rows enters.is refl refl)
    (no_policy _ (codes "tree") enters.rows enters.is refl)
    (λ line. tree_means _ enters.rows file enters.finds.0 line enters.is) is.reads is.refuses

-- `show`
show_means : (entered : Option (Text × List Row)) (rows : List Row) (file : Text)
    → Finds ((codes "as", None) ∷ (codes "file", Some file) ∷ (codes "all", Some (codes "false")) ∷ []) rows
    → (line : Line) → entered ≡ Some (codes "show", rows) → IsLineOf entered line → IsShow file line
show_means entered rows file finds (Show kind details given) is line =
    let says = line_in entered (codes "show") rows (Show kind details given) is line in
    let certificate = sym (certificate_kind rows finds.0) ∙ says.1 in
    (cc, sym says.2 ∙ ap is_set finds.1.1.0, same_value (first_of (codes "file") rows) file given.now finds.1.0 says.3)
show_means entered rows file finds other is line = absurd (other_line entered (codes "show") rows other refl is line)

pub show_known : (name file : Text) (r : Result Line Error) → IsPlainWord file → IsReadAs (name ∷ codes "show" ∷ file ∷ []) r → MatchResult r (IsShow file) (λ e. kind_of e ≡ OutOfMemory)
show_known name file r plain is =
    let enters = entered_show name file plain in
    known (IsShow file) (name ∷ codes "show" ∷ file ∷ []) r (no_fault_of_show name file plain)
    (λ none. not_lacking of_file enters.rows ((file, enters.finds.1.0), tt) (none.show enters.rows enters.is))
    (no_other_kind _ (codes "show") enters.rows enters.is enters.finds.0)
    (no_policy _ (codes "show") enters.rows enters.is refl)
    (λ line. show_means _ enters.rows file enters.finds line enters.is) is.reads is.refuses

-- `prints`
prints_means : (entered : Option (Text × List Row)) (rows : List Row) (issuer file : Text)
    → Finds ((codes "as", None) ∷ (codes "issuer", Some issuer) ∷ (codes "file", Some file) ∷ (codes "parts", Some (codes "false")) ∷ []) rows
    → all_of (codes "among") rows ≡ None
    → (line : Line) → entered ≡ Some (codes "prints", rows) → IsLineOf entered line → IsPrints issuer file line
prints_means entered rows issuer file finds alone (Prints signer kind parts given) is line =
    let says = line_in entered (codes "prints") rows (Prints signer kind parts given) is line in
    let certificate = sym (certificate_kind rows finds.0) ∙ says.2 in
    (same_value (first_of (codes "issuer") rows) issuer signer.now finds.1.0 says.1, cc, sym says.3 ∙ ap is_set finds.1.1.1.0, same_value (first_of (codes "file") rows) file given.now finds.1.1.0 says.4)
prints_means entered rows issuer file finds alone (SearchPrints signers among parts given) is line =
    absurd (not_missing (all_of (codes "among") rows) _ (line_in entered (codes "prints") rows (SearchPrints signers among parts given) is line).5 alone)
prints_means entered rows issuer file finds alone other is line = absurd (other_line entered (codes "prints") rows other refl is line)

pub prints_known : (name issuer file : Text) (r : Result Line Error) → IsPlainWord issuer → IsPlainWord file → IsReadAs (name ∷ codes "prints" ∷ prints_words issuer file) r
    → MatchResult r (IsPrints issuer file) (λ e. kind_of e ≡ OutOfMemory)
prints_known name issuer file r plain plain' is =
    let enters = entered_prints name issuer file plain plain' in
    known (IsPrints issuer file) (name ∷ codes "prints" ∷ prints_words issuer file) r (no_fault_of_prints name issuer file plain plain')
    (λ none. not_lacking of_prints enters.rows ((issuer, enters.finds.1.0), ((file, enters.finds.1.1.0), tt)) (none.prints enters.rows enters.is))
    (no_other_kind _ (codes "prints") enters.rows enters.is enters.finds.0)
    (no_policy _ (codes "prints") enters.rows enters.is refl)
    (λ line. prints_means _ enters.rows issuer file enters.finds enters.among line enters.is) is.reads is.refuses

-- `deliver`
deliver_means : (entered : Option (Text × List Row)) (rows : List Row) (store verdicts issuer file : Text)
    → Finds ((codes "store", Some store) ∷ (codes "verdicts", Some verdicts) ∷ (codes "issuer", Some issuer) ∷ (codes "file", Some file) ∷ []) rows
    → (line : Line) → entered ≡ Some (codes "deliver", rows) → IsLineOf entered line → IsDeliver store verdicts issuer file line
deliver_means entered rows store verdicts issuer file finds (Deliver path prints signer given) is line =
    let says = line_in entered (codes "deliver") rows (Deliver path prints signer given) is line in (
      same_value (first_of (codes "store") rows) store path.now finds.0 says.1,
      same_value (first_of (codes "verdicts") rows) verdicts prints.now finds.1.0 says.2,
      same_value (first_of (codes "issuer") rows) issuer signer.now finds.1.1.0 says.3,
      same_value (first_of (codes "file") rows) file given.now finds.1.1.1.0 says.4,
    )
deliver_means entered rows store verdicts issuer file finds other is line = absurd (other_line entered (codes "deliver") rows other refl is line)

pub deliver_known : (name store verdicts issuer file : Text) (r : Result Line Error) → IsPlainWord store → IsPlainWord verdicts → IsPlainWord issuer → IsPlainWord file
    → IsReadAs (name ∷ codes "deliver" ∷ deliver_words store verdicts issuer file) r → MatchResult r (IsDeliver store verdicts issuer file) (λ e. kind_of e ≡ OutOfMemory)
deliver_known name store verdicts issuer file r plain plain' plain'' plain''' is =
    let enters = entered_deliver name store verdicts issuer file plain plain' plain'' plain''' in
    known (IsDeliver store verdicts issuer file) (name ∷ codes "deliver" ∷ deliver_words store verdicts issuer file) r
    (no_fault_of_deliver name store verdicts issuer file plain plain' plain'' plain''')
    (λ none. not_lacking of_deliver enters.rows ((store, enters.finds.0), ((verdicts, enters.finds.1.0), ((issuer, enters.finds.1.1.0), ((file, enters.finds.1.1.1.0), tt)))) (none.deliver enters.rows enters.is))
    (no_kind _ (codes "deliver") enters.rows enters.is refl refl)
    (no_policy _ (codes "deliver") enters.rows enters.is refl)
    (λ line. deliver_means _ enters.rows store verdicts issuer file enters.finds line enters.is) is.reads is.refuses

no_purpose : (given : Option (Bor Text)) → option_map (λ s. s.now) given ≡ None → given ≡ None
no_purpose None none = refl
no_purpose (Some text) none = cc

-- the same rows give the same texts
same_texts : (one other : QueryTexts) → one.moment ≡ other.moment → one.purpose ≡ other.purpose → one.anchor ≡ other.anchor → one.files ≡ other.files → one ≡ other
same_texts one other moment purpose anchor files =
    ap (λ (text : Text). record one { moment = text }) moment
    ∙ ap (λ (text : Option Text). record one { moment = other.moment; purpose = text }) purpose
    ∙ ap (λ (text : Text). record other { anchor = text; files = one.files }) anchor
    ∙ ap (λ (texts : List Text). record other { files = texts }) files

asks : (rows : List Row) (texts found : QueryTexts) → Ask rows found → Ask rows texts → texts ≡ found
asks rows texts found there ask =
    same_texts texts found
    (same_value (first_of (codes "at") rows) found.moment texts.moment there.moment ask.moment)
    (sym ask.purpose ∙ there.purpose)
    (same_value (first_of (codes "anchor") rows) found.anchor texts.anchor there.anchor ask.anchor)
    (same_value (all_of (codes "file") rows) found.files texts.files there.files ask.files)

-- the rows give these words of `check`
record IsFound (rows : List Row) (store verdicts : Text) (texts : QueryTexts) : Type 0 where
  pub store_is : first_of (codes "store") rows ≡ Some store
  pub verdicts_is : first_of (codes "verdicts") rows ≡ Some verdicts
  pub asks : Ask rows texts

-- `check`
check_means : (entered : Option (Text × List Row)) (rows : List Row) (store verdicts : Text) (texts : QueryTexts) → IsFound rows store verdicts texts
    → all_of (codes "policy") rows ≡ None
    → (line : Line) → entered ≡ Some (codes "check", rows) → IsLineOf entered line → IsCheck store verdicts texts line
check_means entered rows store verdicts texts found alone (Check path prints asked) is line =
    let says = line_in entered (codes "check") rows (Check path prints asked) is line in (
      same_value (first_of (codes "store") rows) store path.now found.store_is says.1,
      same_value (first_of (codes "verdicts") rows) verdicts prints.now found.verdicts_is says.2,
      asks rows _ texts found.asks says.3,
    )
check_means entered rows store verdicts texts found alone (CheckWithPolicies path prints asked policies) is line =
    absurd (not_missing (all_of (codes "policy") rows) _ (line_in entered (codes "check") rows (CheckWithPolicies path prints asked policies) is line).4.policies alone)
check_means entered rows store verdicts texts found alone other is line = absurd (other_line entered (codes "check") rows other refl is line)

pub check_known : (name store verdicts moment anchor file : Text) (more : List Text) (r : Result Line Error)
    → IsPlainWord store → IsPlainWord verdicts → IsPlainWord moment → IsPlainWord anchor → All IsPlainWord (file ∷ more) → length more < usize_max
    → IsReadAs (name ∷ codes "check" ∷ check_words store verdicts moment anchor (file ∷ more)) r
    → MatchResult r (IsCheck store verdicts (record { moment = moment; purpose = None; anchor = anchor; files = file ∷ more })) (λ e. kind_of e ≡ OutOfMemory)
check_known name store verdicts moment anchor file more r s v t a f few is =
    let enters_check = entered_check name store verdicts moment anchor file more s v t a f in
    let enters = enters_check.of in
    let finds = enters.finds in
    known (IsCheck store verdicts (record { moment = moment; purpose = None; anchor = anchor; files = file ∷ more })) (name ∷ codes "check" ∷ check_words store verdicts moment anchor (file ∷ more)) r
    (no_fault_of_check name store verdicts moment anchor file more s v t a f few)
    (λ none. not_lacking of_check enters.rows
    ((store, finds.1.0), ((verdicts, finds.1.1.0), ((moment, finds.1.1.1.0), ((anchor, finds.1.1.1.1.0), ((file, finds.1.1.1.1.1.0), tt)))))
    (none.check enters.rows enters.is))
    (no_kind _ (codes "check") enters.rows enters.is refl refl)
    (flagged _ enters.rows enters.is (no_flag enters.rows enters_check.flags))
    (λ line. check_means _ enters.rows store verdicts _
    (record { store_is = finds.1.0; verdicts_is = finds.1.1.0; asks = record { moment = finds.1.1.1.0; purpose = finds.0; anchor = finds.1.1.1.1.0; files = enters.files } })
    enters_check.policies line enters.is)
    is.reads is.refuses

-- `compare`
compare_means : (entered : Option (Text × List Row)) (rows : List Row) (store verdicts : Text) (texts : QueryTexts) (other : Text)
    → IsFound rows store verdicts texts × (first_of (codes "other") rows ≡ Some other)
    → (line : Line) → entered ≡ Some (codes "compare", rows) → IsLineOf entered line → IsCompare store verdicts texts other line
compare_means entered rows store verdicts texts other found (Compare path beside prints asked) is line =
    let says = line_in entered (codes "compare") rows (Compare path beside prints asked) is line in (
      same_value (first_of (codes "store") rows) store path.now found.0.store_is says.1,
      same_value (first_of (codes "other") rows) other beside.now found.1 says.2,
      same_value (first_of (codes "verdicts") rows) verdicts prints.now found.0.verdicts_is says.3,
      asks rows _ texts found.0.asks says.4,
    )
compare_means entered rows store verdicts texts other found given is line = absurd (other_line entered (codes "compare") rows given refl is line)

pub compare_known : (name store verdicts moment anchor other file : Text) (more : List Text) (r : Result Line Error)
    → IsPlainWord store → IsPlainWord verdicts → IsPlainWord moment → IsPlainWord anchor → IsPlainWord other → All IsPlainWord (file ∷ more) → length more < usize_max
    → IsReadAs (name ∷ codes "compare" ∷ compare_words store verdicts moment anchor other (file ∷ more)) r
    → MatchResult r (IsCompare store verdicts (record { moment = moment; purpose = None; anchor = anchor; files = file ∷ more }) other) (λ e. kind_of e ≡ OutOfMemory)
compare_known name store verdicts moment anchor other file more r s v t a o f few is =
    let enters = entered_compare name store verdicts moment anchor other file more s v t a o f in
    let finds = enters.finds in
    known (IsCompare store verdicts (record { moment = moment; purpose = None; anchor = anchor; files = file ∷ more }) other) (name ∷ codes "compare" ∷ compare_words store verdicts moment anchor other (file ∷ more)) r
    (no_fault_of_compare name store verdicts moment anchor other file more s v t a o f few)
    (λ none. not_lacking of_compare enters.rows
    ((store, finds.1.0), ((other, finds.1.1.1.1.1.0), ((verdicts, finds.1.1.0), ((moment, finds.1.1.1.0), ((anchor, finds.1.1.1.1.0), ((file, finds.1.1.1.1.1.1.0), tt))))))
    (none.compare enters.rows enters.is))
    (no_kind _ (codes "compare") enters.rows enters.is refl refl)
    (no_policy _ (codes "compare") enters.rows enters.is refl)
    (λ line. compare_means _ enters.rows store verdicts _ other
    (record { store_is = finds.1.0; verdicts_is = finds.1.1.0; asks = record { moment = finds.1.1.1.0; purpose = finds.0; anchor = finds.1.1.1.1.0; files = enters.files } }, finds.1.1.1.1.1.0)
    line enters.is)
    is.reads is.refuses

-- `find`
same_search : (one other : SearchTexts) → one.moment ≡ other.moment → one.purpose ≡ other.purpose → one.name ≡ other.name → one.anchors ≡ other.anchors
    → one.among ≡ other.among → one.target ≡ other.target → one ≡ other
same_search one other moment purpose name anchors among target =
    ap (λ (text : Text). record one { moment = text }) moment
    ∙ ap (λ (text : Option Text). record one { moment = other.moment; purpose = text }) purpose
    ∙ ap (λ (text : Option Text). record one { moment = other.moment; purpose = other.purpose; name = text }) name
    ∙ ap (λ (texts : List Text). record other { anchors = texts; among = one.among; target = one.target }) anchors
    ∙ ap (λ (texts : List Text). record other { among = texts; target = one.target }) among
    ∙ ap (λ (text : Text). record other { target = text }) target

asks_to_find : (rows : List Row) (texts found : SearchTexts) → AskToFind rows found → AskToFind rows texts → texts ≡ found
asks_to_find rows texts found there ask =
    same_search texts found
    (same_value (first_of (codes "at") rows) found.moment texts.moment there.moment ask.moment)
    (sym ask.purpose ∙ there.purpose)
    (sym ask.name ∙ there.name)
    (same_value (all_of (codes "anchor") rows) found.anchors texts.anchors there.anchors ask.anchors)
    (sym ask.among ∙ there.among)
    (same_value (first_of (codes "file") rows) found.target texts.target there.target ask.target)

find_means : (entered : Option (Text × List Row)) (rows : List Row) (store verdicts : Text) (texts : SearchTexts)
    → first_of (codes "store") rows ≡ Some store → first_of (codes "verdicts") rows ≡ Some verdicts → AskToFind rows texts
    → (line : Line) → entered ≡ Some (codes "find", rows) → IsLineOf entered line → IsFind store verdicts texts line
find_means entered rows store verdicts texts store_is verdicts_is found (Find path prints asked) is line =
    let says = line_in entered (codes "find") rows (Find path prints asked) is line in (
      same_value (first_of (codes "store") rows) store path.now store_is says.1,
      same_value (first_of (codes "verdicts") rows) verdicts prints.now verdicts_is says.2,
      asks_to_find rows _ texts found says.3,
    )
find_means entered rows store verdicts texts store_is verdicts_is found other is line = absurd (other_line entered (codes "find") rows other refl is line)

pub find_known : (name store verdicts moment anchor file : Text) (r : Result Line Error)
    → IsPlainWord store → IsPlainWord verdicts → IsPlainWord moment → IsPlainWord anchor → IsPlainWord file
    → IsReadAs (name ∷ codes "find" ∷ find_words store verdicts moment anchor file) r
    → MatchResult r (IsFind store verdicts (search_texts moment anchor file)) (λ e. kind_of e ≡ OutOfMemory)
find_known name store verdicts moment anchor file r s v t a f is =
    let enters = entered_find name store verdicts moment anchor file s v t a f in
    known (IsFind store verdicts (search_texts moment anchor file)) (name ∷ codes "find" ∷ find_words store verdicts moment anchor file) r
    (no_fault_of_find name store verdicts moment anchor file s v t a f)
    (λ none. not_lacking of_find enters.rows
    ((store, enters.store_is), ((verdicts, enters.verdicts_is), ((moment, enters.asks.moment), ((anchor, enters.anchor_is), ((file, enters.asks.target), tt)))))
    (none.find enters.rows enters.is))
    (no_kind _ (codes "find") enters.rows enters.is refl refl)
    (no_policy _ (codes "find") enters.rows enters.is refl)
    (λ line. find_means _ enters.rows store verdicts _ enters.store_is enters.verdicts_is enters.asks line enters.is) is.reads is.refuses

-- `explain`
explain_means : (entered : Option (Text × List Row)) (rows : List Row) (word : Text) → all_of (codes "topic") rows ≡ Some (word ∷ [])
    → (line : Line) → entered ≡ Some (codes "explain", rows) → IsLineOf entered line → IsExplain word line
explain_means entered rows word found (Explain words) is line =
    (line_in entered (codes "explain") rows (Explain words) is line).1 ∙ ap words_in found
explain_means entered rows word found other is line = absurd (other_line entered (codes "explain") rows other refl is line)

pub explain_known : (name word : Text) (r : Result Line Error) → IsPlainWord word → IsReadAs (name ∷ codes "explain" ∷ word ∷ []) r → MatchResult r (IsExplain word) (λ e. kind_of e ≡ OutOfMemory)
explain_known name word r plain is =
    let enters = entered_explain name word in
    known (IsExplain word) (name ∷ codes "explain" ∷ word ∷ []) r (no_fault_of_explain name word plain)
    (λ none. none.explain (rows_of_explain word) enters)
    (no_kind _ (codes "explain") (rows_of_explain word) enters refl refl)
    (no_policy _ (codes "explain") (rows_of_explain word) enters refl)
    (λ line. explain_means _ (rows_of_explain word) word (topic_found word plain) line enters) is.reads is.refuses

-- `session`
session_means : (entered : Option (Text × List Row)) (rows : List Row) (store : Text)
    → Finds ((codes "store", Some store) ∷ (codes "verdicts", None) ∷ []) rows
    → (line : Line) → entered ≡ Some (codes "session", rows) → IsLineOf entered line → IsSession store line
session_means entered rows store finds (Session path verdicts) is line =
    let says = line_in entered (codes "session") rows (Session path verdicts) is line in
    (same_value (first_of (codes "store") rows) store path.now finds.0 says.1, no_purpose verdicts (sym says.2 ∙ finds.1.0))
session_means entered rows store finds other is line = absurd (other_line entered (codes "session") rows other refl is line)

pub session_known : (name store : Text) (r : Result Line Error) → IsPlainWord store → IsReadAs (name ∷ codes "session" ∷ session_words store) r
    → MatchResult r (IsSession store) (λ e. kind_of e ≡ OutOfMemory)
session_known name store r plain is =
    let enters = entered_session name store plain in
    known (IsSession store) (name ∷ codes "session" ∷ session_words store) r (no_fault_of_session name store plain)
    (λ none. not_lacking of_store enters.rows ((store, enters.finds.0), tt) (none.session enters.rows enters.is))
    (no_kind _ (codes "session") enters.rows enters.is refl refl)
    (no_policy _ (codes "session") enters.rows enters.is refl)
    (λ line. session_means _ enters.rows store enters.finds line enters.is) is.reads is.refuses

-- `list`
-- it gives a store, and the moment that was found
list_line : (entered : Option (Text × List Row)) (rows : List Row) (P : Line → Type 0)
    → ((store : Bor Text) (moment : Option (Bor Text)) → first_of (codes "store") rows ≡ Some store.now
    → first_of (codes "at") rows ≡ option_map (λ s. s.now) moment → P (Lists store moment))
    → (line : Line) → entered ≡ Some (codes "list", rows) → IsLineOf entered line → P line
list_line entered rows P means (Lists path time) is line =
    let says = line_in entered (codes "list") rows (Lists path time) is line in means path time says.1 says.2
list_line entered rows P means other is line = absurd (other_line entered (codes "list") rows other refl is line)

pub list_known : (name store : Text) (r : Result Line Error) → IsPlainWord store → IsReadAs (name ∷ codes "list" ∷ list_words store) r
    → MatchResult r (IsList store) (λ e. kind_of e ≡ OutOfMemory)
list_known name store r plain is =
    let enters = entered_list name store plain in
    known (IsList store) (name ∷ codes "list" ∷ list_words store) r (no_fault_of_list name store plain)
    (λ none. not_lacking of_store enters.rows ((store, enters.finds.0), tt) (none.list enters.rows enters.is))
    (no_kind _ (codes "list") enters.rows enters.is refl refl)
    (no_policy _ (codes "list") enters.rows enters.is refl)
    (λ line. list_line _ enters.rows (IsList store)
    (λ path time says tells. (same_value (first_of (codes "store") enters.rows) store path.now enters.finds.0 says, no_purpose time (sym tells ∙ enters.finds.1.0)))
    line enters.is)
    is.reads is.refuses

pub list_at_known : (name store moment : Text) (r : Result Line Error) → IsPlainWord store → IsPlainWord moment → IsReadAs (name ∷ codes "list" ∷ list_at_words store moment) r
    → MatchResult r (IsListAt store moment) (λ e. kind_of e ≡ OutOfMemory)
list_at_known name store moment r plain plain' is =
    let enters = entered_list_at name store moment plain plain' in
    known (IsListAt store moment) (name ∷ codes "list" ∷ list_at_words store moment) r (no_fault_of_list_at name store moment plain plain')
    (λ none. not_lacking of_store enters.rows ((store, enters.finds.0), tt) (none.list enters.rows enters.is))
    (no_kind _ (codes "list") enters.rows enters.is refl refl)
    (no_policy _ (codes "list") enters.rows enters.is refl)
    (λ line. list_line _ enters.rows (IsListAt store moment)
    (λ path time says tells. (same_value (first_of (codes "store") enters.rows) store path.now enters.finds.0 says, sym tells ∙ enters.finds.1.0))
    line enters.is)
    is.reads is.refuses
