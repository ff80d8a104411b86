-- What a line is, by the matches that clap's definition of a simple command gives for the words.
use Rattle.std.specs.Prelude.{◌≡◌, ◌≢◌, ◌⊎◌, ◌||◌, [], ◌∷◌, Bool, true, false, List, Option, Some, None, Result, Ok, Err, codes, map, option_map, if◌then◌else◌}
use Rattle.std.specs.Str.{bytes_eq}
use Rattle.std.specs.Borrow.{Bor}
use Rattle.clap.specs.Words.{IsAmong, Row, Text, all_of, fault_of, first_of, kind_of, subcommand_of}
use Rattle.clap.specs.declared.error.Error.{Error}
use Rattle.clap.specs.declared.error.kind.ErrorKind.{ErrorKind}
use Rattle.clap.specs.declared.error.kind.ErrorKind.TheVariants.{InvalidValue, MissingRequiredArgument, OutOfMemory}
use Rattle.cli_words.specs.App.{program}
use Rattle.cli_words.specs.declared.line.Line.{Line}
use Rattle.cli_words.specs.declared.line.Line.TheVariants.{Tree, Show, Prints, SearchPrints, Deliver, Check, CheckWithPolicies, Compare, Find, Explain, Session, List as Lists}
use Rattle.cli_words.specs.QueryTexts.{QueryTexts, seen_words}
use Rattle.cli_words.specs.SearchTexts.{SearchTexts, seen_search_words}
use Rattle.cli_words.specs.PolicyTexts.{PolicyTexts, seen_policy_words}
use Rattle.cli_words.specs.RunOptions.{LacksValue}
use Rattle.cli_words.specs.declared.line.Kind.{Kind}
use Rattle.cli_words.specs.declared.line.Kind.TheVariants.{Certificate, RevocationList, Response}
use Rattle.cli_words.specs.declared.line.Flaw.{Flaw}
use Rattle.cli_words.specs.declared.line.Flaw.TheVariants.{ArgumentMissing, OtherKind, PolicyMissing, NoMemory}

-- the rows give the argument with this id the text
abbrev pub GivesText : List Row → Text → Bor Text → Type 0
GivesText rows id text = first_of id rows ≡ Some text.now

-- the kind of input that has the name
abbrev pub kind_named : Text → Option Kind
kind_named name =
    if bytes_eq name (codes "cert") then Some Certificate
    else (if bytes_eq name (codes "crl") then Some RevocationList
    else (if bytes_eq name (codes "ocsp") then Some Response else None))

-- without a name, a certificate
abbrev pub kind_or_certificate : Option Text → Option Kind
kind_or_certificate None = Some Certificate
kind_or_certificate (Some name) = kind_named name

-- the kind that the rows name
abbrev pub kind_in_rows : List Row → Option Kind
kind_in_rows rows = kind_or_certificate (first_of (codes "as") rows)

-- an option without a value was given: clap notes `true` for it, and `false` if it was left out
abbrev pub is_set : Option Text → Bool
is_set None = false
is_set (Some noted) = bytes_eq noted (codes "true")

abbrev pub flag_in : List Row → Text → Bool
flag_in rows id = is_set (first_of id rows)

-- the rows have what is asked of a path
pub record Ask (rows : List Row) (texts : QueryTexts) : Type 0 where
  pub moment : first_of (codes "at") rows ≡ Some texts.moment
  pub purpose : first_of (codes "purpose") rows ≡ texts.purpose
  pub anchor : first_of (codes "anchor") rows ≡ Some texts.anchor
  pub files : all_of (codes "file") rows ≡ Some texts.files

-- the words of an argument that may be left out
abbrev pub words_in : Option (List Text) → List Text
words_in (Some words) = words
words_in None = []

-- the rows give the argument with this id, which may be given several times, these texts
abbrev pub GivesTexts : List Row → Text → List (Bor Text) → Type 0
GivesTexts rows id words = all_of id rows ≡ Some (map (λ s. s.now) words)

-- the rows have what is asked of policies
pub record AskPolicies (rows : List Row) (texts : PolicyTexts) : Type 0 where
  pub policies : all_of (codes "policy") rows ≡ Some texts.policies
  pub require_policy : flag_in rows (codes "require-policy") ≡ texts.require_policy
  pub inhibit_mapping : flag_in rows (codes "inhibit-mapping") ≡ texts.inhibit_mapping
  pub inhibit_any_policy : flag_in rows (codes "inhibit-any-policy") ≡ texts.inhibit_any_policy

-- an option was given that says how policies are processed
abbrev pub has_policy_flag : List Row → Bool
has_policy_flag rows =
    flag_in rows (codes "require-policy") || flag_in rows (codes "inhibit-mapping")
    || flag_in rows (codes "inhibit-any-policy")

-- nothing is asked of policies
pub record AskNoPolicies (rows : List Row) : Type 0 where
  pub policies : all_of (codes "policy") rows ≡ None
  pub flags : has_policy_flag rows ≡ false

-- such an option was given, and no policy
pub record LackPolicy (rows : List Row) : Type 0 where
  pub policies : all_of (codes "policy") rows ≡ None
  pub flags : has_policy_flag rows ≡ true

-- the rows have what is asked about a certificate that others lead to
pub record AskToFind (rows : List Row) (texts : SearchTexts) : Type 0 where
  pub moment : first_of (codes "at") rows ≡ Some texts.moment
  pub purpose : first_of (codes "purpose") rows ≡ texts.purpose
  pub name : first_of (codes "name") rows ≡ texts.name
  pub anchors : all_of (codes "anchor") rows ≡ Some texts.anchors
  pub among : words_in (all_of (codes "among") rows) ≡ texts.among
  pub target : first_of (codes "file") rows ≡ Some texts.target

-- the line of a subcommand with these rows
abbrev pub IsLine : Text × List Row → Line → Type 0
IsLine (name, rows) (Tree file) = (name ≡ codes "tree") × GivesText rows (codes "file") file
IsLine (name, rows) (Show kind with_details file) =
    (name ≡ codes "show") × (kind_in_rows rows ≡ Some kind)
    × (flag_in rows (codes "all") ≡ with_details) × GivesText rows (codes "file") file
IsLine (name, rows) (Prints issuer kind with_parts file) =
    (name ≡ codes "prints") × GivesText rows (codes "issuer") issuer × (kind_in_rows rows ≡ Some kind)
    × (flag_in rows (codes "parts") ≡ with_parts) × GivesText rows (codes "file") file
    × (all_of (codes "among") rows ≡ None)
IsLine (name, rows) (SearchPrints issuers among with_parts file) =
    (name ≡ codes "prints") × GivesText rows (codes "issuer") issuers
    × (kind_in_rows rows ≡ Some Certificate) × (flag_in rows (codes "parts") ≡ with_parts)
    × GivesText rows (codes "file") file × GivesTexts rows (codes "among") among.items
IsLine (name, rows) (Deliver store verdicts issuer file) =
    (name ≡ codes "deliver") × GivesText rows (codes "store") store
    × GivesText rows (codes "verdicts") verdicts × GivesText rows (codes "issuer") issuer
    × GivesText rows (codes "file") file
IsLine (name, rows) (Check store verdicts query) =
    (name ≡ codes "check") × GivesText rows (codes "store") store
    × GivesText rows (codes "verdicts") verdicts × Ask rows (seen_words query) × AskNoPolicies rows
IsLine (name, rows) (CheckWithPolicies store verdicts query policies) =
    (name ≡ codes "check") × GivesText rows (codes "store") store
    × GivesText rows (codes "verdicts") verdicts × Ask rows (seen_words query)
    × AskPolicies rows (seen_policy_words policies)
IsLine (name, rows) (Compare store other verdicts query) =
    (name ≡ codes "compare") × GivesText rows (codes "store") store
    × GivesText rows (codes "other") other × GivesText rows (codes "verdicts") verdicts
    × Ask rows (seen_words query)
IsLine (name, rows) (Find store verdicts search) =
    (name ≡ codes "find") × GivesText rows (codes "store") store
    × GivesText rows (codes "verdicts") verdicts × AskToFind rows (seen_search_words search)
IsLine (name, rows) (Explain words) =
    (name ≡ codes "explain")
    × (map (λ s. s.now) words.items ≡ words_in (all_of (codes "topic") rows))
IsLine (name, rows) (Session store verdicts) =
    (name ≡ codes "session") × GivesText rows (codes "store") store
    × (first_of (codes "verdicts") rows ≡ option_map (λ s. s.now) verdicts)
IsLine (name, rows) (Lists store moment) =
    (name ≡ codes "list") × GivesText rows (codes "store") store
    × (first_of (codes "at") rows ≡ option_map (λ s. s.now) moment)

-- the line of the subcommand that was entered
abbrev pub IsLineOf : Option (Text × List Row) → Line → Type 0
IsLineOf entered line = (p : Text × List Row) × (entered ≡ Some p) × IsLine p line

-- one of these arguments is missing
abbrev pub LacksOneOf : List Text → List Row → Type 0
LacksOneOf [] rows = ⊥
LacksOneOf (id ∷ ids) rows = (first_of id rows ≡ None) ⊎ LacksOneOf ids rows

-- the arguments that each subcommand has to have
abbrev pub of_file : List Text
of_file = codes "file" ∷ []

abbrev pub of_prints : List Text
of_prints = codes "issuer" ∷ codes "file" ∷ []

abbrev pub of_deliver : List Text
of_deliver = codes "store" ∷ codes "verdicts" ∷ codes "issuer" ∷ codes "file" ∷ []

abbrev pub of_query : List Text
of_query = codes "at" ∷ codes "anchor" ∷ codes "file" ∷ []

abbrev pub of_check : List Text
of_check = codes "store" ∷ codes "verdicts" ∷ of_query

abbrev pub of_compare : List Text
of_compare = codes "store" ∷ codes "other" ∷ codes "verdicts" ∷ of_query

abbrev pub of_find : List Text
of_find = codes "store" ∷ codes "verdicts" ∷ of_query

abbrev pub of_store : List Text
of_store = codes "store" ∷ []

-- where the subcommand was entered, one of these is missing
abbrev pub EnteredWithout : Option (Text × List Row) → Text → List Text → Type 0
EnteredWithout entered name ids = (rows : List Row) → entered ≡ Some (name, rows) → LacksOneOf ids rows

-- no subcommand was entered with all that it has to have
pub record HasNoLine (entered : Option (Text × List Row)) : Type 0 where
  pub tree : EnteredWithout entered (codes "tree") of_file
  pub show : EnteredWithout entered (codes "show") of_file
  pub prints : EnteredWithout entered (codes "prints") of_prints
  pub deliver : EnteredWithout entered (codes "deliver") of_deliver
  pub check : EnteredWithout entered (codes "check") of_check
  pub compare : EnteredWithout entered (codes "compare") of_compare
  pub find : EnteredWithout entered (codes "find") of_find
  pub explain : EnteredWithout entered (codes "explain") []
  pub session : EnteredWithout entered (codes "session") of_store
  pub list : EnteredWithout entered (codes "list") of_store

-- the rows have files to search among, and name another kind than that of a certificate
abbrev pub SearchesForOther : List Row → Type 0
SearchesForOther rows =
    (all_of (codes "among") rows ≢ None) × (kind_in_rows rows ≢ Some Certificate)

-- the subcommand takes the name of a kind, and the rows have a name that no kind has, or one that a search does not take
abbrev pub TakesOtherKind : Text → List Row → Type 0
TakesOtherKind name rows =
    ((name ≡ codes "show") × (kind_in_rows rows ≡ None))
    ⊎ ((name ≡ codes "prints") × ((kind_in_rows rows ≡ None) ⊎ SearchesForOther rows))

-- one of these was entered, with such a name
abbrev pub HasOtherKind : Option (Text × List Row) → Type 0
HasOtherKind entered =
    (p : Text × List Row) × (entered ≡ Some p) × TakesOtherKind p.0 p.1

-- `check` was entered, with an option that says how policies are processed, and no policy
abbrev pub HasNoPolicy : Option (Text × List Row) → Type 0
HasNoPolicy entered = (rows : List Row) × (entered ≡ Some (codes "check", rows)) × LackPolicy rows

-- what is wrong with the subcommand that was entered; nothing is where memory ran out
abbrev pub HasFlaw : Option (Text × List Row) → Flaw → Type 0
HasFlaw entered ArgumentMissing = HasNoLine entered
HasFlaw entered OtherKind = HasOtherKind entered
HasFlaw entered PolicyMissing = HasNoPolicy entered
HasFlaw entered NoMemory = Unit {0}

-- the same of the rows of `show`
abbrev pub IsFlawOfShow : List Row → Flaw → Type 0
IsFlawOfShow rows ArgumentMissing = LacksOneOf of_file rows
IsFlawOfShow rows OtherKind = kind_in_rows rows ≡ None
IsFlawOfShow rows PolicyMissing = ⊥
IsFlawOfShow rows NoMemory = ⊥

-- of those of `prints`
abbrev pub IsFlawOfPrints : List Row → Flaw → Type 0
IsFlawOfPrints rows ArgumentMissing = LacksOneOf of_prints rows
IsFlawOfPrints rows OtherKind = (kind_in_rows rows ≡ None) ⊎ SearchesForOther rows
IsFlawOfPrints rows PolicyMissing = ⊥
IsFlawOfPrints rows NoMemory = Unit {0}

-- of a subcommand that takes no kind, and no memory
abbrev pub IsLack : List Text → List Row → Flaw → Type 0
IsLack ids rows ArgumentMissing = LacksOneOf ids rows
IsLack ids rows OtherKind = ⊥
IsLack ids rows PolicyMissing = ⊥
IsLack ids rows NoMemory = ⊥

-- and of one that asks
abbrev pub IsFlawOfQuestion : List Text → List Row → Flaw → Type 0
IsFlawOfQuestion ids rows ArgumentMissing = LacksOneOf ids rows
IsFlawOfQuestion ids rows OtherKind = ⊥
IsFlawOfQuestion ids rows PolicyMissing = ⊥
IsFlawOfQuestion ids rows NoMemory = Unit {0}

-- and of `check`, which may ask of policies
abbrev pub IsFlawOfCheck : List Row → Flaw → Type 0
IsFlawOfCheck rows PolicyMissing = LackPolicy rows
IsFlawOfCheck rows flaw = IsFlawOfQuestion of_check rows flaw

-- the words break no rule of the command, and are this line
abbrev pub ReadsLine : List Text → Line → Type 0
ReadsLine words line = (fault_of program words ≡ []) × IsLineOf (subcommand_of program words) line

-- the subcommand that was entered is refused with this kind of error: one of its files is missing, or no kind that it takes has the name, or
-- an option of policies is given without a policy
abbrev pub IsRefusedWith : Option (Text × List Row) → ErrorKind → Type 0
IsRefusedWith entered kind =
    ((kind ≡ MissingRequiredArgument) × HasNoLine entered)
    ⊎ ((kind ≡ InvalidValue) × HasOtherKind entered)
    ⊎ ((kind ≡ MissingRequiredArgument) × HasNoPolicy entered)

-- the words are, as the program's command reads them: clap's definition gives the error, or their subcommand is
abbrev pub AreRefusedByCommand : List Text → ErrorKind → Type 0
AreRefusedByCommand words kind =
    IsAmong kind (fault_of program words) ⊎ IsRefusedWith (subcommand_of program words) kind

-- the words are: so, or since an option for the whole run, in front of the command, lacks its value
abbrev pub AreRefusedWith : List Text → ErrorKind → Type 0
AreRefusedWith words kind = AreRefusedByCommand words kind ⊎ ((kind ≡ InvalidValue) × LacksValue words)

-- they are refused because of that, memory aside
abbrev pub IsRefusedValue : Result Line Error → Type 0
IsRefusedValue (Ok line) = ⊥
IsRefusedValue (Err error) = (kind_of error ≡ OutOfMemory) ⊎ (kind_of error ≡ InvalidValue)

-- the kind of error of a flaw, if there is memory
abbrev pub IsErrorOf : Flaw → ErrorKind → Type 0
IsErrorOf ArgumentMissing kind = kind ≡ MissingRequiredArgument
IsErrorOf OtherKind kind = kind ≡ InvalidValue
IsErrorOf PolicyMissing kind = kind ≡ MissingRequiredArgument
IsErrorOf NoMemory kind = ⊥
