-- Command lines in their simplest form: each option that a subcommand has to have, once, and then its files.
use Rattle.std.specs.Prelude.{◌≡◌, ◌≢◌, [], ◌∷◌, false, List, None, Some, codes, map, option_map, slice_index}
use Rattle.std.specs.List.{All}
use Rattle.clap.specs.Words.{Text, kind_of}
use Rattle.clap.specs.declared.error.Error.{Error}
use Rattle.clap.specs.declared.error.kind.ErrorKind.TheVariants.{OutOfMemory}
use Rattle.cli_words.specs.QueryTexts.{QueryTexts, seen_words}
use Rattle.cli_words.specs.SearchTexts.{SearchTexts, seen_search_words}
use Rattle.cli_words.specs.declared.line.Line.{Line}
use Rattle.cli_words.specs.declared.line.Line.TheVariants.{Tree, Show, Prints, Deliver, Check, Compare, Find, Explain, Session, List as Lists}
use Rattle.cli_words.specs.declared.line.Kind.TheVariants.{Certificate}

-- memory ran out while the words were read
abbrev pub IsOutOfMemory : Error → Type 0
IsOutOfMemory error = kind_of error ≡ OutOfMemory

-- a word that is no option: it does not begin with a hyphen
abbrev pub IsPlainWord : Text → Type 0
IsPlainWord word = slice_index word 0 ≢ 45

pub record PlainWord : Type 0 where
  pub text : Text
  pub plain : IsPlainWord text

-- what is asked of a path without a purpose: TIME, ANCHOR and FILE...
pub record PlainQuery : Type 0 where
  pub moment : PlainWord
  pub anchor : PlainWord
  pub file : Text
  pub more : List Text
  pub plain : All IsPlainWord (file ∷ more)

-- a subcommand, with its words in the order in which they stand
pub data PlainLine : Type 0 where
  tree : PlainWord → PlainLine
  show : PlainWord → PlainLine
  prints : PlainWord → PlainWord → PlainLine
  deliver : PlainWord → PlainWord → PlainWord → PlainWord → PlainLine
  check : PlainWord → PlainWord → PlainQuery → PlainLine
  compare : PlainWord → PlainWord → PlainQuery → PlainWord → PlainLine
  find : PlainWord → PlainWord → PlainWord → PlainWord → PlainWord → PlainLine
  explain : PlainWord → PlainLine
  session : PlainWord → PlainLine
  list : PlainWord → PlainLine
  list_at : PlainWord → PlainWord → PlainLine

-- ---- how it is written

-- `--store STORE --verdicts VERDICTS`
abbrev pub stores_words : Text → Text → List Text → List Text
stores_words store verdicts words = codes "--store" ∷ store ∷ codes "--verdicts" ∷ verdicts ∷ words

-- its words, behind the name of the program
abbrev pub plain_words : PlainLine → List Text
plain_words (tree file) = codes "tree" ∷ file.text ∷ []
plain_words (show file) = codes "show" ∷ file.text ∷ []
plain_words (prints issuer file) = codes "prints" ∷ codes "--issuer" ∷ issuer.text ∷ file.text ∷ []
plain_words (deliver store verdicts issuer file) =
    codes "deliver" ∷ stores_words store.text verdicts.text (codes "--issuer" ∷ issuer.text ∷ file.text ∷ [])
plain_words (check store verdicts query) =
    codes "check" ∷ stores_words store.text verdicts.text (codes "--at" ∷ query.moment.text
    ∷ codes "--anchor" ∷ query.anchor.text ∷ query.file ∷ query.more)
plain_words (compare store verdicts query other) =
    codes "compare" ∷ stores_words store.text verdicts.text (codes "--at" ∷ query.moment.text
    ∷ codes "--anchor" ∷ query.anchor.text ∷ codes "--other" ∷ other.text ∷ query.file ∷ query.more)
plain_words (find store verdicts moment anchor file) =
    codes "find" ∷ stores_words store.text verdicts.text (codes "--at" ∷ moment.text
    ∷ codes "--anchor" ∷ anchor.text ∷ file.text ∷ [])
plain_words (explain word) = codes "explain" ∷ word.text ∷ []
plain_words (session store) = codes "session" ∷ codes "--store" ∷ store.text ∷ []
plain_words (list store) = codes "list" ∷ codes "--store" ∷ store.text ∷ []
plain_words (list_at store moment) =
    codes "list" ∷ codes "--store" ∷ store.text ∷ codes "--at" ∷ moment.text ∷ []

-- ---- what it says

-- `tree FILE`
abbrev pub IsTree : Text → Line → Type 0
IsTree text (Tree file) = file.now ≡ text
IsTree text _ = ⊥

-- `show FILE`, of a certificate, without details
abbrev pub IsShow : Text → Line → Type 0
IsShow text (Show kind with_details file) =
    (kind ≡ Certificate) × (with_details ≡ false) × (file.now ≡ text)
IsShow text _ = ⊥

-- `prints --issuer ISSUER FILE`, of a certificate, without parts
abbrev pub IsPrints : Text → Text → Line → Type 0
IsPrints signer text (Prints issuer kind with_parts file) =
    (issuer.now ≡ signer) × (kind ≡ Certificate) × (with_parts ≡ false) × (file.now ≡ text)
IsPrints signer text _ = ⊥

-- `deliver --store STORE --verdicts VERDICTS --issuer ISSUER FILE`
abbrev pub IsDeliver : Text → Text → Text → Text → Line → Type 0
IsDeliver path trusted signer text (Deliver store verdicts issuer file) =
    (store.now ≡ path) × (verdicts.now ≡ trusted) × (issuer.now ≡ signer) × (file.now ≡ text)
IsDeliver path trusted signer text _ = ⊥

-- `check --store STORE --verdicts VERDICTS --at TIME --anchor ANCHOR FILE...`
abbrev pub IsCheck : Text → Text → QueryTexts → Line → Type 0
IsCheck path trusted texts (Check store verdicts query) =
    (store.now ≡ path) × (verdicts.now ≡ trusted) × (seen_words query ≡ texts)
IsCheck path trusted texts _ = ⊥

-- `compare --store STORE --verdicts VERDICTS --at TIME --anchor ANCHOR --other STORE FILE...`
abbrev pub IsCompare : Text → Text → QueryTexts → Text → Line → Type 0
IsCompare path trusted texts beside (Compare store other verdicts query) =
    (store.now ≡ path) × (other.now ≡ beside) × (verdicts.now ≡ trusted) × (seen_words query ≡ texts)
IsCompare path trusted texts beside _ = ⊥

-- `find --store STORE --verdicts VERDICTS --at TIME --anchor FILE FILE`
abbrev pub IsFind : Text → Text → SearchTexts → Line → Type 0
IsFind path trusted texts (Find store verdicts search) =
    (store.now ≡ path) × (verdicts.now ≡ trusted) × (seen_search_words search ≡ texts)
IsFind path trusted texts _ = ⊥

-- `explain WORD`
abbrev pub IsExplain : Text → Line → Type 0
IsExplain word (Explain words) = map (λ s. s.now) words.items ≡ word ∷ []
IsExplain word _ = ⊥

-- `session --store STORE`
abbrev pub IsSession : Text → Line → Type 0
IsSession path (Session store verdicts) = (store.now ≡ path) × (verdicts ≡ None)
IsSession path _ = ⊥

-- `list --store STORE`
abbrev pub IsList : Text → Line → Type 0
IsList path (Lists store moment) = (store.now ≡ path) × (moment ≡ None)
IsList path _ = ⊥

-- `list --store STORE --at TIME`
abbrev pub IsListAt : Text → Text → Line → Type 0
IsListAt path time (Lists store moment) =
    (store.now ≡ path) × (option_map (λ s. s.now) moment ≡ Some time)
IsListAt path time _ = ⊥

abbrev pub query_texts : PlainQuery → QueryTexts
query_texts query = record {
  moment = query.moment.text;
  purpose = None;
  anchor = query.anchor.text;
  files = query.file ∷ query.more;
}

-- what is asked about the certificate in a file under the anchors of one file, with nothing between them, no purpose and no name
abbrev pub search_texts : Text → Text → Text → SearchTexts
search_texts moment anchor file = record {
  moment = moment;
  purpose = None;
  name = None;
  anchors = anchor ∷ [];
  among = [];
  target = file;
}

-- a line says just this
abbrev pub SpellsLine : PlainLine → Line → Type 0
SpellsLine (tree file) = IsTree file.text
SpellsLine (show file) = IsShow file.text
SpellsLine (prints issuer file) = IsPrints issuer.text file.text
SpellsLine (deliver store verdicts issuer file) = IsDeliver store.text verdicts.text issuer.text file.text
SpellsLine (check store verdicts query) = IsCheck store.text verdicts.text (query_texts query)
SpellsLine (compare store verdicts query other) = IsCompare store.text verdicts.text (query_texts query) other.text
SpellsLine (find store verdicts moment anchor file) =
    IsFind store.text verdicts.text (search_texts moment.text anchor.text file.text)
SpellsLine (explain word) = IsExplain word.text
SpellsLine (session store) = IsSession store.text
SpellsLine (list store) = IsList store.text
SpellsLine (list_at store moment) = IsListAt store.text moment.text
