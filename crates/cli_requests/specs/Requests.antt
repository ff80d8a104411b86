-- The requests of a session, each of them a line.
use Rattle.std.specs.Prelude.{◌≡◌, ◌&&◌, ◌||◌, ◌==◌, ℕ, Bool, true, false, List, [], ◌∷◌, Option, Some, None, codes, length, slice_index}
use Rattle.std.specs.Prelude.{take, drop, map, option_map, is_some, string_bytes, if◌then◌else◌}
use Rattle.std.specs.Borrow.{Bor}
use Rattle.std.specs.List.{slice_split}
use Rattle.std.specs.Str.{bytes_eq, is_utf8}
use Rattle.std.specs.Result.{result_ok}
use Rattle.hex.specs.Hex.{decode_sized}
use Rattle.cli_words.specs.QueryTexts.{QueryTexts, seen_words}
use Rattle.cli_words.specs.SearchTexts.{SearchTexts, seen_search_words}
use Rattle.cli_words.specs.PolicyTexts.{PolicyTexts, seen_policy_words}
use Rattle.cli_words.specs.declared.line.Kind.{Kind}
pub use Rattle.cli_words.specs.CommandLine.{kind_named}
use Rattle.cli_requests.specs.Operands.{operand_in, text_in}
use Rattle.cli_requests.specs.declared.request.Request.{Request as Owned}
use Rattle.cli_requests.specs.declared.request.Request.TheVariants.{Nothing, Believe, Deliver, Check, CheckWithPolicies, Find, Prints}
use Rattle.cli_requests.specs.declared.request.Request.TheVariants.{SearchPrints, List as Held, Forget, Quit}
use Rattle.cli_requests.specs.declared.request.RequestFault.{RequestFault}
use Rattle.cli_requests.specs.declared.request.RequestFault.TheVariants.{Malformed, Memory}
use Rattle.cli_requests.specs.declared.searching.SearchFiles as code

-- the operands of a search: the anchors, the certificates that may stand between, if any are handed in, and the target
pub record SearchFiles : Type 0 where
  pub anchors : List ℕ
  pub among : Option (List ℕ)
  pub target : List ℕ

-- what a line asks for
pub data Request : Type 0 where
  nothing : Request
  believe : List ℕ → Request
  deliver : List ℕ → List ℕ → Request
  check : QueryTexts → Request
  check_with_policies : QueryTexts → PolicyTexts → Request
  find : SearchTexts → Request
  prints : Kind → Bool → List ℕ → List ℕ → Request
  search_prints : Bool → SearchFiles → Request
  list : Option (List ℕ) → Request
  forget : Request
  quit : Request

-- ---- words

-- what stands between the spaces of a line
abbrev pub words_of : List ℕ → List (List ℕ)
words_of line = slice_split (λ octet. octet == 32) line

-- each word is an operand
abbrev pub are_operands : List (List ℕ) → Bool
are_operands [] = true
are_operands (word ∷ words) = is_some (operand_in word) && are_operands words

-- the fingerprint of 64 hexadecimal digits, of either case
abbrev pub print_in : List ℕ → Option (List ℕ)
print_in digits = result_ok (decode_sized digits 32)

-- ---- requests, behind their first word

-- `believe HEX`
abbrev pub believe_in : List (List ℕ) → Option Request
believe_in (digits ∷ []) = option_map believe (print_in digits)
believe_in _ = None

-- `deliver ISSUER FILE`
abbrev pub deliver_in : List (List ℕ) → Option Request
deliver_in (issuer ∷ file ∷ []) =
    if are_operands (issuer ∷ file ∷ []) then Some (deliver issuer file) else None
deliver_in _ = None

-- `ANCHOR FILE ..`, with at least one file
abbrev pub path_texts : List ℕ → Option (List ℕ) → List (List ℕ) → Option QueryTexts
path_texts moment purpose (anchor ∷ file ∷ files) =
    if are_operands (anchor ∷ file ∷ files)
    then Some (record { moment = moment; purpose = purpose; anchor = anchor; files = file ∷ files })
    else None
path_texts moment purpose _ = None

unfoldable pub path_in : List ℕ → Option (List ℕ) → List (List ℕ) → Option Request
path_in moment purpose words = option_map check (path_texts moment purpose words)

-- what stands behind this front of a word
abbrev pub behind : List ℕ → List ℕ → Option (List ℕ)
behind front word =
    if bytes_eq (take (length front) word) front then Some (drop (length front) word) else None

-- `purpose=OID`
abbrev pub purpose_in : List ℕ → Option (List ℕ)
purpose_in word = behind (codes "purpose=") word

-- `policy=OID`
abbrev pub policy_in : List ℕ → Option (List ℕ)
policy_in word = behind (codes "policy=") word

-- a policy, where there is one, and then others
abbrev pub policy_then : Option (List ℕ) → List (List ℕ) → List (List ℕ)
policy_then None others = []
policy_then (Some policy) others = policy ∷ others

-- the policies that the words name, up to the first that names none
abbrev pub first_policies : List (List ℕ) → List (List ℕ)
first_policies [] = []
first_policies (word ∷ words) = policy_then (policy_in word) (first_policies words)

-- whether the words begin with this one, and those behind it
abbrev pub begin_with : List ℕ → List (List ℕ) → Bool
begin_with flag [] = false
begin_with flag (word ∷ words) = bytes_eq word flag

abbrev pub behind_flag : List ℕ → List (List ℕ) → List (List ℕ)
behind_flag flag [] = []
behind_flag flag (word ∷ words) = if bytes_eq word flag then words else word ∷ words

-- `[require-policy] [inhibit-mapping] [inhibit-any-policy]`, and what stands behind each
abbrev pub behind_require : List (List ℕ) → List (List ℕ)
behind_require words = behind_flag (codes "require-policy") words

abbrev pub behind_mapping : List (List ℕ) → List (List ℕ)
behind_mapping words = behind_flag (codes "inhibit-mapping") (behind_require words)

abbrev pub behind_flags : List (List ℕ) → List (List ℕ)
behind_flags words = behind_flag (codes "inhibit-any-policy") (behind_mapping words)

abbrev pub policy_texts : List (List ℕ) → List (List ℕ) → PolicyTexts
policy_texts policies words = record {
  policies = policies;
  require_policy = begin_with (codes "require-policy") words;
  inhibit_mapping = begin_with (codes "inhibit-mapping") (behind_require words);
  inhibit_any_policy = begin_with (codes "inhibit-any-policy") (behind_mapping words);
}

-- the path that stands behind these policies and what else is asked of policies
unfoldable pub path_with_policies_in : List ℕ → Option (List ℕ) → List (List ℕ) → List (List ℕ) → Option Request
path_with_policies_in moment purpose policies words =
    option_map (λ query. check_with_policies query (policy_texts policies words)) (path_texts moment purpose (behind_flags words))

-- if the words begin with policies, that; if not, a path
abbrev pub path_under : List ℕ → Option (List ℕ) → List (List ℕ) → List (List ℕ) → Option Request
path_under moment purpose [] words = path_in moment purpose words
path_under moment purpose (policy ∷ policies) words =
    path_with_policies_in moment purpose (policy ∷ policies) (drop (length (policy ∷ policies)) words)

abbrev pub asked_in : List ℕ → Option (List ℕ) → List (List ℕ) → Option Request
asked_in moment purpose words = path_under moment purpose (first_policies words) words

-- the same behind a purpose, or beginning with the word that names none
abbrev pub asked_behind : List ℕ → Option (List ℕ) → List ℕ → List (List ℕ) → Option Request
asked_behind moment (Some purpose) first words = asked_in moment (Some purpose) words
asked_behind moment None first words = asked_in moment None (first ∷ words)

-- `check TIME [purpose=OID] [policy=OID .. [require-policy] [inhibit-mapping] [inhibit-any-policy]] ANCHOR FILE ..`
abbrev pub check_in : List (List ℕ) → Option Request
check_in (moment ∷ first ∷ words) = asked_behind moment (purpose_in first) first words
check_in _ = None

-- `ANCHORS FILE`, or `ANCHORS AMONG FILE`
abbrev pub search_files : List (List ℕ) → Option SearchFiles
search_files (anchors ∷ file ∷ []) = Some (record { anchors = anchors; among = None; target = file })
search_files (anchors ∷ among ∷ file ∷ []) = Some (record { anchors = anchors; among = Some among; target = file })
search_files _ = None

-- each of them is an operand
abbrev pub search_operands : List (List ℕ) → Option SearchFiles
search_operands words = if are_operands words then search_files words else None

-- one word, or none
abbrev pub if_given : Option (List ℕ) → List (List ℕ)
if_given None = []
if_given (Some word) = word ∷ []

-- what is asked about the certificates in these operands
abbrev pub search_texts : List ℕ → Option (List ℕ) → Option (List ℕ) → SearchFiles → SearchTexts
search_texts moment purpose name files = record {
  moment = moment;
  purpose = purpose;
  name = name;
  anchors = files.anchors ∷ [];
  among = if_given files.among;
  target = files.target;
}

unfoldable pub search_in : List ℕ → Option (List ℕ) → Option (List ℕ) → List (List ℕ) → Option Request
search_in moment purpose name words =
    option_map (λ files. find (search_texts moment purpose name files)) (search_operands words)

-- `name=NAME`
abbrev pub name_in : List ℕ → Option (List ℕ)
name_in word = behind (codes "name=") word

-- the search for a name that a word writes
abbrev pub search_for : List ℕ → Option (List ℕ) → Option (List ℕ) → List (List ℕ) → Option Request
search_for moment purpose None words = None
search_for moment purpose (Some name) words = search_in moment purpose (Some name) words

-- the search that stands behind a name, or begins with the word that names none
abbrev pub search_behind : List ℕ → Option (List ℕ) → Option (List ℕ) → List ℕ → List (List ℕ) → Option Request
search_behind moment purpose (Some name) first words = search_for moment purpose (text_in name) words
search_behind moment purpose None first words = search_in moment purpose None (first ∷ words)

-- `ANCHORS [AMONG] FILE`, or `name=NAME ANCHORS [AMONG] FILE`
abbrev pub named_in : List ℕ → Option (List ℕ) → List (List ℕ) → Option Request
named_in moment purpose (first ∷ words) = search_behind moment purpose (name_in first) first words
named_in moment purpose [] = None

-- the same behind a purpose, or beginning with the word that names none
abbrev pub named_behind : List ℕ → Option (List ℕ) → List ℕ → List (List ℕ) → Option Request
named_behind moment (Some purpose) first words = named_in moment (Some purpose) words
named_behind moment None first words = named_in moment None (first ∷ words)

-- `find TIME [purpose=OID] [name=NAME] ANCHORS [AMONG] FILE`
abbrev pub find_in : List (List ℕ) → Option Request
find_in (moment ∷ first ∷ words) = named_behind moment (purpose_in first) first words
find_in _ = None

-- `KIND ISSUER FILE`
abbrev pub prints_of : Bool → List (List ℕ) → Option Request
prints_of with_parts (kind ∷ issuer ∷ file ∷ []) =
    if are_operands (issuer ∷ file ∷ [])
    then option_map (λ named. prints named with_parts issuer file) (kind_named kind) else None
prints_of with_parts _ = None

-- `search ANCHORS [AMONG] FILE`, behind its first word
unfoldable pub search_prints_in : Bool → List (List ℕ) → Option Request
search_prints_in with_parts words = option_map (search_prints with_parts) (search_operands words)

-- one or the other
unfoldable pub prints_behind : Bool → List (List ℕ) → Option Request
prints_behind with_parts [] = None
prints_behind with_parts (kind ∷ words) =
    if bytes_eq kind (codes "search") then search_prints_in with_parts words
    else prints_of with_parts (kind ∷ words)

-- behind `prints`, or behind `prints parts`
abbrev pub prints_in : List (List ℕ) → Option Request
prints_in [] = None
prints_in (first ∷ words) =
    if bytes_eq first (codes "parts") then prints_behind true words else prints_behind false (first ∷ words)

-- `list [TIME]`
abbrev pub list_in : List (List ℕ) → Option Request
list_in [] = Some (list None)
list_in (moment ∷ []) = Some (list (Some moment))
list_in _ = None

-- `forget` and `quit`
abbrev pub alone : Request → List (List ℕ) → Option Request
alone request [] = Some request
alone request _ = None

-- ---- lines

abbrev pub request_named : List ℕ → List (List ℕ) → Option Request
request_named name words =
    if bytes_eq name (codes "believe") then believe_in words
    else (if bytes_eq name (codes "deliver") then deliver_in words
    else (if bytes_eq name (codes "check") then check_in words
    else (if bytes_eq name (codes "find") then find_in words
    else (if bytes_eq name (codes "prints") then prints_in words
    else (if bytes_eq name (codes "list") then list_in words
    else (if bytes_eq name (codes "forget") then alone forget words
    else (if bytes_eq name (codes "quit") then alone quit words else None)))))))

abbrev pub request_in : List (List ℕ) → Option Request
request_in [] = None
request_in (name ∷ words) = request_named name words

-- a line that is empty or begins with `#` asks for nothing
abbrev pub is_passed_over : List ℕ → Bool
is_passed_over line = (length line == 0) || (slice_index line 0 == 35)

-- What a line asks for: a request in UTF-8, its words parted by single spaces.
abbrev pub request_on : List ℕ → Option Request
request_on line =
    if is_passed_over line then Some nothing
    else (if is_utf8 line then request_in (words_of line) else None)

-- ---- what the code holds

abbrev pub octets_of_words : List (Bor (List ℕ)) → List (List ℕ)
octets_of_words words = map (λ word. word.now) words

abbrev pub seen_files : code.SearchFiles → SearchFiles
seen_files files = record {
  anchors = files.anchors.now;
  among = option_map (λ word. word.now) files.among;
  target = files.target.now;
}

abbrev pub seen_request : Owned → Request
seen_request Nothing = nothing
seen_request (Believe print) = believe print
seen_request (Deliver issuer file) = deliver issuer.now file.now
seen_request (Check words) = check (seen_words words)
seen_request (CheckWithPolicies query policies) =
    check_with_policies (seen_words query) (seen_policy_words policies)
seen_request (Find words name) = find (record (seen_search_words words) { name = option_map (λ text. string_bytes text) name })
seen_request (Prints kind with_parts issuer file) = prints kind with_parts issuer.now file.now
seen_request (SearchPrints with_parts files) = search_prints with_parts (seen_files files)
seen_request (Held moment) = list (option_map (λ text. text.now) moment)
seen_request Forget = forget
seen_request Quit = quit

-- there is no request, or memory ran out
abbrev pub IsNone : {A : Type 0} → Option A → RequestFault → Type 0
IsNone found Malformed = found ≡ None
IsNone found Memory = Unit {0}

-- the same of a test that fails
abbrev pub IsFalse : Bool → RequestFault → Type 0
IsFalse test Malformed = test ≡ false
IsFalse test Memory = Unit {0}
