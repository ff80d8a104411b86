-- The lines of a listing.
use Rattle.std.specs.Prelude.{ℕ, ℤ, ◌==◌, ◌<◌, int_lt, List, ◌++◌, find, codes, Option, Some, None, if◌then◌else◌}
use Rattle.std.specs.List.{flat_map}
use Rattle.std.specs.Fmt.{decimal}
use Rattle.hex.specs.Hex.{encode_lower}
use Rattle.sha2.specs.Sha256.{sha256}
use Rattle.sqlite_trees.specs.Tree.{IsAscending}
use Rattle.statements_facts.specs.declared.scope.Scope.{Scope}
use Rattle.statements_facts.specs.declared.scope.Scope.TheVariants.{All, User, Ca}
use Rattle.statements_facts.specs.declared.single.Status.{Status}
use Rattle.statements_facts.specs.declared.single.Status.TheVariants.{Good, Revoked, Unknown}
use Rattle.statements_facts.specs.Statement.{OcspFact}
use Rattle.store_rows.specs.Contents.{IssuerRow}
use Rattle.store_listing.specs.Listing.{ListedCrl, ListedSingle, Overview}
use Rattle.cli_listing.specs.MomentText.{moment_text}
use Rattle.cli_listing.specs.NumberText.{number_text}
use Rattle.cli_listing.specs.PointText.{issuer_point_text}

-- an issuer by the SHA-256 of its subjectPublicKeyInfo; a dash where the listing has none under the id
abbrev pub issuer_text : Option IssuerRow → List ℕ
issuer_text None = codes "-"
issuer_text (Some row) = encode_lower (sha256 row.identity.key_info)

abbrev pub issuer_under : List IssuerRow → ℕ → Option IssuerRow
issuer_under issuers id = find (λ row. row.id == id) issuers

abbrev pub scope_text : Scope → List ℕ
scope_text All = codes " all"
scope_text User = codes " user"
scope_text Ca = codes " ca"

abbrev pub held_status_text : Status → List ℕ
held_status_text Good = codes " good"
held_status_text (Revoked reason) = codes " revoked " ++ decimal reason
held_status_text Unknown = codes " unknown"

abbrev pub window_text : ℤ → ℤ → List ℕ
window_text from until = (codes " from " ++ moment_text from) ++ (codes " until " ++ moment_text until)

-- whether it is in force at the moment that is asked about, where one is: thisUpdate is not after it, nextUpdate not before it
abbrev pub state_text : ℤ → ℤ → ℤ → List ℕ
state_text from until moment = if int_lt moment from then codes " not-yet" else (if int_lt until moment then codes " lapsed" else codes " current")

abbrev pub state_at : Option ℤ → ℤ → ℤ → List ℕ
state_at None from until = codes "\n"
state_at (Some moment) from until = state_text from until moment ++ codes "\n"

-- crl ISSUER SCOPE [point NAME] number N from T until T entries K
unfoldable pub list_head_text : Option IssuerRow → ListedCrl → List ℕ
list_head_text issuer list =
    (codes "crl " ++ issuer_text issuer) ++ scope_text list.scope ++ issuer_point_text issuer
    ++ (codes " number " ++ number_text list.head.number)

abbrev pub list_line : Option IssuerRow → Option ℤ → ListedCrl → List ℕ
list_line issuer at list =
    list_head_text issuer list ++ window_text list.head.window.from list.head.window.until
    ++ (codes " entries " ++ decimal list.entries) ++ state_at at list.head.window.from list.head.window.until

-- ocsp ISSUER NAMEHASH serial S this T produced T from T until T STATUS
abbrev pub single_head_text : Option IssuerRow → ListedSingle → List ℕ
single_head_text issuer listed = (codes "ocsp " ++ issuer_text issuer) ++ (codes " " ++ encode_lower listed.single.name_hash) ++ (codes " serial " ++ encode_lower listed.single.serial)

abbrev pub times_text : OcspFact → List ℕ
times_text fact = (codes " this " ++ moment_text fact.times.this_update) ++ (codes " produced " ++ moment_text fact.times.produced_at) ++ window_text fact.window.from fact.window.until

abbrev pub held_single_line : Option IssuerRow → Option ℤ → ListedSingle → List ℕ
held_single_line issuer at listed =
    single_head_text issuer listed ++ times_text listed.single.fact
    ++ held_status_text listed.single.fact.status ++ state_at at listed.single.fact.window.from listed.single.fact.window.until

-- ---- all lines

abbrev pub list_line_of : List IssuerRow → Option ℤ → ListedCrl → List ℕ
list_line_of issuers at list = list_line (issuer_under issuers list.issuer) at list

abbrev pub single_line_of : List IssuerRow → Option ℤ → ListedSingle → List ℕ
single_line_of issuers at listed = held_single_line (issuer_under issuers listed.issuer) at listed

abbrev pub listing_text : Option ℤ → Overview → List ℕ
listing_text at all = flat_map (list_line_of all.issuers at) all.lists ++ flat_map (single_line_of all.issuers at) all.singles

-- the ids of issuers rise, as they do in each store
abbrev pub IdsRise : List IssuerRow → Type 0
IdsRise issuers = IsAscending (λ one other. one.id < other.id) issuers
