-- The extensions of a list (RFC 5280, 5.2).
use Rattle.std.specs.Prelude.{ℕ, ◌==◌, not, List, [], Option, Some, None, Result, Ok, Err, if◌then◌else◌}
use Rattle.std.specs.FinSet.{empty}
use Rattle.asn.specs.Place.{Place, body}
use Rattle.asn.specs.Members.{Members, members}
use Rattle.asn.specs.Walk.{◌>>=◌, seen, check_that, or_fault, is_a, required, next_or, some, ended, each}
use Rattle.cert.specs.Extension.{Extension}
use Rattle.cert.specs.Extensions.{certificate_extension}
use Rattle.cert.specs.OidSet.{Oids, oids_in}
use Rattle.statements_facts.specs.declared.scope.Scope.{Scope}
use Rattle.statements_facts.specs.declared.scope.Scope.TheVariants.{All}
use Rattle.statements_parts.specs.Parts.{new_extension}
use Rattle.statements_crl.specs.declared.list_extension.ListExtensionKind.{ListExtensionKind}
use Rattle.statements_crl.specs.declared.list_extension.ListExtensionKind.TheVariants as Kind
use Rattle.statements_crl.specs.declared.list_extension.ListExtensions as read_of
use Rattle.statements_crl.specs.declared.list_extension.TakenOfList as taken
use Rattle.statements_crl.specs.declared.list_extension.NumberAndScope as told
use Rattle.statements_parts.specs.declared.fault.StatementRule.{StatementRule}
use Rattle.statements_parts.specs.declared.fault.StatementRule.TheVariants as R
use Rattle.statements_crl.specs.CrlNumber.{number_in}
use Rattle.statements_facts.specs.declared.profile.Profile.{Profile}
use Rattle.cert_points.specs.CompleteNames.{names_if_any}
use Rattle.statements_crl.specs.IssuingPoint.{IssuingPoint, issuing_point}

-- cRLNumber (5.2.3), deltaCRLIndicator (5.2.4) and issuingDistributionPoint (5.2.5), by the number behind id-ce
abbrev pub list_kind_of_number : ℕ → ListExtensionKind
list_kind_of_number number =
    if number == 20 then Kind.CrlNumber
    else (if number == 27 then Kind.DeltaIndicator
    else (if number == 28 then Kind.IssuingDistributionPoint else Kind.Other))

abbrev pub list_kind_in : Option ℕ → ListExtensionKind
list_kind_in None = Kind.Other
list_kind_in (Some number) = list_kind_of_number number

unfoldable pub list_extension_kind : List ℕ → ListExtensionKind
list_extension_kind oid = list_kind_in (certificate_extension oid)

-- What the extensions say so far: the contents octets of the number, the scope, and the names of the point.
pub record ListExtensions : Type 0 where
  pub number : Option (List ℕ)
  pub scope : Scope
  pub points : List (List ℕ)

abbrev pub seen_said : read_of.ListExtensions → ListExtensions
seen_said read = record { number = seen (λ number. number.contents.now) read.number; scope = read.scope; points = names_if_any read.points }

abbrev pub no_list_extensions : ListExtensions
no_list_extensions = record { number = None; scope = All; points = [] }

abbrev pub numbered : ListExtensions → List ℕ → ListExtensions
numbered before number = record { number = Some number; scope = before.scope; points = before.points }

abbrev pub issued_at : ListExtensions → IssuingPoint → ListExtensions
issued_at before point = record { number = before.number; scope = point.scope; points = point.points }

-- What is known once one more extension was read. A delta list is not served, and a critical extension has to be known.
abbrev pub said_with : Profile → ListExtensionKind → Extension → ListExtensions → Result ListExtensions (StatementRule × ℕ)
said_with profile Kind.CrlNumber e before = or_fault (number_in (body e.value)) R.NumberRange e.whole.at >>= λ number. Ok (numbered before number)
said_with profile Kind.DeltaIndicator e before = Err (R.Delta, e.whole.at)
said_with profile Kind.IssuingDistributionPoint e before = or_fault (issuing_point profile e.value) R.Scope e.whole.at >>= λ point. Ok (issued_at before point)
said_with profile Kind.Other e before = check_that (not e.critical) R.CriticalUnknown e.whole.at >>= λ free. Ok before

unfoldable pub said_by : Profile → Extension → ListExtensions → Result ListExtensions (StatementRule × ℕ)
said_by profile e before = said_with profile (list_extension_kind e.oid) e before

pub record TakenOfList : Type 0 where
  pub types : Oids
  pub said : ListExtensions

abbrev pub seen_taken_of_list : taken.TakenOfList → TakenOfList
seen_taken_of_list read = record { types = oids_in read.types; said = seen_said read.said }

abbrev pub nothing_taken_of_list : TakenOfList
nothing_taken_of_list = record { types = empty; said = no_list_extensions }

-- One more extension, of a type that none of the earlier ones has.
unfoldable pub one_list_extension : Profile → TakenOfList → Place → Result TakenOfList (StatementRule × ℕ)
one_list_extension profile earlier value = do
  read ← new_extension earlier.types value
  said ← said_by profile read.0 earlier.said
  Ok (record { types = read.1; said = said })

-- the extensions that these values are, one after the other
abbrev pub all_list_extensions : Profile → Members → Result TakenOfList (StatementRule × ℕ)
all_list_extensions profile left = each (one_list_extension profile) nothing_taken_of_list left.values

-- What a list is told by its extensions: the contents octets of its number, its scope, and the names of the point where it is published.
pub record NumberAndScope : Type 0 where
  pub number : List ℕ
  pub scope : Scope
  pub points : List (List ℕ)

abbrev pub seen_named : told.NumberAndScope → NumberAndScope
seen_named read = record { number = read.number.contents.now; scope = read.scope; points = names_if_any read.points }

-- Extensions ::= SEQUENCE SIZE (1..MAX) OF Extension, one of which is the number
abbrev pub named : ListExtensions → ℕ → Result NumberAndScope (StatementRule × ℕ)
named said end = or_fault said.number R.NoNumber end >>= λ number. Ok (record { number = number; scope = said.scope; points = said.points })

unfoldable pub number_and_scope : Profile → Place → Result NumberAndScope (StatementRule × ℕ)
number_and_scope profile list = do
  sequence ← is_a 0x30 R.Layout list
  one ← some R.Layout (members list)
  taken ← all_list_extensions profile (members list)
  named taken.said (members list).end

-- crlExtensions [0] EXPLICIT Extensions, which have to be there
unfoldable pub list_extensions : Profile → Members → Result (NumberAndScope × Members) (StatementRule × ℕ)
list_extensions profile left = do
  any ← some R.NoNumber left
  explicit ← required 0xA0 R.Layout left
  list ← next_or R.Layout (members explicit.0)
  said ← number_and_scope profile list.0
  done ← ended R.Layout list.1
  Ok (said, explicit.1)
