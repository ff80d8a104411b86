-- The extensions of an entry (RFC 5280, 5.3).
use Rattle.std.specs.Prelude.{ℕ, ◌==◌, ◌&&◌, not, List, [], ◌∷◌, Option, Some, None, Result, Ok, Err, if◌then◌else◌}
use Rattle.std.specs.FinSet.{empty}
use Rattle.std.specs.Result.{result_unwrap_or}
use Rattle.asn.specs.Place.{Place, body}
use Rattle.asn.specs.Members.{Members, members}
use Rattle.asn.specs.Walk.{◌>>=◌, check_that, or_fault, optional, some, each}
use Rattle.cert.specs.Extension.{Extension, extension}
use Rattle.cert.specs.Extensions.{certificate_extension}
use Rattle.cert.specs.OidSet.{Oids, oids_in}
use Rattle.statements_parts.specs.Parts.{is_reason, new_extension}
use Rattle.statements_crl.specs.declared.entry_extension.EntryExtensionKind.{EntryExtensionKind}
use Rattle.statements_crl.specs.declared.entry_extension.EntryExtensionKind.TheVariants as Kind
use Rattle.statements_crl.specs.declared.entry_extension.TakenOfEntry as taken
use Rattle.statements_parts.specs.declared.fault.StatementRule.{StatementRule}
use Rattle.statements_parts.specs.declared.fault.StatementRule.TheVariants.{Layout, Indirect, CriticalUnknown, BadReason, RemoveInComplete}

-- reasonCode (5.3.1), invalidityDate (5.3.2) and certificateIssuer (5.3.3), by the number behind id-ce
abbrev pub entry_kind_of_number : ℕ → EntryExtensionKind
entry_kind_of_number number =
    if number == 21 then Kind.ReasonCode
    else (if number == 24 then Kind.InvalidityDate
    else (if number == 29 then Kind.CertificateIssuer else Kind.Other))

abbrev pub entry_kind_in : Option ℕ → EntryExtensionKind
entry_kind_in None = Kind.Other
entry_kind_in (Some number) = entry_kind_of_number number

unfoldable pub entry_extension_kind : List ℕ → EntryExtensionKind
entry_extension_kind oid = entry_kind_in (certificate_extension oid)

-- the CRLReason whose encoding these octets are, all of them
unfoldable pub encoded_reason : List ℕ → Option ℕ
encoded_reason [] = None
encoded_reason (identifier ∷ []) = None
encoded_reason (identifier ∷ size ∷ []) = None
encoded_reason (identifier ∷ size ∷ code ∷ []) = if identifier == 0x0A && (size == 1 && is_reason code) then Some code else None
encoded_reason (identifier ∷ size ∷ code ∷ other ∷ octets) = None

-- The reason that a reasonCode gives. removeFromCRL is for delta lists alone.
unfoldable pub reason_code : Extension → Result ℕ (StatementRule × ℕ)
reason_code e = do
  code ← or_fault (encoded_reason (body e.value)) BadReason e.whole.at
  complete ← check_that (not (code == 8)) RemoveInComplete e.whole.at
  Ok code

-- What is known of the reason once one more extension was read. An entry for a certificate of another issuer is not served, and
-- a critical extension has to be known.
abbrev pub reason_by_kind : EntryExtensionKind → Extension → ℕ → Result ℕ (StatementRule × ℕ)
reason_by_kind Kind.ReasonCode e before = reason_code e
reason_by_kind Kind.InvalidityDate e before = Ok before
reason_by_kind Kind.CertificateIssuer e before = Err (Indirect, e.whole.at)
reason_by_kind Kind.Other e before = check_that (not e.critical) CriticalUnknown e.whole.at >>= λ free. Ok before

unfoldable pub reason_with : Extension → ℕ → Result ℕ (StatementRule × ℕ)
reason_with e before = reason_by_kind (entry_extension_kind e.oid) e before

-- The types that were taken, and the reason so far: unspecified where none is given.
pub record TakenOfEntry : Type 0 where
  pub types : Oids
  pub reason : ℕ

abbrev pub seen_taken_of_entry : taken.TakenOfEntry → TakenOfEntry
seen_taken_of_entry read = record { types = oids_in read.types; reason = read.reason }

abbrev pub nothing_taken_of_entry : TakenOfEntry
nothing_taken_of_entry = record { types = empty; reason = 0 }

-- One more extension, of a type that none of the earlier ones has.
unfoldable pub one_entry_extension : TakenOfEntry → Place → Result TakenOfEntry (StatementRule × ℕ)
one_entry_extension earlier value = do
  read ← new_extension earlier.types value
  reason ← reason_with read.0 earlier.reason
  Ok (record { types = read.1; reason = reason })

-- the extensions that these values are, one after the other
abbrev pub all_entry_extensions : Members → Result TakenOfEntry (StatementRule × ℕ)
all_entry_extensions left = each one_entry_extension nothing_taken_of_entry left.values

-- the reason that they give
abbrev pub reason_of_all : Members → Result ℕ (StatementRule × ℕ)
reason_of_all left = all_entry_extensions left >>= λ taken. Ok taken.reason

-- the reason that an extension gives which is the only one: no other has its type
abbrev pub reason_of_one : Place → Result ℕ (StatementRule × ℕ)
reason_of_one value = extension Layout value >>= λ read. reason_with read 0

-- crlEntryExtensions Extensions OPTIONAL: the reason that they give
abbrev pub reason_of_list : Option Place → Members → Result (ℕ × Members) (StatementRule × ℕ)
reason_of_list None left = Ok (0, left)
reason_of_list (Some list) left = do
  one ← some Layout (members list)
  taken ← all_entry_extensions (members list)
  Ok (taken.reason, left)

unfoldable pub optional_reason : Members → Result (ℕ × Members) (StatementRule × ℕ)
optional_reason left = reason_of_list (optional 0x30 left).0 (optional 0x30 left).1

-- The same of extensions that were read once: no type is looked at twice, so that no set of them is kept.
unfoldable pub reason_after : ℕ → Place → ℕ
reason_after before value = result_unwrap_or (extension Layout value >>= λ read. reason_with read before) before

abbrev pub reason_behind : ℕ → List Place → ℕ
reason_behind before [] = before
reason_behind before (value ∷ values) = reason_behind (reason_after before value) values

abbrev pub reason_given : Option Place → ℕ
reason_given None = 0
reason_given (Some list) = reason_behind 0 (members list).values
