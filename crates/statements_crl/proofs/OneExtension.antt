-- Where an entry has one extension, the reason is what that one gives.
use Rattle.std.proofs.Common.{◌≡◌, ℕ, Bool, true, List, [], ◌∷◌, not, Result, Ok, Err, refl, sym, ap, ◌∙◌}
use Rattle.std.specs.FinSet.{contains, contains-empty, empty, insert}
use Rattle.std.specs.Ordering.{nat_cmp}
use Rattle.std.specs.Cmp.Lexicographic.{slice_cmp}
use Rattle.asn.specs.Place.{Place}
use Rattle.asn.specs.Members.{Members, none_left, with_first}
use Rattle.asn.specs.Walk.{◌>>=◌, check_that, each}
use Rattle.asn.proofs.Laws.{check_again}
use Rattle.statements_parts.specs.declared.fault.StatementRule.{StatementRule}
use Rattle.statements_parts.specs.declared.fault.StatementRule.TheVariants.{Layout}
use Rattle.cert.specs.Extension.{Extension, extension}
use Rattle.cert.specs.OidSet.{Oids}
use Rattle.statements_parts.specs.Parts.{new_extension}
use Rattle.statements_crl.specs.EntryExtension.{TakenOfEntry, nothing_taken_of_entry, one_entry_extension, reason_of_all, reason_of_one, reason_with}

abbrev taken_with : Oids → ℕ → TakenOfEntry
taken_with types reason = record { types = types; reason = reason }

abbrev reason_taken : Result TakenOfEntry (StatementRule × ℕ) → Result ℕ (StatementRule × ℕ)
reason_taken taken = taken >>= λ next. Ok next.reason

told : (types : Oids) (reason : Result ℕ (StatementRule × ℕ)) → reason_taken ((reason >>= λ code. Ok (taken_with types code)) >>= λ next. Ok next) ≡ reason
told types (Ok code) = refl
told types (Err fault) = refl

abbrev none : Oids
none = empty

abbrev read_alone : Place → Result Extension (StatementRule × ℕ) → Result (Extension × Oids) (StatementRule × ℕ)
read_alone value read = read >>= λ one. check_that (not (contains none one.oid)) Layout value.at >>= λ new. Ok (one, insert none one.oid)

taken_alone : (value : Place) (read : Result Extension (StatementRule × ℕ)) → reason_taken ((read_alone value read >>= λ read. reason_with read.0 0 >>= λ code. Ok (taken_with read.1 code)) >>= λ next. Ok next) ≡ (read >>= λ one. reason_with one 0)
taken_alone value (Ok one) =
    rw (check_again (not (contains none one.oid)) Layout value.at (ap not (contains-empty (slice_cmp nat_cmp) one.oid))) (told (insert none one.oid) (reason_with one 0))
taken_alone value (Err fault) = refl

-- all of the extensions are this one
pub alone : (value : Place) → reason_taken (each one_entry_extension nothing_taken_of_entry (value ∷ [])) ≡ reason_of_one value
unfolding one_entry_extension new_extension
alone value = taken_alone value (extension Layout value)

alone_of : (value : Place) (others : List Place) (end : ℕ) → none_left (record { values = others; end = end }) ≡ true → reason_of_all (record { values = value ∷ others; end = end }) ≡ reason_of_one value
unfolding none_left
alone_of value [] end last = alone value
alone_of value (other ∷ others) end last = absurd cc

-- the extensions are one, behind which nothing is left
pub reason_alone : (left others : Members) (value : Place) (last : Bool) → left ≡ with_first value others → last ≡ none_left others → last ≡ true → reason_of_all left ≡ reason_of_one value
reason_alone left others value last first ends is = ap reason_of_all first ∙ alone_of value others.values others.end (sym ends ∙ is)
