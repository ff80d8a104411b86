-- A name of fewer than 2^31 octets has a key: each number in it fits.
use Rattle.std.proofs.Common.{◌≡◌, ◌<◌, ◌≤◌, ◌^◌, ℕ, List, [], ◌∷◌, length, map, refl, ap, ◌∙◌, arith, Result, Ok, Err, lit<, subst}
use Rattle.std.proofs.lemmas.List.{length-map}
use Rattle.std.specs.List.{AllByRecursion}
use Rattle.asn.specs.Place.{Place, tag, body, remaining, values}
use Rattle.asn.specs.Members.{members, members_at}
use Rattle.asn.specs.Walk.{◌>>=◌, is_a, required, next_or, ended}
use Rattle.asn.proofs.Laws.{bind_ok, ok_is, required_ok, next_or_ok, values_count, values_short, members_count, members_short, body_short}
use Rattle.names_distinguished.specs.declared.fault.NameRule.{NameRule}
use Rattle.names_distinguished.specs.declared.fault.NameRule.TheVariants.{NameLayout}
use Rattle.names_distinguished.specs.declared.rdn_sequence.RdnSequence.{RdnSequence}
use Rattle.names_distinguished.specs.AttributeValue.{is_text}
use Rattle.names_distinguished.specs.NameLayout.{AttributePlaces, attribute_members}
use Rattle.names_distinguished.specs.NameParts.{entry_of_parts, entry_in, entry_at, map_at}
use Rattle.names_distinguished.specs.NameKey.{EntryFits, RdnFits, NameFits}
use Rattle.names_distinguished.specs.NameView.{maps_of}
use Rattle.names_distinguished.proofs.Fits.{value_fits, prepared_short, set_fits}

abbrev IsUpTo : ℕ → Place → Type 0
IsUpTo most place = length place.octets ≤ most

-- the first of some places, and the second
heads : (most : ℕ) (places rest more : List Place) (first second : Place) → places ≡ first ∷ rest → rest ≡ second ∷ more → AllByRecursion (IsUpTo most) places → (IsUpTo most first) × (IsUpTo most second)
heads most places rest more first second e f all =
    let h : AllByRecursion (IsUpTo most) (first ∷ second ∷ more) = subst (λ (ps : List Place). AllByRecursion (IsUpTo most) ps) (e ∙ ap (λ (ps : List Place). first ∷ ps) f) all in
    (h.0, h.1.0)

-- type and value of an attribute are no longer than it
parts_short : (place : Place) (parts : AttributePlaces) → attribute_members place ≡ Ok parts → (length parts.kind.octets ≤ length place.octets) × (length parts.value.octets ≤ length place.octets)
unfolding attribute_members
parts_short place parts e =
    let a = bind_ok (is_a 0x30 NameLayout place) (λ sequence. required 6 NameLayout (members place) >>= λ kind. next_or NameLayout kind.1 >>= λ value. ended NameLayout value.1 >>= λ done. Ok (record { kind = kind.0; value = value.0 })) parts e in
    let k = bind_ok (required 6 NameLayout (members place)) (λ kind. next_or NameLayout kind.1 >>= λ value. ended NameLayout value.1 >>= λ done. Ok (record { kind = kind.0; value = value.0 })) parts a.2 in
    let v = bind_ok (next_or NameLayout k.0.1) (λ value. ended NameLayout value.1 >>= λ done. Ok (record { kind = k.0.0; value = value.0 })) parts k.2 in
    let d = bind_ok (ended NameLayout v.0.1) (λ done. Ok (record { kind = k.0.0; value = v.0.0 })) parts v.2 in
    let made : AttributePlaces = record { kind = k.0.0; value = v.0.0 } in
    let same : made ≡ parts = ok_is {E = NameRule × ℕ} made parts d.2 in
    let takes = required_ok 6 NameLayout (members place) k.0 k.1 in
    let h = heads (length place.octets) ((members place).values) k.0.1.values v.0.1.values k.0.0 v.0.0 takes.values (next_or_ok NameLayout k.0.1 v.0 v.1).values (members_short place) in
    (rw (← same) h.0, rw (← same) h.1)

entry_fits : (parts : AttributePlaces) → length parts.kind.octets < 2 ^ 31 → length parts.value.octets < 2 ^ 31 → EntryFits (entry_of_parts parts)
entry_fits parts kind value =
    let k = body_short parts.kind in
    let v = body_short parts.value in
    let p = prepared_short (body parts.value) in
    record { type_fits = omega arith; value_fits = value_fits (is_text (tag parts.value)) _ _ (omega arith) (omega arith) }

read_fits : (place : Place) (r : Result AttributePlaces (NameRule × ℕ)) → attribute_members place ≡ r → length place.octets < 2 ^ 31 → EntryFits (entry_in r)
read_fits place (Err fault) e short = record { type_fits = lit< tt; value_fits = lit< tt }
read_fits place (Ok parts) e short =
    let s = parts_short place parts e in
    entry_fits parts (omega (arith, s.0)) (omega (arith, s.1))

entries_fit : (places : List Place) (most : ℕ) → most < 2 ^ 31 → AllByRecursion (IsUpTo most) places → AllByRecursion EntryFits (map entry_at places)
unfolding entry_at
entries_fit [] most short all = tt
entries_fit (p ∷ ps) most short all =
    let h = all.0 in
    (read_fits p (attribute_members p) refl (omega arith), entries_fit ps most short all.1)

map_fits : (place : Place) → length place.octets < 2 ^ 31 → RdnFits (map_at place)
unfolding map_at
map_fits place short =
    let n = members_count place in
    let l = length-map ((members place).values) entry_at in
    set_fits (map entry_at (members place).values) record {
      count = omega arith;
      each = entries_fit ((members place).values) (length place.octets) short (members_short place);
    }

maps_fit : (places : List Place) (most : ℕ) → most < 2 ^ 31 → AllByRecursion (IsUpTo most) places → AllByRecursion RdnFits (map map_at places)
maps_fit [] most short all = tt
maps_fit (p ∷ ps) most short all =
    let h = all.0 in
    (map_fits p (omega arith), maps_fit ps most short all.1)

pub sequence_fits : (sequence : RdnSequence) → NameFits (maps_of sequence)
unfolding maps_of members_at
sequence_fits sequence =
    let text = remaining sequence.rdns in
    let short = sequence.short in
    let n = values_count text in
    let l = length-map (values text) map_at in
    record {
      count_fits = omega arith;
      each = maps_fit (values text) (length text.octets) short (values_short text);
    }
