-- Names of few and short attributes have keys: each number in them fits.
use Rattle.std.proofs.Common.{◌≡◌, ◌<◌, ◌≤◌, ◌+◌, ◌^◌, ℕ, List, [], ◌∷◌, length, Bool, true, false, cond, sym, ◌∙◌, ap, subst, arith, length-append}
use Rattle.std.specs.List.{AllByRecursion, filter, slice_split, join_with_byte}
use Rattle.std.specs.declared.cmp.Ordering.{Ordering}
use Rattle.std.specs.declared.cmp.Ordering.TheVariants.{Less, Equal, Greater}
use Rattle.std.specs.Ordering.{nat_cmp}
use Rattle.std.specs.Char.{to_ascii_lowercase}
use Rattle.std.specs.Cmp.Lexicographic.{slice_cmp}
use Rattle.std.specs.FinMap.{put, entries, from_entries, len-entries, len-empty, entries-insert}
use Rattle.std.specs.FinMap.Entries.{by_order}
use Rattle.std.proofs.lemmas.Bool.{cond-true, lt-ltb}
use Rattle.std.proofs.lemmas.Cmp.{nat_list_cmp_total}
use Rattle.std.proofs.lemmas.List.{nil_from_length, length-map}
use Rattle.std.proofs.lemmas.List.Splits.{join_with_byte-slice_split}
use Rattle.names_text.specs.Preparation.{is_space, has_octets, lowered, words, prepared}
use Rattle.names_distinguished.specs.AttributeValue.{ComparedValue, Text, Other}
use Rattle.names_distinguished.specs.DistinguishedName.{ComparedAttribute, rdn_map}
use Rattle.names_distinguished.specs.NameKey.{ValueFits, EntryFits, RdnFits, SetFits}
use Rattle.names_text.proofs.Laws.{slice_split_nonempty, spaced, join_first}

-- a prepared text is no longer than the text
spaced_filter : (parts : List (List ℕ)) → length (spaced (filter has_octets parts)) ≤ length (spaced parts)
spaced_filter [] = omega arith
spaced_filter ([] ∷ parts) = let rest = spaced_filter parts in omega arith
spaced_filter ((c ∷ part) ∷ parts) =
    let rest = spaced_filter parts in
    let passes = lt-ltb 0 (length (c ∷ part)) (omega arith) in
    let e : filter has_octets ((c ∷ part) ∷ parts) ≡ (c ∷ part) ∷ filter has_octets parts =
    cond-true (has_octets (c ∷ part)) ((c ∷ part) ∷ filter has_octets parts) (filter has_octets parts) passes in
    let n : length (spaced (filter has_octets ((c ∷ part) ∷ parts))) ≡ length (spaced ((c ∷ part) ∷ filter has_octets parts)) =
    ap (λ (ws : List (List ℕ)). length (spaced ws)) e in
    omega (arith, n, length-append part (spaced (filter has_octets parts)), length-append part (spaced parts))

join_length : (parts : List (List ℕ)) → 0 < length parts → length (join_with_byte 32 parts) + 1 ≡ length (spaced parts)
join_length [] some = absurd (omega arith)
join_length (part ∷ parts) some = omega (arith, ap length (join_first part parts))

join_short : (ws : List (List ℕ)) (n : ℕ) → length (spaced ws) ≤ n → 0 < n → length (join_with_byte 32 ws) + 1 ≤ n
join_short [] n le some = omega arith
join_short (w ∷ ws) n le some = omega (arith, join_length (w ∷ ws) (omega arith))

pub prepared_short : (text : List ℕ) → length (prepared text) ≤ length text
unfolding words
prepared_short text =
    let parts = slice_split is_space (lowered text) in
    let n : length (join_with_byte 32 parts) + 1 ≡ length (spaced parts) = join_length parts (slice_split_nonempty is_space (lowered text)) in
    let whole : length (join_with_byte 32 parts) ≡ length text = ap length (join_with_byte-slice_split 32 (lowered text)) ∙ length-map text to_ascii_lowercase in
    let short = join_short (filter has_octets parts) (length (spaced parts)) (spaced_filter parts) (omega arith) in
    omega arith

pub value_fits : (b : Bool) (text octets : List ℕ) → length text < 2 ^ 32 → length octets < 2 ^ 32 → ValueFits (cond b (Text text) (Other octets))
value_fits true text octets p q = p
value_fits false text octets p q = q

-- what is put into a map
fits_put : (k : List ℕ) (v : ComparedValue) (es : List ComparedAttribute) → EntryFits (k, v) → AllByRecursion EntryFits es → AllByRecursion EntryFits (put (slice_cmp nat_cmp) k v es)
fits_put k v [] h all = (h, tt)
fits_put k v (e ∷ es) h all =
    elim (slice_cmp nat_cmp k e.0) as (λ (o : Ordering). AllByRecursion EntryFits (by_order {A = List ComparedAttribute} o ((k, v) ∷ e ∷ es) ((e.0, v) ∷ es) (e ∷ put (slice_cmp nat_cmp) k v es))) [
      | Less ↦ (h, all)
      | Equal ↦ (record { type_fits = all.0.type_fits; value_fits = h.value_fits }, all.1)
      | Greater ↦ (all.0, fits_put k v es h all.1)
    ]

length_put : (k : List ℕ) (v : ComparedValue) (es : List ComparedAttribute) → length (put (slice_cmp nat_cmp) k v es) ≤ length es + 1
length_put k v [] = omega arith
length_put k v (e ∷ es) =
    elim (slice_cmp nat_cmp k e.0) as (λ (o : Ordering). length (by_order {A = List ComparedAttribute} o ((k, v) ∷ e ∷ es) ((e.0, v) ∷ es) (e ∷ put (slice_cmp nat_cmp) k v es)) ≤ length (e ∷ es) + 1) [
      | Less ↦ omega arith
      | Equal ↦ omega arith
      | Greater ↦ let rest = length_put k v es in omega arith
    ]

entries_none : entries (rdn_map []) ≡ []
unfolding rdn_map
entries_none = nil_from_length (entries (rdn_map [])) (sym (len-entries (rdn_map [])) ∙ len-empty (slice_cmp nat_cmp) ComparedValue)

entries_more : (e : ComparedAttribute) (es : List ComparedAttribute) → entries (rdn_map (e ∷ es)) ≡ put (slice_cmp nat_cmp) e.0 e.1 (entries (rdn_map es))
unfolding rdn_map
entries_more e es = entries-insert nat_list_cmp_total (from_entries es) e.0 e.1

fits_entries : (es : List ComparedAttribute) → AllByRecursion EntryFits es → AllByRecursion EntryFits (entries (rdn_map es))
fits_entries [] all = subst (AllByRecursion EntryFits) (sym entries_none) tt
fits_entries (e ∷ es) all =
    subst (AllByRecursion EntryFits) (sym (entries_more e es)) (fits_put e.0 e.1 (entries (rdn_map es)) all.0 (fits_entries es all.1))

length_entries : (es : List ComparedAttribute) → length (entries (rdn_map es)) ≤ length es
length_entries [] = omega (arith, ap length entries_none)
length_entries (e ∷ es) = omega (arith, ap length (entries_more e es), length_put e.0 e.1 (entries (rdn_map es)), length_entries es)

-- the numbers of a set fit
pub set_fits : (es : List ComparedAttribute) → SetFits es → RdnFits (rdn_map es)
set_fits es set = let count = set.count in record { count_fits = omega (arith, length_entries es); each = fits_entries es set.each }
