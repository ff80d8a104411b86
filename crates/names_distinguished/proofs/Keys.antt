use Rattle.std.proofs.Common.{◌≡◌, ◌<◌, ◌^◌, ℕ, List, [], ◌∷◌, ◌++◌, length, take, drop, map, get_or, zero, suc, subst, refl, sym, ◌∙◌, ap, arith, append_assoc, append-nil, length-append}
use Rattle.std.specs.Cmp.{both_ways}
use Rattle.std.specs.List.{flat_map, AllByRecursion}
use Rattle.std.specs.Int.{from_be_bytes, w32}
use Rattle.std.specs.FinMap.{entries, same_entries_map}
use Rattle.std.proofs.lemmas.Bool.Decides.{Decides-eqb}
use Rattle.std.proofs.lemmas.List.{take_at, drop_at}
use Rattle.std.proofs.lemmas.List.Concat.{flat_map-append}
use Rattle.std.proofs.lemmas.Nat.{from_be_bytes-to_be_bytes_4}
use Rattle.std.proofs.lemmas.Slice.Eq.{starts_is}
use Rattle.names_distinguished.specs.declared.attribute.Attribute.{Attribute}
use Rattle.names_distinguished.specs.NameView.{entry_of}
use Rattle.names_distinguished.specs.AttributeValue.{ComparedValue, Text, Other}
use Rattle.names_distinguished.specs.DistinguishedName.{ComparedAttribute, RdnMap}
use Rattle.names_distinguished.specs.NameKey.{four_octets, counted, value_key, entry_key, rdn_key, name_key, rdns_key, ValueFits, EntryFits, RdnFits, NameFits, KeyIsExact, KeyTellsItsEnd, WithinIsByKeys}
use Rattle.names_distinguished.specs.NameOctets.{rdns_of, KeysDecideWithin, KeysTellTheirEnd}
use Rattle.names_distinguished.proofs.Matching.{within_is_exact}
use Rattle.names_distinguished.proofs.SequenceFits.{sequence_fits}

-- two equal joined lists whose first parts are of one length
same_fronts : {X : Type 0} (a b c d : List X) → a ++ b ≡ c ++ d → length a ≡ length c → (a ≡ c) × (b ≡ d)
same_fronts a b c d e n = (
  sym (take_at a b (length a) refl) ∙ (ap (λ (l : List _). take (length a) l) e ∙ take_at c d (length a) (sym n)),
  sym (drop_at a b (length a) refl) ∙ (ap (λ (l : List _). drop (length a) l) e ∙ drop_at c d (length a) (sym n)),
)

number_apart : (m n : ℕ) (r s : List ℕ) → m < 2 ^ 32 → n < 2 ^ 32 → four_octets m ++ r ≡ four_octets n ++ s → (m ≡ n) × (r ≡ s)
number_apart m n r s p q e =
    let both = same_fronts (four_octets m) r (four_octets n) s e refl in
    (sym (from_be_bytes-to_be_bytes_4 m p) ∙ (ap (from_be_bytes w32) both.0 ∙ from_be_bytes-to_be_bytes_4 n q), both.1)

counted_apart : (x y r s : List ℕ) → length x < 2 ^ 32 → length y < 2 ^ 32 → counted x ++ r ≡ counted y ++ s → (x ≡ y) × (r ≡ s)
counted_apart x y r s p q e =
    let f : four_octets (length x) ++ (x ++ r) ≡ four_octets (length y) ++ (y ++ s) = sym (append_assoc (four_octets (length x)) x r) ∙ (e ∙ append_assoc (four_octets (length y)) y s) in
    let n = number_apart (length x) (length y) (x ++ r) (y ++ s) p q f in
    same_fronts x r y s n.1 n.0

value_apart : (v w : ComparedValue) (r s : List ℕ) → ValueFits v → ValueFits w → value_key v ++ r ≡ value_key w ++ s → (v ≡ w) × (r ≡ s)
value_apart (Text x) (Text y) r s p q e =
    let f : counted x ++ r ≡ counted y ++ s = cc in
    let b = counted_apart x y r s p q f in
    (ap Text b.0, b.1)
value_apart (Other x) (Other y) r s p q e =
    let f : counted x ++ r ≡ counted y ++ s = cc in
    let b = counted_apart x y r s p q f in
    (ap Other b.0, b.1)
value_apart (Text x) (Other y) r s p q e = let h : ◌≡◌ {A = ℕ} 1 0 = cc in absurd (omega arith)
value_apart (Other x) (Text y) r s p q e = let h : ◌≡◌ {A = ℕ} 0 1 = cc in absurd (omega arith)

entry_apart : (d e : ComparedAttribute) (r s : List ℕ) → EntryFits d → EntryFits e → entry_key d ++ r ≡ entry_key e ++ s → (d ≡ e) × (r ≡ s)
entry_apart d e r s p q h =
    let f : counted d.0 ++ (value_key d.1 ++ r) ≡ counted e.0 ++ (value_key e.1 ++ s) =
    sym (append_assoc (counted d.0) (value_key d.1) r) ∙ (h ∙ append_assoc (counted e.0) (value_key e.1) s) in
    let a = counted_apart d.0 e.0 (value_key d.1 ++ r) (value_key e.1 ++ s) p.type_fits q.type_fits f in
    let b = value_apart d.1 e.1 r s p.value_fits q.value_fits a.1 in
    (λ i. (a.0 i, b.0 i), b.1)

-- encodings that say where they end, one after another
module _ {X : Type 0} (f : X → List ℕ) (Fit : X → Type 0) (apart : (x y : X) (r s : List ℕ) → Fit x → Fit y → f x ++ r ≡ f y ++ s → (x ≡ y) × (r ≡ s)) where
  all_apart : (xs ys : List X) (r s : List ℕ) → AllByRecursion Fit xs → AllByRecursion Fit ys → length xs ≡ length ys → flat_map f xs ++ r ≡ flat_map f ys ++ s → (xs ≡ ys) × (r ≡ s)
  all_apart [] [] r s p q n e = (refl, e)
  all_apart [] (y ∷ ys) r s p q n e = absurd (omega arith)
  all_apart (x ∷ xs) [] r s p q n e = absurd (omega arith)
  all_apart (x ∷ xs) (y ∷ ys) r s p q n e =
      let h : f x ++ (flat_map f xs ++ r) ≡ f y ++ (flat_map f ys ++ s) = sym (append_assoc (f x) (flat_map f xs) r) ∙ (e ∙ append_assoc (f y) (flat_map f ys) s) in
      let a = apart x y (flat_map f xs ++ r) (flat_map f ys ++ s) p.0 q.0 h in
      let b = all_apart xs ys r s p.1 q.1 (omega arith) a.1 in
      let c : x ∷ xs ≡ y ∷ ys = cc in
      (c, b.1)

  -- none is empty: a list whose encoding begins with that of another begins with it
  all_begin : ((x : X) → 0 < length (f x)) → (xs ys : List X) (r : List ℕ) → AllByRecursion Fit xs → AllByRecursion Fit ys → flat_map f xs ≡ flat_map f ys ++ r → (rest : List X) × (xs ≡ ys ++ rest)
  all_begin some xs [] r p q e = (xs, refl)
  all_begin some [] (y ∷ ys) r p q e =
      let first = some y in
      absurd (omega (arith, ap length e, length-append (f y ++ flat_map f ys) r, length-append (f y) (flat_map f ys)))
  all_begin some (x ∷ xs) (y ∷ ys) r p q e =
      let h : f x ++ flat_map f xs ≡ f y ++ (flat_map f ys ++ r) = e ∙ append_assoc (f y) (flat_map f ys) r in
      let a = apart x y (flat_map f xs) (flat_map f ys ++ r) p.0 q.0 h in
      let b = all_begin some xs ys r p.1 q.1 a.1 in
      let c : x ∷ xs ≡ y ∷ (ys ++ b.0) = cc in
      (b.0, c)

rdn_apart : (m n : RdnMap) (r s : List ℕ) → RdnFits m → RdnFits n → rdn_key m ++ r ≡ rdn_key n ++ s → (m ≡ n) × (r ≡ s)
rdn_apart m n r s p q h =
    let f : four_octets (length (entries m)) ++ (flat_map entry_key (entries m) ++ r) ≡ four_octets (length (entries n)) ++ (flat_map entry_key (entries n) ++ s) =
    sym (append_assoc (four_octets (length (entries m))) (flat_map entry_key (entries m)) r) ∙ (h ∙ append_assoc (four_octets (length (entries n))) (flat_map entry_key (entries n)) s) in
    let a = number_apart (length (entries m)) (length (entries n)) _ _ p.count_fits q.count_fits f in
    let b = all_apart entry_key EntryFits entry_apart (entries m) (entries n) r s p.each q.each a.0 a.1 in
    (same_entries_map m n b.0, b.1)

pub key_tells_its_end : KeyTellsItsEnd
unfolding name_key
key_tells_its_end n m r s p q e =
    let f : four_octets (length n) ++ (flat_map rdn_key n ++ r) ≡ four_octets (length m) ++ (flat_map rdn_key m ++ s) =
    sym (append_assoc (four_octets (length n)) (flat_map rdn_key n) r) ∙ (e ∙ append_assoc (four_octets (length m)) (flat_map rdn_key m) s) in
    let a = number_apart (length n) (length m) _ _ p.count_fits q.count_fits f in
    all_apart rdn_key RdnFits rdn_apart n m r s p.each q.each a.0 a.1

pub same_names : (n m : List RdnMap) → NameFits n → NameFits m → name_key n ≡ name_key m → n ≡ m
unfolding name_key
same_names n m p q e = (key_tells_its_end n m [] [] p q (append-nil (name_key n) ∙ (e ∙ sym (append-nil (name_key m))))).0

pub key_is_exact : KeyIsExact
key_is_exact n m p q = (same_names n m p q, λ e. ap name_key e)

-- which name lies within which

rdn_key_some : (m : RdnMap) → 0 < length (rdn_key m)
rdn_key_some m =
    let four : length (four_octets (length (entries m))) ≡ 4 = refl in
    omega (arith, length-append (four_octets (length (entries m))) (flat_map entry_key (entries m)))

pub within_is_by_keys : WithinIsByKeys
unfolding rdns_key
within_is_by_keys inner outer p q =
    let within = within_is_exact inner outer in
    let begins = starts_is Decides-eqb (rdns_key inner) (rdns_key outer) _ refl in
    both_ways _ _
    (λ t. let w = within.0 t in begins.1 (rdns_key w.rest) (ap rdns_key w.joined ∙ flat_map-append rdn_key outer w.rest))
    (λ t. let w = all_begin rdn_key RdnFits rdn_apart rdn_key_some inner outer _ p.each q.each (begins.0 t) in within.1 (record { rest = w.0; joined = w.1 }))

pub keys_tell_their_end : KeysTellTheirEnd
unfolding rdns_of
keys_tell_their_end left right behind after e =
    key_tells_its_end (rdns_of left) (rdns_of right) behind after (sequence_fits left.rdns) (sequence_fits right.rdns) e

pub keys_decide_within : KeysDecideWithin
unfolding rdns_of
keys_decide_within inner outer =
    within_is_by_keys (rdns_of inner) (rdns_of outer) (sequence_fits inner.rdns) (sequence_fits outer.rdns)

-- what is written behind the start, and the keys of the sets to come, are the keys of all
pub record AreKeysUpTo (start : List ℕ) (whole rest : List RdnMap) (out : List ℕ) : Type 0 where
  pub joined : out ++ flat_map rdn_key rest ≡ start ++ flat_map rdn_key whole
  pub each : AllByRecursion RdnFits rest

module _ {X Y : Type 0} (f : X → Y) (P : Y → Type 0) where
  each_at : (xs : List X) (k : ℕ) (d : X) → AllByRecursion P (map f xs) → k < length xs → P (f (get_or xs k d))
  each_at [] k d h lt = absurd (omega arith)
  each_at (x ∷ xs) zero d h lt = h.0
  each_at (x ∷ xs) (suc k) d h lt = each_at xs k d h.1 (omega arith)

pub fits_at : (items attributes : List Attribute) (es : List ComparedAttribute) (k : ℕ) (d : Attribute) → items ≡ attributes → map entry_of attributes ≡ es → AllByRecursion EntryFits es → k < length items → EntryFits (entry_of (get_or items k d))
fits_at items attributes es k d e f h lt = each_at entry_of EntryFits items k d (subst (AllByRecursion EntryFits) (sym (ap (map entry_of) e ∙ f)) h) lt
