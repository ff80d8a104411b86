use Rattle.std.proofs.Common.{◌≡◌, ◌⊎◌, ℕ, ◌<◌, ◌≤◌, ◌+◌, ◌-◌, List, [], ◌∷◌, ◌++◌, length, take, get_or, IsTrue, Bool, true, false, refl, sym, ◌∙◌, ap, inl, inr, arith, append_assoc, length-append, map, ◌==◌, rules, ◌&&◌, nat_lt, nat_eq}
use Rattle.std.specs.Prelude.{◌↔◌}
use Rattle.std.specs.List.{slice_split, join_with_byte}
use Rattle.std.specs.Char.{to_ascii_lowercase}
use Rattle.std.proofs.lemmas.Bool.{cases_Bool, eqb-true, eq-eqb, and_right, lt-ltb, le-ltb, false_from_ne_true, both_ways}
use Rattle.std.proofs.lemmas.Bool.Decides.{Decides-eqb}
use Rattle.std.proofs.lemmas.List.{take_more, take_all, map-append, length-map, get_or_at, get_or-map, nil_from_length}
use Rattle.std.proofs.lemmas.List.Splits.{join_with_byte-slice_split}
use Rattle.std.proofs.lemmas.Slice.Eq.{ends_is, slice_eq-Decides}
use Rattle.std.specs.Bool.{Decides}
use Rattle.names.specs.Dns.{labels, EndsIn, ends_in_labels, ends_in_more_labels, same_label}
use Rattle.names_distinguished.proofs.Laws.{slice_split-append, slice_split_nonempty, join-append, same_ends}

abbrev pub dot : ℕ → Bool
dot octet = octet == 46

abbrev pub fold : List ℕ → List ℕ
fold text = map to_ascii_lowercase text

-- no octet before the rest, or the last of them is a dot
pub record IsCut (front : List ℕ) : Type 0 where
  pub last : (length front ≡ 0) ⊎ ((0 < length front) × (get_or front (length front - 1) 0 ≡ 46))

lower-dot : (c : ℕ) → to_ascii_lowercase c ≡ 46 → c ≡ 46
lower-dot c h = grind (arith, rules)

last_apart : (xs : List ℕ) → 0 < length xs → xs ≡ take (length xs - 1) xs ++ get_or xs (length xs - 1) 0 ∷ []
last_apart xs h =
    let e : length xs - 1 + 1 ≡ length xs = omega arith in
    sym (take_all (length xs - 1 + 1) xs (omega arith)) ∙ take_more xs (length xs - 1) 0 (omega arith)

whole_front : (front tail base : List ℕ) → fold tail ≡ fold base → 0 < length front → get_or front (length front - 1) 0 ≡ 46 → fold (front ++ tail) ≡ fold (take (length front - 1) front) ++ 46 ∷ fold base
whole_front front tail base e h last =
    let n = length front - 1 in
    let apart : front ≡ take n front ++ 46 ∷ [] = last_apart front h ∙ ap (λ (k : ℕ). take n front ++ k ∷ []) last in
    map-append to_ascii_lowercase front tail
    ∙ (ap (λ (l : List ℕ). l ++ fold tail) (ap fold apart ∙ map-append to_ascii_lowercase (take n front) (46 ∷ []))
    ∙ (append_assoc (fold (take n front)) (46 ∷ []) (fold tail)
    ∙ ap (λ (l : List ℕ). fold (take n front) ++ 46 ∷ l) e))

pub cut_ends : (front tail base : List ℕ) → fold tail ≡ fold base → IsCut front → EndsIn (labels (front ++ tail)) (labels base)
cut_ends front tail base e cut =
    elim (cut.last) [
      | inl h ↦ record {
        front = [];
        joined = ap (λ (l : List ℕ). labels (l ++ tail)) (nil_from_length front h) ∙ ap (λ (l : List ℕ). slice_split dot l) e;
      }
      | inr h ↦ record {
        front = slice_split dot (fold (take (length front - 1) front));
        joined =
            ap (λ (l : List ℕ). slice_split dot l) (whole_front front tail base e h.0 h.1)
            ∙ slice_split-append dot (fold (take (length front - 1) front)) 46 (fold base) refl;
      }
    ]

-- what a name is whose labels end in those of the base
pub record Octets (name base : List ℕ) : Type 0 where
  pub parts : (fold name ≡ fold base) ⊎ ((before : List ℕ) × (fold name ≡ before ++ 46 ∷ fold base))

joined_labels : (text : List ℕ) → join_with_byte 46 (labels text) ≡ fold text
joined_labels text = join_with_byte-slice_split 46 (fold text)

octets_by : (name base : List ℕ) (front : List (List ℕ)) → labels name ≡ front ++ labels base → Octets name base
octets_by name base [] e = record { parts = inl (sym (joined_labels name) ∙ (ap (λ (l : List (List ℕ)). join_with_byte 46 l) e ∙ joined_labels base)) }
octets_by name base (g ∷ gs) e = record {
  parts = inr (
    join_with_byte 46 (g ∷ gs),
    sym (joined_labels name)
        ∙ (ap (λ (l : List (List ℕ)). join_with_byte 46 l) e
        ∙ (join-append 46 (g ∷ gs) (labels base) (omega arith) (slice_split_nonempty dot (fold base))
        ∙ ap (λ (l : List ℕ). join_with_byte 46 (g ∷ gs) ++ 46 ∷ l) (joined_labels base))),
  );
}

pub octets_of : (name base : List ℕ) → EndsIn (labels name) (labels base) → Octets name base
octets_of name base e = octets_by name base e.front e.joined

length-fold : (text : List ℕ) → length (fold text) ≡ length text
length-fold text = length-map text to_ascii_lowercase

pub fits : (name base : List ℕ) → EndsIn (labels name) (labels base) → length base ≤ length name
fits name base e =
    elim ((octets_of name base e).parts) [
      | inl h ↦ omega (arith, ap length h, length-fold name, length-fold base)
      | inr h ↦ omega (arith, ap length h.1, length-append h.0 (46 ∷ fold base), length-fold name, length-fold base)
    ]

-- the last octet before what ends so is a dot
last_dot : (front before : List ℕ) → fold front ≡ before ++ 46 ∷ [] → (0 < length front) × (get_or front (length front - 1) 0 ≡ 46)
last_dot front before e =
    let n : length front ≡ length before + 1 = omega (arith, ap length e, length-append before (46 ∷ []), length-fold front) in
    let i = length front - 1 in
    let at : length before ≡ i = omega arith in
    let below : i < length front = omega arith in (
      omega arith,
      lower-dot (get_or front i 0)
          (sym (get_or-map to_ascii_lowercase front i 0 0 below)
          ∙ (ap (λ (l : List ℕ). get_or l i 0) e ∙ get_or_at before 46 [] 0 i at)),
    )

pub ends_cut : (front tail base : List ℕ) → length tail ≡ length base → EndsIn (labels (front ++ tail)) (labels base) → (fold tail ≡ fold base) × IsCut front
ends_cut front tail base n e =
    let m : length (fold tail) ≡ length (fold base) = omega (arith, length-fold tail, length-fold base) in
    elim ((octets_of (front ++ tail) base e).parts) [
      | inl h ↦
          let same = same_ends (fold front) (fold tail) [] (fold base) (sym (map-append to_ascii_lowercase front tail) ∙ h) m in
          (same.1, record { last = inl (sym (length-fold front) ∙ ap length same.0) })
      | inr h ↦
          let same = same_ends (fold front) (fold tail) (h.0 ++ 46 ∷ []) (fold base)
          (sym (map-append to_ascii_lowercase front tail) ∙ (h.1 ∙ sym (append_assoc h.0 (46 ∷ []) (fold base)))) m in
          (same.1, record { last = inr (last_dot front h.0 same.0) })
    ]

Decides-label : (a b : List ℕ) → Decides (same_label a b) (a ≡ b)
Decides-label a b = slice_eq-Decides Decides-eqb a b _ refl

pub ends_in_is_exact : (name base : List ℕ) → (IsTrue (ends_in_labels name base) ↔ EndsIn (labels name) (labels base))
ends_in_is_exact name base =
    let both = ends_is Decides-label (labels name) (labels base) _ refl in
    (λ h. record { front = _; joined = both.0 h }, λ e. both.1 e.front e.joined)

-- more labels are more octets
same_more : (name base : List ℕ) (front : List (List ℕ)) → labels name ≡ front ++ labels base → nat_lt (length (labels base)) (length (labels name)) ≡ nat_lt (length base) (length name)
same_more name base [] e =
    let n : length name ≡ length base =
    omega (arith, ap length (joined_labels name), ap length (ap (λ (l : List (List ℕ)). join_with_byte 46 l) e), ap length (joined_labels base), length-fold name, length-fold base) in
    le-ltb (length (labels base)) (length (labels name)) (omega (arith, ap length e)) ∙ sym (le-ltb (length base) (length name) (omega arith))
same_more name base (g ∷ gs) e =
    let m : length (labels name) ≡ length (g ∷ gs) + length (labels base) = ap length e ∙ length-append (g ∷ gs) (labels base) in
    let n : length base < length name =
    omega (
      arith,
      ap length (joined_labels name),
      ap length (ap (λ (l : List (List ℕ)). join_with_byte 46 l) e),
      ap length (join-append 46 (g ∷ gs) (labels base) (omega arith) (slice_split_nonempty dot (fold base))),
      length-append (join_with_byte 46 (g ∷ gs)) (46 ∷ join_with_byte 46 (labels base)),
      ap length (joined_labels base),
      length-fold name,
      length-fold base,
    ) in
    lt-ltb (length (labels base)) (length (labels name)) (omega arith) ∙ sym (lt-ltb (length base) (length name) n)

pub more_by_octets : (name base : List ℕ) → ends_in_more_labels name base ≡ (nat_lt (length base) (length name) && ends_in_labels name base)
more_by_octets name base =
    elim (cases_Bool (ends_in_labels name base)) [
      | inl h ↦
          let e = (ends_in_is_exact name base).0 h in
          ap (λ (b : Bool). b && ends_in_labels name base) (same_more name base e.front e.joined)
      | inr h ↦ and_right (nat_lt (length (labels base)) (length (labels name))) (ends_in_labels name base) h
          ∙ sym (and_right (nat_lt (length base) (length name)) (ends_in_labels name base) h)
    ]

-- the three answers of the code
pub answer_short : (name base : List ℕ) → length name < length base → false ≡ ends_in_labels name base
answer_short name base h =
    sym (false_from_ne_true (ends_in_labels name base)
    (λ t. let f : length base ≤ length name = fits name base ((ends_in_is_exact name base).0 t) in absurd (omega arith)))

pub answer_differs : (name front tail base : List ℕ) → name ≡ front ++ tail → length tail ≡ length base → (fold tail ≡ fold base → ⊥) → false ≡ ends_in_labels name base
answer_differs name front tail base e n d =
    rw e (sym (false_from_ne_true (ends_in_labels (front ++ tail) base)
    (λ t. d (ends_cut front tail base n ((ends_in_is_exact (front ++ tail) base).0 t)).0)))

pub answer_cut : (name front tail base : List ℕ) (b : Bool) → name ≡ front ++ tail → length tail ≡ length base → fold tail ≡ fold base → (b ≡ true → IsCut front) → (IsCut front → b ≡ true) → b ≡ ends_in_labels name base
answer_cut name front tail base b e n same is from =
    rw e (elim (cases_Bool b) [
      | inl t ↦ t ∙ sym ((ends_in_is_exact (front ++ tail) base).1 (cut_ends front tail base same (is t)))
      | inr f ↦ f ∙ sym (false_from_ne_true (ends_in_labels (front ++ tail) base)
          (λ t. both_ways b f (from (ends_cut front tail base n ((ends_in_is_exact (front ++ tail) base).0 t)).1)))
    ])

pub answer_none : (name front tail base : List ℕ) → name ≡ front ++ tail → length tail ≡ length base → fold tail ≡ fold base → length front ≡ 0 → true ≡ ends_in_labels name base
answer_none name front tail base e n same h =
    answer_cut name front tail base true e n same (λ _. record { last = inl h }) (λ _. refl)

pub answer_some : (name front tail base : List ℕ) (octet : ℕ) → name ≡ front ++ tail → length tail ≡ length base → fold tail ≡ fold base → 0 < length front → octet ≡ get_or front (length front - 1) 0 → nat_eq octet 46 ≡ ends_in_labels name base
answer_some name front tail base octet e n same h is =
    answer_cut name front tail base (nat_eq octet 46) e n same
    (λ t. record { last = inr (h, sym is ∙ eqb-true octet 46 t) })
    (λ cut. elim (cut.last) [ inl z ↦ absurd (omega arith) | inr p ↦ eq-eqb octet 46 (is ∙ p.1) ])
