-- Domains: what lies in one has a key that begins with its key.
use Rattle.std.proofs.Common.{◌≡◌, ◌⊎◌, ◌<◌, ℕ, List, [], ◌∷◌, ◌++◌, true, false, refl, ap, sym, ◌∙◌, inl, inr, arith, length, map, reverse, append_assoc}
use Rattle.std.specs.Char.{to_ascii_lowercase}
use Rattle.std.specs.List.{slice_split, join_with_byte}
use mathlib.Core.List.{reverse-cons}
use Rattle.std.proofs.lemmas.List.{reverse-append, reverse-reverse}
use Rattle.std.proofs.lemmas.List.Splits.{join_with_byte-slice_split}
use Rattle.std.proofs.lemmas.Bool.{false≢true}
use Rattle.names.specs.Dns.{is_dot, labels, EndsIn, EndsInMore, ends_in_labels, ends_in_more_labels}
use Rattle.names.specs.Bases.{DomainNames, every_name, names_within, names_below}
use Rattle.names.specs.GeneralLayout.{dns_name, dns_base}
use Rattle.names.specs.GeneralCoverage.{is_domain_among, are_among, is_covered}
use Rattle.names.proofs.Laws.{coverage_test_is_exact}
use Rattle.names_distinguished.proofs.Laws.{slice_split-append, slice_split_nonempty, join-append}
use Rattle.names_order.specs.Order.{begins_with, backwards, domain_key}
use Rattle.names_order.proofs.KeyLists.{same_tests}
use Rattle.names_order.proofs.TextKeys.{goes_on, GoesOn, goes_on_is, same_goes_on, more_goes_on, keys_begin, none_begins}

abbrev fold : List ℕ → List ℕ
fold text = map to_ascii_lowercase text

joined_labels : (text : List ℕ) → join_with_byte 46 (labels text) ≡ fold text
joined_labels text = join_with_byte-slice_split 46 (fold text)

-- what is behind a text and a dot, read from its end
turned : (name base before : List ℕ) → fold name ≡ before ++ 46 ∷ fold base → backwards name ≡ backwards base ++ 46 ∷ reverse before
turned name base before e =
    ap reverse e
    ∙ (reverse-append before (46 ∷ fold base)
    ∙ (ap (λ (l : List ℕ). l ++ reverse before) (reverse-cons 46 (fold base))
    ∙ append_assoc (backwards base) (46 ∷ []) (reverse before)))

turned_back : (name base more : List ℕ) → backwards name ≡ backwards base ++ 46 ∷ more → fold name ≡ reverse more ++ 46 ∷ fold base
turned_back name base more e =
    sym (reverse-reverse (fold name))
    ∙ (ap reverse e
    ∙ (reverse-append (backwards base) (46 ∷ more)
    ∙ (ap (λ (l : List ℕ). l ++ reverse (backwards base)) (reverse-cons 46 more)
    ∙ (append_assoc (reverse more) (46 ∷ []) (reverse (backwards base))
    ∙ ap (λ (l : List ℕ). reverse more ++ 46 ∷ l) (reverse-reverse (fold base))))))

same_back : (name base : List ℕ) → backwards name ≡ backwards base → fold name ≡ fold base
same_back name base e = sym (reverse-reverse (fold name)) ∙ (ap reverse e ∙ reverse-reverse (fold base))

-- labels before others are octets before a dot
more_octets : (name base : List ℕ) (g : List ℕ) (gs : List (List ℕ)) → labels name ≡ (g ∷ gs) ++ labels base → GoesOn (backwards name) (backwards base)
more_octets name base g gs e =
    let before = join_with_byte 46 (g ∷ gs) in (
      reverse before,
      turned name base before
          (sym (joined_labels name)
          ∙ (ap (λ (l : List (List ℕ)). join_with_byte 46 l) e
          ∙ (join-append 46 (g ∷ gs) (labels base) (omega arith) (slice_split_nonempty is_dot (fold base))
          ∙ ap (λ (l : List ℕ). before ++ 46 ∷ l) (joined_labels base)))),
    )

octets_by : (name base : List ℕ) (front : List (List ℕ)) → labels name ≡ front ++ labels base → (backwards name ≡ backwards base) ⊎ GoesOn (backwards name) (backwards base)
octets_by name base [] e = inl (ap reverse (sym (joined_labels name) ∙ (ap (λ (l : List (List ℕ)). join_with_byte 46 l) e ∙ joined_labels base)))
octets_by name base (g ∷ gs) e = inr (more_octets name base g gs e)

-- and octets before a dot are labels
some_more : (list end front : List (List ℕ)) → list ≡ front ++ end → 0 < length front → EndsInMore list end
some_more list end [] e h = absurd (omega arith)
some_more list end (first ∷ front) e h = record { first = first; front = front; joined = e }

more_labels : (name base : List ℕ) → GoesOn (backwards name) (backwards base) → EndsInMore (labels name) (labels base)
more_labels name base g =
    some_more (labels name) (labels base) (slice_split is_dot (reverse g.0))
    (ap (λ (l : List ℕ). slice_split is_dot l) (turned_back name base g.0 g.1) ∙ slice_split-append is_dot (reverse g.0) 46 (fold base) refl)
    (slice_split_nonempty is_dot (reverse g.0))

within_test : (name base : List ℕ) → (ends_in_labels name base ≡ true → EndsIn (labels name) (labels base)) × (EndsIn (labels name) (labels base) → ends_in_labels name base ≡ true)
unfolding is_covered is_domain_among
within_test name base = coverage_test_is_exact (dns_name name) (dns_base (names_within base))

below_test : (name base : List ℕ) → (ends_in_more_labels name base ≡ true → EndsInMore (labels name) (labels base)) × (EndsInMore (labels name) (labels base) → ends_in_more_labels name base ≡ true)
unfolding is_covered is_domain_among
below_test name base = coverage_test_is_exact (dns_name name) (dns_base (names_below base))

pub ends_by_octets : (name base : List ℕ) → ends_in_labels name base ≡ goes_on true (backwards name) (backwards base)
ends_by_octets name base =
    same_tests (ends_in_labels name base) (goes_on true (backwards name) (backwards base))
    (λ t.
    let e = (within_test name base).0 t in
    elim (octets_by name base e.front e.joined) [
      | inl same ↦ ap (λ (l : List ℕ). goes_on true l (backwards base)) same ∙ same_goes_on (backwards base)
      | inr g ↦ ap (λ (l : List ℕ). goes_on true l (backwards base)) g.1 ∙ more_goes_on true (backwards base) g.0
    ])
    (λ t.
    elim (goes_on_is true (backwards name) (backwards base) t) [
      | inl p ↦ (within_test name base).1 (record { front = []; joined = ap (λ (l : List ℕ). slice_split is_dot l) (same_back name base p.1) })
      | inr g ↦ let m = more_labels name base g in (within_test name base).1 (record { front = m.first ∷ m.front; joined = m.joined })
    ])

pub more_by_octets : (name base : List ℕ) → ends_in_more_labels name base ≡ goes_on false (backwards name) (backwards base)
more_by_octets name base =
    same_tests (ends_in_more_labels name base) (goes_on false (backwards name) (backwards base))
    (λ t.
    let e = (below_test name base).0 t in
    let g = more_octets name base e.first e.front e.joined in
    ap (λ (l : List ℕ). goes_on false l (backwards base)) g.1 ∙ more_goes_on false (backwards base) g.0)
    (λ t.
    elim (goes_on_is false (backwards name) (backwards base) t) [
      | inl p ↦ absurd (false≢true p.0)
      | inr g ↦ (below_test name base).1 (more_labels name base g)
    ])

pub domains_begin : (s t : DomainNames) → are_among s t ≡ begins_with (domain_key s) (domain_key t)
unfolding are_among
domains_begin s every_name = refl
domains_begin every_name (names_within t) = sym (none_begins (backwards t) false)
domains_begin every_name (names_below t) = sym (none_begins (backwards t) true)
domains_begin (names_within s) (names_within t) = ends_by_octets s t ∙ sym (keys_begin (backwards s) (backwards t) false false)
domains_begin (names_within s) (names_below t) = more_by_octets s t ∙ sym (keys_begin (backwards s) (backwards t) false true)
domains_begin (names_below s) (names_within t) = ends_by_octets s t ∙ sym (keys_begin (backwards s) (backwards t) true false)
domains_begin (names_below s) (names_below t) = ends_by_octets s t ∙ sym (keys_begin (backwards s) (backwards t) true true)
