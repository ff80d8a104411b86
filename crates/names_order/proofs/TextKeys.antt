-- The keys of texts: how they compare, and which begin with which.
use Rattle.std.proofs.Common.{◌≡◌, ◌⊎◌, ◌+◌, ℕ, List, [], ◌∷◌, ◌++◌, Bool, true, false, ◌&&◌, ◌==◌, refl, ap, sym, ◌∙◌, inl, inr, arith, nat_eq, map, reverse}
use Rattle.std.specs.Prelude.{if◌then◌else◌}
use Rattle.std.specs.declared.cmp.Ordering.{Ordering}
use Rattle.std.specs.declared.cmp.Ordering.TheVariants.{Less, Greater}
use Rattle.std.specs.Char.{to_ascii_lowercase}
use Rattle.std.specs.Ordering.{nat_cmp, bool_cmp, ordering_then}
use Rattle.std.specs.Cmp.Lexicographic.{slice_cmp}
use Rattle.std.proofs.lemmas.Bool.{and_parts, and_from, eqb-true, eq-eqb, ne_eqb, false≢true}
use Rattle.std.proofs.lemmas.Bool.Decides.{nat_tests}
use mathlib.Core.List.{reverse-cons}
use Rattle.std.proofs.lemmas.List.{map-append}
use Rattle.names.specs.Dns.{is_dot}
use Rattle.names.specs.declared.dns.Domain.{Domain}
use Rattle.names.specs.declared.dns.Domain.TheVariants as D
use Rattle.names.specs.Bases.{domain_names}
use Rattle.names_order.specs.Order.{begins_with, backwards, text_key, base_end, octet_order, domain_key}
use Rattle.names_order.proofs.KeyLists.{then_then, cmp_less, cmp_greater}

-- one more octet, where it is known whether it is a dot
abbrev with_octet : Bool → ℕ → List ℕ → List ℕ
with_octet dot octet key = if dot then 0 ∷ 1 ∷ key else (octet + 2) ∷ key

abbrev rank_if : Bool → ℕ → ℕ
rank_if dot octet = if dot then 0 else octet + 2

-- a key is never empty
with_octet_some : (b : Bool) (x : ℕ) (key : List ℕ) → slice_cmp nat_cmp [] (with_octet b x key) ≡ Less
with_octet_some true x key = refl
with_octet_some false x key = refl

with_octet_back : (b : Bool) (x : ℕ) (key : List ℕ) → slice_cmp nat_cmp (with_octet b x key) [] ≡ Greater
with_octet_back true x key = refl
with_octet_back false x key = refl

pub some_less : (xs : List ℕ) (e : Bool) → slice_cmp nat_cmp [] (text_key xs (base_end e)) ≡ Less
some_less [] true = refl
some_less [] false = refl
some_less (x ∷ xs) e = with_octet_some (is_dot x) x (text_key xs (base_end e))

pub some_greater : (xs : List ℕ) (e : Bool) → slice_cmp nat_cmp (text_key xs (base_end e)) [] ≡ Greater
some_greater [] true = refl
some_greater [] false = refl
some_greater (x ∷ xs) e = with_octet_back (is_dot x) x (text_key xs (base_end e))

-- how keys compare: by their octets, and then by their ends

octets_compare : (a b : Bool) (x y : ℕ) (ks ms : List ℕ) (o p : Ordering) → slice_cmp nat_cmp ks ms ≡ ordering_then o p
    → slice_cmp nat_cmp (with_octet a x ks) (with_octet b y ms) ≡ ordering_then (ordering_then (nat_cmp (rank_if a x) (rank_if b y)) o) p
octets_compare true true x y ks ms o p e = e
octets_compare true false x y ks ms o p e = rw (cmp_less 0 (y + 2) (omega arith)) refl
octets_compare false true x y ks ms o p e = rw (cmp_greater (x + 2) 0 (omega arith)) refl
octets_compare false false x y ks ms o p e = ap (ordering_then (nat_cmp (x + 2) (y + 2))) e ∙ then_then (nat_cmp (x + 2) (y + 2)) o p

end_first : (d b : Bool) (y : ℕ) (ms : List ℕ) → slice_cmp nat_cmp [] ms ≡ Less → slice_cmp nat_cmp (base_end d) (with_octet b y ms) ≡ Less
end_first true true y ms e = e
end_first false true y ms e = refl
end_first true false y ms e = rw (cmp_less 0 (y + 2) (omega arith)) refl
end_first false false y ms e = rw (cmp_less 0 (y + 2) (omega arith)) refl

end_last : (b e : Bool) (x : ℕ) (ks : List ℕ) → slice_cmp nat_cmp ks [] ≡ Greater → slice_cmp nat_cmp (with_octet b x ks) (base_end e) ≡ Greater
end_last true true x ks h = h
end_last true false x ks h = refl
end_last false true x ks h = rw (cmp_greater (x + 2) 0 (omega arith)) refl
end_last false false x ks h = rw (cmp_greater (x + 2) 0 (omega arith)) refl

pub keys_compare : (xs ys : List ℕ) (d e : Bool)
    → slice_cmp nat_cmp (text_key (map to_ascii_lowercase xs) (base_end d)) (text_key (map to_ascii_lowercase ys) (base_end e))
    ≡ ordering_then (slice_cmp octet_order xs ys) (slice_cmp nat_cmp (base_end d) (base_end e))
keys_compare [] [] d e = refl
keys_compare [] (y ∷ ys) d e =
    end_first d (is_dot (to_ascii_lowercase y)) (to_ascii_lowercase y) (text_key (map to_ascii_lowercase ys) (base_end e)) (some_less (map to_ascii_lowercase ys) e)
keys_compare (x ∷ xs) [] d e =
    end_last (is_dot (to_ascii_lowercase x)) e (to_ascii_lowercase x) (text_key (map to_ascii_lowercase xs) (base_end d)) (some_greater (map to_ascii_lowercase xs) d)
keys_compare (x ∷ xs) (y ∷ ys) d e =
    octets_compare (is_dot (to_ascii_lowercase x)) (is_dot (to_ascii_lowercase y)) (to_ascii_lowercase x) (to_ascii_lowercase y)
    (text_key (map to_ascii_lowercase xs) (base_end d)) (text_key (map to_ascii_lowercase ys) (base_end e)) (slice_cmp octet_order xs ys) (slice_cmp nat_cmp (base_end d) (base_end e))
    (keys_compare xs ys d e)

ends_compare : (d e : Bool) → bool_cmp d e ≡ slice_cmp nat_cmp (base_end d) (base_end e)
ends_compare true true = refl
ends_compare true false = refl
ends_compare false true = refl
ends_compare false false = refl

map-reverse : (xs : List ℕ) → map to_ascii_lowercase (reverse xs) ≡ reverse (map to_ascii_lowercase xs)
map-reverse [] = refl
map-reverse (x ∷ xs) =
    ap (map to_ascii_lowercase) (reverse-cons x xs)
    ∙ (map-append to_ascii_lowercase (reverse xs) (x ∷ [])
    ∙ (ap (λ (l : List ℕ). l ++ to_ascii_lowercase x ∷ []) (map-reverse xs)
    ∙ sym (reverse-cons (to_ascii_lowercase x) (map to_ascii_lowercase xs))))

pub bases_compare : (one other : List ℕ) (d e : Bool) → ordering_then (slice_cmp octet_order (reverse one) (reverse other)) (bool_cmp d e)
    ≡ slice_cmp nat_cmp (text_key (backwards one) (base_end d)) (text_key (backwards other) (base_end e))
bases_compare one other d e =
    ap (ordering_then (slice_cmp octet_order (reverse one) (reverse other))) (ends_compare d e)
    ∙ (sym (keys_compare (reverse one) (reverse other) d e)
    ∙ (ap (λ (l : List ℕ). slice_cmp nat_cmp (text_key l (base_end d)) (text_key (map to_ascii_lowercase (reverse other)) (base_end e))) (map-reverse one)
    ∙ ap (λ (l : List ℕ). slice_cmp nat_cmp (text_key (backwards one) (base_end d)) (text_key l (base_end e))) (map-reverse other)))

-- which begin with which: the octets do, up to a dot or to the end

-- the first goes on behind the second by a dot, or is the same where that is allowed
abbrev pub goes_on : Bool → List ℕ → List ℕ → Bool
goes_on same [] [] = same
goes_on same (x ∷ xs) [] = is_dot x
goes_on same [] (y ∷ ys) = false
goes_on same (x ∷ xs) (y ∷ ys) = (y == x) && goes_on same xs ys

octets_begin : (a b : Bool) (x y : ℕ) (ks ms : List ℕ) → a ≡ is_dot x → b ≡ is_dot y → begins_with (with_octet a x ks) (with_octet b y ms) ≡ ((y == x) && begins_with ks ms)
octets_begin true true x y ks ms p q =
    let same : y ≡ x = eqb-true y 46 (sym q) ∙ sym (eqb-true x 46 (sym p)) in
    rw (eq-eqb y x same) refl
octets_begin true false x y ks ms p q =
    rw (ne_eqb y x (λ e. false≢true (q ∙ (ap is_dot e ∙ sym p))), ne_eqb (y + 2) 0 (λ e. omega arith)) refl
octets_begin false true x y ks ms p q =
    rw (ne_eqb y x (λ e. false≢true (p ∙ (ap is_dot (sym e) ∙ sym q))), ne_eqb 0 (x + 2) (λ e. omega arith)) refl
octets_begin false false x y ks ms p q =
    let same : nat_eq (y + 2) (x + 2) ≡ nat_eq y x = grind (arith, nat_tests) in
    ap (λ t. t && begins_with ks ms) same

end_begins : (b e : Bool) (x : ℕ) (ks : List ℕ) → begins_with (with_octet b x ks) (base_end e) ≡ b
end_begins true true x ks = refl
end_begins true false x ks = refl
end_begins false true x ks = rw (ne_eqb 0 (x + 2) (λ e. omega arith)) refl
end_begins false false x ks = rw (ne_eqb 0 (x + 2) (λ e. omega arith)) refl

begins_end : (d b : Bool) (y : ℕ) (ms : List ℕ) → begins_with [] ms ≡ false → begins_with (base_end d) (with_octet b y ms) ≡ false
begins_end true true y ms h = h
begins_end false true y ms h = refl
begins_end true false y ms h = rw (ne_eqb (y + 2) 0 (λ e. omega arith)) refl
begins_end false false y ms h = rw (ne_eqb (y + 2) 0 (λ e. omega arith)) refl

with_octet_begins : (b : Bool) (y : ℕ) (ms : List ℕ) → begins_with [] (with_octet b y ms) ≡ false
with_octet_begins true y ms = refl
with_octet_begins false y ms = refl

pub none_begins : (ys : List ℕ) (e : Bool) → begins_with [] (text_key ys (base_end e)) ≡ false
none_begins [] true = refl
none_begins [] false = refl
none_begins (y ∷ ys) e = with_octet_begins (is_dot y) y (text_key ys (base_end e))

pub keys_begin : (xs ys : List ℕ) (d e : Bool) → begins_with (text_key xs (base_end d)) (text_key ys (base_end e)) ≡ goes_on (begins_with (base_end d) (base_end e)) xs ys
keys_begin [] [] d e = refl
keys_begin (x ∷ xs) [] d e = end_begins (is_dot x) e x (text_key xs (base_end d))
keys_begin [] (y ∷ ys) d e = begins_end d (is_dot y) y (text_key ys (base_end e)) (none_begins ys e)
keys_begin (x ∷ xs) (y ∷ ys) d e =
    octets_begin (is_dot x) (is_dot y) x y (text_key xs (base_end d)) (text_key ys (base_end e)) refl refl
    ∙ ap (λ t. (y == x) && t) (keys_begin xs ys d e)

-- the same as a relation

abbrev pub GoesOn : List ℕ → List ℕ → Type 0
GoesOn xs ys = (more : List ℕ) × (xs ≡ ys ++ 46 ∷ more)

pub goes_on_is : (same : Bool) (xs ys : List ℕ) → goes_on same xs ys ≡ true → ((same ≡ true) × (xs ≡ ys)) ⊎ GoesOn xs ys
goes_on_is same [] [] h = inl (h, refl)
goes_on_is same (x ∷ xs) [] h = inr (xs, ap (λ k. k ∷ xs) (eqb-true x 46 h))
goes_on_is same [] (y ∷ ys) h = absurd (false≢true h)
goes_on_is same (x ∷ xs) (y ∷ ys) h =
    let parts = and_parts (y == x) (goes_on same xs ys) h in
    let first : x ≡ y = sym (eqb-true y x parts.0) in
    elim (goes_on_is same xs ys parts.1) [
      | inl p ↦ inl (p.0, ap (λ k. k ∷ xs) first ∙ ap (λ l. y ∷ l) p.1)
      | inr p ↦ inr (p.0, ap (λ k. k ∷ xs) first ∙ ap (λ l. y ∷ l) p.1)
    ]

pub same_goes_on : (xs : List ℕ) → goes_on true xs xs ≡ true
same_goes_on [] = refl
same_goes_on (x ∷ xs) = and_from (x == x) (goes_on true xs xs) (eq-eqb x x refl) (same_goes_on xs)

pub more_goes_on : (same : Bool) (ys more : List ℕ) → goes_on same (ys ++ 46 ∷ more) ys ≡ true
more_goes_on same [] more = refl
more_goes_on same (y ∷ ys) more = and_from (y == y) (goes_on same (ys ++ 46 ∷ more) ys) (eq-eqb y y refl) (more_goes_on same ys more)

-- every name is before all
pub every_first : (t : Domain) → (t ≡ D.Every → ⊥) → Less ≡ slice_cmp nat_cmp [] (domain_key (domain_names t))
every_first D.Every h = absurd (h refl)
every_first (D.Within t) h = sym (some_less (backwards t.now) false)
every_first (D.Below t) h = sym (some_less (backwards t.now) true)
