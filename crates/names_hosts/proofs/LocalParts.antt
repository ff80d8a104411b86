-- Local parts of mail addresses: the tests and functions give just what the relations say.
use Rattle.std.proofs.Common.{◌≡◌, ◌≢◌, ◌+◌, ℕ, List, [], ◌∷◌, ◌++◌, length, take, drop, Bool, true, false, ◌==◌, ◌&&◌, nat_lt, Option, Some, None, refl, sym, ◌∙◌, ap, subst, inl, inr, arith}
use Rattle.std.specs.Bool.{then_some}
use Rattle.std.specs.List.{All, AllZip, list_all, concat, join_with_byte, position, position_or_len}
use Rattle.std.proofs.lemmas.Bool.{cases_eq, cases_Bool, cond-true, cond-false, eq-eqb, ne_eqb, both_ways, and_parts, and_from, ltb-true, lt-ltb}
use Rattle.std.proofs.lemmas.List.Elements.{All-head, All-tail, All-cons, All-append, All-weaker}
use Rattle.std.proofs.lemmas.List.Quantifiers.{position-Some}
use Rattle.std.proofs.lemmas.List.Sums.{AllPass-from_list_all, list_all-from_AllPass}
use Rattle.std.proofs.lemmas.List.Splits.{join_with_byte-slice_split, slice_split_first, slice_split_none}
use Rattle.names.specs.Dns.{is_dot}
use Rattle.names_identity.specs.Host.{dotted_parts}
use Rattle.names_hosts.specs.Splits.{between}
use Rattle.names_hosts.specs.LocalPart.{is_atom_octet, IsAtom, IsDotString, is_printing, is_quoted_octet, IsPiece, IsLocalPart, is_atom, is_dot_string, are_quoted, pair_of, unquoted, contents_if_quoted, local_contents, IsFirstOf}
use Rattle.names_hosts.proofs.HostTests.{then_some_is, then_some_again}
use Rattle.names_hosts.proofs.LastSplits.{Differ, differ, between_from, between_again}
use Rattle.names_hosts.proofs.UriTexts.{none_passes}

-- dot-strings, as the code walks them
place_is : (text : List ℕ) (at : ℕ) → position is_dot text ≡ Some at → position_or_len is_dot text ≡ at
place_is text at h =
    let n = position_or_len is_dot text in
    elim (cases_Bool (nat_lt n (length text))) [
      | inl t ↦ let f : Some n ≡ Some at = sym (cond-true (nat_lt n (length text)) (Some n) None t) ∙ h in cc
      | inr e ↦ let f : None ≡ Some at = sym (cond-false (nat_lt n (length text)) (Some n) None e) ∙ h in cc
    ]

parts_at : (text : List ℕ) (at : ℕ) → position is_dot text ≡ Some at → dotted_parts text ≡ take at text ∷ dotted_parts (drop (at + 1) text)
parts_at text at h =
    let e = place_is text at h in
    let s = position-Some is_dot text at 0 h in
    slice_split_first is_dot text 0 (omega (arith, s.0)) ∙ ap (λ (n : ℕ). take n text ∷ dotted_parts (drop (n + 1) text)) e

pub dot_met :
    (utf8 : Bool) (text : List ℕ) (at : ℕ) (b : Bool) → position is_dot text ≡ Some at → b ≡ is_atom utf8 (take at text) →
    is_dot_string utf8 text ≡ (b && is_dot_string utf8 (drop (at + 1) text))
dot_met utf8 text at b h e =
    ap (list_all (is_atom utf8)) (parts_at text at h) ∙ ap (λ (c : Bool). c && is_dot_string utf8 (drop (at + 1) text)) (sym e)

pub no_dot_met : (utf8 : Bool) (text : List ℕ) → position is_dot text ≡ None → is_dot_string utf8 text ≡ is_atom utf8 text
no_dot_met utf8 text h =
    ap (list_all (is_atom utf8)) (slice_split_none is_dot text (none_passes is_dot text h)) ∙ and_true (is_atom utf8 text)
  where
    and_true : (b : Bool) → (b && true) ≡ b
    and_true true = refl
    and_true false = refl

-- an octet that is of no atom, and no dot, is in no dot-string
all_joined : (P : ℕ → Type 0) → P 46 → (parts : List (List ℕ)) → All (All P) parts → All P (join_with_byte 46 parts)
all_joined P dot [] h = λ k d below. absurd (omega (arith, below))
all_joined P dot (part ∷ []) h = All-head (All P) part [] h
all_joined P dot (part ∷ next ∷ parts) h =
    All-append P part (46 ∷ join_with_byte 46 (next ∷ parts)) (All-head (All P) part (next ∷ parts) h)
    (All-cons P 46 (join_with_byte 46 (next ∷ parts)) dot (all_joined P dot (next ∷ parts) (All-tail (All P) part (next ∷ parts) h)))

not_in_dots : (utf8 : Bool) (mark : ℕ) (part : List ℕ) → is_atom_octet utf8 mark ≡ false → 46 ≢ mark → IsDotString utf8 part → Differ mark part
not_in_dots utf8 mark part f dot h =
    subst (Differ mark) (join_with_byte-slice_split 46 part)
    (all_joined (λ octet. octet ≢ mark) dot (dotted_parts part)
    (All-weaker (IsAtom utf8) (All (λ octet. octet ≢ mark)) (λ atom a. differ (is_atom_octet utf8) mark atom f a.octets) (dotted_parts part) h))

no_quote : (utf8 : Bool) → is_atom_octet utf8 34 ≡ false
no_quote true = refl
no_quote false = refl

no_slash : (utf8 : Bool) → is_atom_octet utf8 92 ≡ false
no_slash true = refl
no_slash false = refl

-- without backslashes contents stand for themselves
pub unquoted_same : (text : List ℕ) → Differ 92 text → unquoted text ≡ text
unquoted_same [] none = refl
unquoted_same (octet ∷ []) none = refl
unquoted_same (octet ∷ next ∷ rest) none =
    let other = All-head (λ o. o ≢ 92) octet (next ∷ rest) none in
    rw (ne_eqb octet 92 other) (ap (λ (l : List ℕ). octet ∷ l) (unquoted_same (next ∷ rest) (All-tail (λ o. o ≢ 92) octet (next ∷ rest) none)))

atom_from : (utf8 : Bool) (atom : List ℕ) → is_atom utf8 atom ≡ true → IsAtom utf8 atom
atom_from utf8 atom t =
    let a = and_parts (nat_lt 0 (length atom)) (list_all (is_atom_octet utf8) atom) t in
    record { some = ltb-true 0 (length atom) a.0; octets = AllPass-from_list_all (is_atom_octet utf8) atom a.1 }

atom_again : (utf8 : Bool) (atom : List ℕ) → IsAtom utf8 atom → is_atom utf8 atom ≡ true
atom_again utf8 atom a =
    and_from (nat_lt 0 (length atom)) (list_all (is_atom_octet utf8) atom) (lt-ltb 0 (length atom) a.some)
    (list_all-from_AllPass (is_atom_octet utf8) atom a.octets)

dots_from : (utf8 : Bool) (part : List ℕ) → is_dot_string utf8 part ≡ true → IsDotString utf8 part
dots_from utf8 part t =
    All-weaker (λ atom. is_atom utf8 atom ≡ true) (IsAtom utf8) (atom_from utf8) (dotted_parts part)
    (AllPass-from_list_all (is_atom utf8) (dotted_parts part) t)

dots_again : (utf8 : Bool) (part : List ℕ) → IsDotString utf8 part → is_dot_string utf8 part ≡ true
dots_again utf8 part h =
    list_all-from_AllPass (is_atom utf8) (dotted_parts part)
    (All-weaker (IsAtom utf8) (λ atom. is_atom utf8 atom ≡ true) (atom_again utf8) (dotted_parts part) h)

-- quoted strings
pub record AreQuoted (utf8 : Bool) (contents value : List ℕ) : Type 0 where
  pub pieces : List (List ℕ)
  pub joined : contents ≡ concat pieces
  pub each : AllZip (IsPiece utf8) pieces value

one_more : (utf8 : Bool) (piece contents value : List ℕ) (octet : ℕ) → IsPiece utf8 piece octet → AreQuoted utf8 contents value → AreQuoted utf8 (piece ++ contents) (octet ∷ value)
one_more utf8 piece contents value octet p q = record {
  pieces = piece ∷ q.pieces;
  joined = ap (λ (l : List ℕ). piece ++ l) q.joined;
  each = (p, q.each);
}

nothing : (utf8 : Bool) → AreQuoted utf8 [] []
nothing utf8 = record { pieces = []; joined = refl; each = tt }

quoted_from : (utf8 : Bool) (contents : List ℕ) → are_quoted utf8 contents ≡ true → AreQuoted utf8 contents (unquoted contents)
quoted_from utf8 [] t = nothing utf8
quoted_from utf8 (octet ∷ []) t = one_more utf8 (octet ∷ []) [] [] octet (inl (refl, t)) (nothing utf8)
quoted_from utf8 (octet ∷ next ∷ rest) t =
    elim (cases_eq octet 92) [
      | inl slash ↦
          let u : (is_printing next && are_quoted utf8 rest) ≡ true = rw (eq-eqb octet 92 slash) at t in
          let a = and_parts (is_printing next) (are_quoted utf8 rest) u in
          rw (eq-eqb octet 92 slash) (one_more utf8 (octet ∷ next ∷ []) rest (unquoted rest) next
          (inr (ap (λ (o : ℕ). o ∷ next ∷ []) slash, a.0)) (quoted_from utf8 rest a.1))
      | inr other ↦
          let u : (is_quoted_octet utf8 octet && are_quoted utf8 (next ∷ rest)) ≡ true =
          sym (cond-false (octet == 92) (is_printing next && are_quoted utf8 rest) (is_quoted_octet utf8 octet && are_quoted utf8 (next ∷ rest))
          (ne_eqb octet 92 other)) ∙ t in
          let a = and_parts (is_quoted_octet utf8 octet) (are_quoted utf8 (next ∷ rest)) u in
          rw (ne_eqb octet 92 other) (one_more utf8 (octet ∷ []) (next ∷ rest) (unquoted (next ∷ rest)) octet
          (inl (refl, a.0)) (quoted_from utf8 (next ∷ rest) a.1))
    ]

slash_alone : (utf8 : Bool) → is_quoted_octet utf8 92 ≡ false
slash_alone true = refl
slash_alone false = refl

not_slash : (utf8 : Bool) (octet : ℕ) → is_quoted_octet utf8 octet ≡ true → octet ≢ 92
not_slash utf8 octet t e = both_ways (is_quoted_octet utf8 octet) (ap (is_quoted_octet utf8) e ∙ slash_alone utf8) t

-- contents with one octet more in front
pub test_one :
    (utf8 : Bool) (octet : ℕ) (behind : List ℕ) → pair_of octet behind ≡ None →
    (are_quoted utf8 (octet ∷ behind) ≡ (is_quoted_octet utf8 octet && are_quoted utf8 behind)) × (unquoted (octet ∷ behind) ≡ octet ∷ unquoted behind)
test_one utf8 octet [] e = (sym (and_true (is_quoted_octet utf8 octet)), refl)
  where
    and_true : (b : Bool) → (b && true) ≡ b
    and_true true = refl
    and_true false = refl
test_one utf8 octet (next ∷ rest) e =
    elim (cases_Bool (octet == 92)) [
      | inl slash ↦
          let f : then_some {T = ℕ × List ℕ} true (next, rest) ≡ None = rw slash at e in
          absurd cc
      | inr other ↦ rw other (refl, refl)
    ]

-- and with a backslash and an octet more
pub test_pair :
    (utf8 : Bool) (octet quoted : ℕ) (behind others : List ℕ) → pair_of octet behind ≡ Some (quoted, others) →
    (are_quoted utf8 (octet ∷ behind) ≡ (is_printing quoted && are_quoted utf8 others)) × (unquoted (octet ∷ behind) ≡ quoted ∷ unquoted others)
    × (behind ≡ quoted ∷ others)
test_pair utf8 octet quoted [] others e = absurd cc
test_pair utf8 octet quoted (next ∷ rest) others e =
    let s = then_some_is {X = ℕ × List ℕ} (octet == 92) (next, rest) (quoted, others) e in
    let first : next ≡ quoted = ap (λ (p : ℕ × List ℕ). p.0) s.1 in
    let behind : rest ≡ others = ap (λ (p : ℕ × List ℕ). p.1) s.1 in
    rw s.0 (
      ap (λ (p : ℕ × List ℕ). is_printing p.0 && are_quoted utf8 p.1) s.1,
      ap (λ (p : ℕ × List ℕ). p.0 ∷ unquoted p.1) s.1,
      ap (λ (p : ℕ × List ℕ). p.0 ∷ p.1) s.1,
    )

alone : (utf8 : Bool) (octet : ℕ) (behind : List ℕ) → is_quoted_octet utf8 octet ≡ true → pair_of octet behind ≡ None
alone utf8 octet [] t = refl
alone utf8 octet (next ∷ rest) t = ap (λ (b : Bool). then_some {T = ℕ × List ℕ} b (next, rest)) (ne_eqb octet 92 (not_slash utf8 octet t))

quoted_again :
    (utf8 : Bool) (pieces : List (List ℕ)) (value : List ℕ) → AllZip (IsPiece utf8) pieces value →
    (are_quoted utf8 (concat pieces) ≡ true) × (unquoted (concat pieces) ≡ value)
quoted_again utf8 [] [] h = (refl, refl)
quoted_again utf8 [] (octet ∷ value) h = absurd h
quoted_again utf8 (piece ∷ pieces) [] h = absurd h
quoted_again utf8 (piece ∷ pieces) (octet ∷ value) h =
    let rest = concat pieces in
    let later = quoted_again utf8 pieces value h.1 in
    elim (h.0) [
      | inl one ↦
          let e : concat (piece ∷ pieces) ≡ octet ∷ rest = ap (λ (p : List ℕ). p ++ rest) one.0 in
          let s = test_one utf8 octet rest (alone utf8 octet rest one.1) in (
            ap (are_quoted utf8) e ∙ (s.0 ∙ and_from (is_quoted_octet utf8 octet) (are_quoted utf8 rest) one.1 later.0),
            ap unquoted e ∙ (s.1 ∙ ap (λ (l : List ℕ). octet ∷ l) later.1),
          )
      | inr two ↦
          let e : concat (piece ∷ pieces) ≡ 92 ∷ octet ∷ rest = ap (λ (p : List ℕ). p ++ rest) two.0 in (
            ap (are_quoted utf8) e ∙ and_from (is_printing octet) (are_quoted utf8 rest) two.1 later.0,
            ap unquoted e ∙ ap (λ (l : List ℕ). octet ∷ l) later.1,
          )
    ]

-- local parts
contents_from :
    (utf8 : Bool) (part contents : List ℕ) (inside : Option (List ℕ)) → between 34 34 part ≡ inside →
    contents_if_quoted utf8 part inside ≡ Some contents → IsLocalPart utf8 part (unquoted contents)
contents_from utf8 part contents (Some quoted) is e =
    let s = then_some_is (are_quoted utf8 quoted) quoted contents e in
    let q = quoted_from utf8 quoted s.0 in
    subst (λ (l : List ℕ). IsLocalPart utf8 part (unquoted l)) s.1
    (inr (record { pieces = q.pieces; joined = between_from 34 34 part quoted is ∙ ap (λ (l : List ℕ). 34 ∷ l ++ 34 ∷ []) q.joined; each = q.each }))
contents_from utf8 part contents None is e =
    let s = then_some_is (is_dot_string utf8 part) part contents e in
    let dots = dots_from utf8 part s.0 in
    inl (dots, ap unquoted (sym s.1) ∙ unquoted_same part (not_in_dots utf8 92 part (no_slash utf8) (λ e. omega (arith, e)) dots))

pub local_from : (utf8 : Bool) (part contents : List ℕ) → local_contents utf8 part ≡ Some contents → IsLocalPart utf8 part (unquoted contents)
unfolding local_contents
local_from utf8 part contents e = contents_from utf8 part contents (between 34 34 part) refl e

pub record HasContents (utf8 : Bool) (part value : List ℕ) : Type 0 where
  pub contents : List ℕ
  pub found : local_contents utf8 part ≡ Some contents
  pub value_is : unquoted contents ≡ value

unquoted_part : (utf8 : Bool) (part : List ℕ) (inside : Option (List ℕ)) → between 34 34 part ≡ inside → IsDotString utf8 part → inside ≡ None
unquoted_part utf8 part None is dots = refl
unquoted_part utf8 part (Some quoted) is dots =
    let none = subst (Differ 34) (between_from 34 34 part quoted is) (not_in_dots utf8 34 part (no_quote utf8) (λ e. omega (arith, e)) dots) in
    absurd (All-head (λ o. o ≢ 34) 34 (quoted ++ 34 ∷ []) none refl)

pub local_again : (utf8 : Bool) (part value : List ℕ) → IsLocalPart utf8 part value → HasContents utf8 part value
unfolding local_contents
local_again utf8 part value h =
    elim h [
      | inl dots ↦ record {
        contents = part;
        found =
            ap (contents_if_quoted utf8 part) (unquoted_part utf8 part (between 34 34 part) refl dots.0)
            ∙ then_some_again (is_dot_string utf8 part) part (dots_again utf8 part dots.0);
        value_is = unquoted_same part (not_in_dots utf8 92 part (no_slash utf8) (λ e. omega (arith, e)) dots.0) ∙ sym dots.1;
      }
      | inr quoted ↦
          let q = quoted_again utf8 quoted.pieces value quoted.each in
          let inside = concat quoted.pieces in
          record {
            contents = inside;
            found =
                ap (contents_if_quoted utf8 part) (between_again 34 34 part inside quoted.joined)
                ∙ then_some_again (are_quoted utf8 inside) inside q.0;
            value_is = q.1;
          }
    ]

-- the first octet that contents stand for
pub first_alone : (octet : ℕ) (behind : List ℕ) → pair_of octet behind ≡ None → IsFirstOf (octet ∷ behind) octet behind
first_alone octet behind e = record { value = (test_one false octet behind e).1; shorter = omega arith }

pub first_quoted : (octet quoted : ℕ) (behind others : List ℕ) → pair_of octet behind ≡ Some (quoted, others) → IsFirstOf (octet ∷ behind) quoted others
first_quoted octet quoted behind others e =
    let s = test_pair false octet quoted behind others e in
    record { value = s.1; shorter = omega (arith, ap length s.2) }
