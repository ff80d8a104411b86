-- Labels joined by dots, octet by octet.
use Rattle.std.proofs.Common.{◌≡◌, ◌<◌, ◌+◌, ℕ, suc, List, [], ◌∷◌, length, Bool, true, false, ◌&&◌, refl, sym, ◌∙◌, arith}
use Rattle.std.specs.Prelude.{nat_lt, nat_le}
use Rattle.std.specs.List.{slice_split, list_all, onto_first}
use Rattle.std.proofs.lemmas.List.Splits.{slice_split-cons_yes, slice_split-cons_no}
use Rattle.names.specs.Dns.{is_dot, is_label_octet, is_label_length, is_label}
use Rattle.names_distinguished.proofs.Laws.{slice_split_nonempty}

-- whether the parts of a text are labels, if so many octets of the first label stand before it
abbrev pub goes_on : ℕ → List (List ℕ) → Bool
goes_on n [] = true
goes_on n (part ∷ parts) = (nat_lt 0 (n + length part) && (nat_le (n + length part) 63 && list_all is_label_octet part)) && list_all is_label parts

pub goes_on_whole : (parts : List (List ℕ)) → goes_on 0 parts ≡ list_all is_label parts
goes_on_whole [] = refl
goes_on_whole (part ∷ parts) = let e : 0 + length part ≡ length part = omega arith in rw e refl

good : (long short rest : Bool) → (long && short) ≡ true → ((long && (short && true)) && rest) ≡ rest
good true true rest h = refl
good true false rest h = cc
good false short rest h = cc

bad : (long short rest : Bool) → (long && short) ≡ false → ((long && (short && true)) && rest) ≡ false
bad true true rest h = cc
bad true false rest h = refl
bad false short rest h = refl

bad_octet : (long short octets rest : Bool) → ((long && (short && (false && octets))) && rest) ≡ false
bad_octet true true octets rest = refl
bad_octet true false octets rest = refl
bad_octet false short octets rest = refl

-- at a dot
pub after_label : (n octet : ℕ) (text : List ℕ) → is_dot octet ≡ true → is_label_length n ≡ true → goes_on n (slice_split is_dot (octet ∷ text)) ≡ goes_on 0 (slice_split is_dot text)
after_label n octet text dot fits =
    let e : n + 0 ≡ n = omega arith in
    rw (slice_split-cons_yes is_dot octet text dot, e) (good (nat_lt 0 n) (nat_le n 63) (list_all is_label (slice_split is_dot text)) fits ∙ sym (goes_on_whole (slice_split is_dot text)))

pub after_no_label : (n octet : ℕ) (text : List ℕ) → is_dot octet ≡ true → is_label_length n ≡ false → goes_on n (slice_split is_dot (octet ∷ text)) ≡ false
after_no_label n octet text dot fails =
    let e : n + 0 ≡ n = omega arith in
    rw (slice_split-cons_yes is_dot octet text dot, e) (bad (nat_lt 0 n) (nat_le n 63) (list_all is_label (slice_split is_dot text)) fails)

-- at another octet
onto : (n octet : ℕ) (parts : List (List ℕ)) → 0 < length parts → is_label_octet octet ≡ true → goes_on n (onto_first octet parts) ≡ goes_on (n + 1) parts
onto n octet [] some good_octet = absurd (omega arith)
onto n octet (part ∷ parts) some good_octet = let e : n + suc (length part) ≡ n + 1 + length part = omega arith in rw (e, good_octet) refl

onto_bad : (n octet : ℕ) (parts : List (List ℕ)) → 0 < length parts → is_label_octet octet ≡ false → goes_on n (onto_first octet parts) ≡ false
onto_bad n octet [] some bad_one = absurd (omega arith)
onto_bad n octet (part ∷ parts) some bad_one = rw bad_one (bad_octet (nat_lt 0 (n + suc (length part))) (nat_le (n + suc (length part)) 63) (list_all is_label_octet part) (list_all is_label parts))

pub in_label : (n octet : ℕ) (text : List ℕ) → is_dot octet ≡ false → is_label_octet octet ≡ true → goes_on n (slice_split is_dot (octet ∷ text)) ≡ goes_on (n + 1) (slice_split is_dot text)
in_label n octet text apart good_octet = rw (slice_split-cons_no is_dot octet text apart) (onto n octet (slice_split is_dot text) (slice_split_nonempty is_dot text) good_octet)

pub in_no_label : (n octet : ℕ) (text : List ℕ) → is_dot octet ≡ false → is_label_octet octet ≡ false → goes_on n (slice_split is_dot (octet ∷ text)) ≡ false
in_no_label n octet text apart bad_one = rw (slice_split-cons_no is_dot octet text apart) (onto_bad n octet (slice_split is_dot text) (slice_split_nonempty is_dot text) bad_one)

-- at the end
pub at_end : (n : ℕ) → goes_on n (slice_split is_dot []) ≡ is_label_length n
at_end n = let e : n + 0 ≡ n = omega arith in rw e (ends (nat_lt 0 n) (nat_le n 63))
  where
    ends : (long short : Bool) → ((long && (short && true)) && true) ≡ (long && short)
    ends true true = refl
    ends true false = refl
    ends false short = refl
