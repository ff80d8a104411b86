-- Names of files, octet by octet.
use Rattle.std.proofs.Common.{◌≡◌, ◌≢◌, ◌∙◌, ◌<◌, ◌≤◌, ◌==◌, ◌++◌, ◌∷◌, [], ℕ, Bool, true, false, List, Option, Some, None, Result, Ok, Err, MatchResult, length, drop, slice_index_or, append-nil, append_assoc, option_map, refl, sym, ap, subst, arith}
use Rattle.std.specs.Str.{IsUtf8, is_utf8}
use Rattle.std.specs.Result.{result_ok}
use Rattle.std.proofs.lemmas.Bool.Decides.{nat_tests}
use Rattle.std.proofs.lemmas.Str.{IsUtf8-from_is_utf8, is_utf8-from_IsUtf8}
use Rattle.hex.specs.Hex.{◌>>=◌, decode_pairs, decode_sized, pair_value}
use Rattle.hex.specs.declared.error.FromHexError.{FromHexError}
use Rattle.cli_requests.specs.Operands.{octet_of_digits, file_name, is_plain, name_in, plain_octet, text_of, with_octet}

-- ---- two digits

abbrev pub decoded : Result ℕ FromHexError → Result (List ℕ) FromHexError
decoded (Ok octet) = Ok (octet ∷ [])
decoded (Err e) = Err e

again : (pair : Result ℕ FromHexError) → (pair >>= (λ octet. Ok [] >>= (λ octets. Ok (octet ∷ octets)))) ≡ decoded pair
again (Ok octet) = refl
again (Err fault) = refl

as_decoded : (high low : ℕ) → decode_sized (high ∷ low ∷ []) 1 ≡ decoded (pair_value high low 0)
unfolding decode_pairs
as_decoded high low = again (pair_value high low 0)

pub of_pair : (pair : Result ℕ FromHexError) (result : Result (Unit {0}) FromHexError) (out : List ℕ)
    → MatchResult (decoded pair) (λ bytes. (result ≡ Ok tt) × (out ≡ bytes)) (λ e. result ≡ Err e)
    → (result ≡ Ok tt → Some (slice_index_or out 0 0) ≡ result_ok pair) × ((e : FromHexError) → result ≡ Err e → None ≡ result_ok pair)
of_pair (Ok octet) result out (is, same) = (λ ok. ap (λ (octets : List ℕ). Some (slice_index_or octets 0 0)) same, λ e err. absurd cc)
of_pair (Err fault) result out is = (λ ok. absurd cc, λ e err. refl)

pub of_two : (high low : ℕ) (result : Result (Unit {0}) FromHexError) (out : List ℕ)
    → MatchResult (decode_sized (high ∷ low ∷ []) 1) (λ bytes. (result ≡ Ok tt) × (out ≡ bytes)) (λ e. result ≡ Err e)
    → (result ≡ Ok tt → Some (slice_index_or out 0 0) ≡ octet_of_digits high low) × ((e : FromHexError) → result ≡ Err e → None ≡ octet_of_digits high low)
of_two high low result out is = of_pair (pair_value high low 0) result out
    (subst (λ (r : Result (List ℕ) FromHexError). MatchResult r (λ bytes. (result ≡ Ok tt) × (out ≡ bytes)) (λ e. result ≡ Err e)) (as_decoded high low) is)

-- ---- one octet

plain_is : (octet : ℕ) → is_plain octet ≡ true → plain_octet octet ≡ Some octet
plain_is octet is = rw is refl

plain_none : (octet : ℕ) → is_plain octet ≡ false → plain_octet octet ≡ None
plain_none octet is = rw is refl

no_escape : (octet : ℕ) → is_plain octet ≡ true → (octet == 92) ≡ false
no_escape octet is = grind (arith, nat_tests, is)

none_first : (more : Option (List ℕ)) → with_octet None more ≡ None
none_first more = refl

pub plain_read : (word : List ℕ) → 0 < length word → is_plain (slice_index_or word 0 0) ≡ true → name_in word ≡ with_octet (Some (slice_index_or word 0 0)) (name_in (drop 1 word))
unfolding name_in
plain_read [] some is = absurd (omega (arith, some))
plain_read (a ∷ []) some is = rw is refl
plain_read (a ∷ b ∷ []) some is = rw is refl
plain_read (a ∷ b ∷ c ∷ rest) some is = rw is (rw (no_escape a is) refl)

pub short_none : (word : List ℕ) → 0 < length word → length word < 3 → is_plain (slice_index_or word 0 0) ≡ false → name_in word ≡ None
unfolding name_in
short_none [] some short is = absurd (omega (arith, some))
short_none (a ∷ []) some short is = rw is refl
short_none (a ∷ b ∷ []) some short is = rw is refl
short_none (a ∷ b ∷ c ∷ rest) some short is = absurd (omega (arith, short))

not_escape : (octet : ℕ) → octet ≢ 92 → (octet == 92) ≡ false
not_escape octet is = grind (arith, nat_tests, is)

pub other_none : (word : List ℕ) → 3 ≤ length word → slice_index_or word 0 0 ≢ 92 → is_plain (slice_index_or word 0 0) ≡ false → name_in word ≡ None
unfolding name_in
other_none [] some other is = absurd (omega (arith, some))
other_none (a ∷ []) some other is = absurd (omega (arith, some))
other_none (a ∷ b ∷ []) some other is = absurd (omega (arith, some))
other_none (a ∷ b ∷ c ∷ rest) some other is = rw is (rw (not_escape a other) refl)

is_escape : (octet : ℕ) → octet ≡ 92 → (octet == 92) ≡ true
is_escape octet is = grind (arith, nat_tests, is)

pub escape_read : (word : List ℕ) (octet : Option ℕ) → 3 ≤ length word → slice_index_or word 0 0 ≡ 92
    → octet ≡ octet_of_digits (slice_index_or word 1 0) (slice_index_or word 2 0) → name_in word ≡ with_octet octet (name_in (drop 3 word))
unfolding name_in
escape_read [] octet some here is = absurd (omega (arith, some))
escape_read (a ∷ []) octet some here is = absurd (omega (arith, some))
escape_read (a ∷ b ∷ []) octet some here is = absurd (omega (arith, some))
escape_read (a ∷ b ∷ c ∷ rest) octet some here is = rw (is_escape a here) (ap (λ (x : Option ℕ). with_octet x (name_in rest)) (sym is))

-- ---- one after the other

-- these octets, and then those
abbrev pub behind : List ℕ → Option (List ℕ) → Option (List ℕ)
behind name more = option_map (λ octets. name ++ octets) more

one_behind : (name : List ℕ) (octet : ℕ) (more : Option (List ℕ)) → behind (name ++ octet ∷ []) more ≡ behind name (with_octet (Some octet) more)
one_behind name octet None = refl
one_behind name octet (Some octets) = ap Some (append_assoc name (octet ∷ []) octets)

pub octet_more : (name rest more : List ℕ) (octet : ℕ) (whole : Option (List ℕ)) → name_in rest ≡ with_octet (Some octet) (name_in more) → behind name (name_in rest) ≡ whole
    → behind (name ++ octet ∷ []) (name_in more) ≡ whole
octet_more name rest more octet whole read so_far = one_behind name octet (name_in more) ∙ ap (behind name) (sym read) ∙ so_far

pub all_read : (name rest : List ℕ) (whole : Option (List ℕ)) → length rest ≡ 0 → behind name (name_in rest) ≡ whole → Some name ≡ whole
unfolding name_in
all_read name [] whole none so_far = ap Some (sym (append-nil name)) ∙ so_far
all_read name (octet ∷ octets) whole none so_far = absurd (omega (arith, none))

pub none_read : (name rest : List ℕ) (whole : Option (List ℕ)) → name_in rest ≡ None → behind name (name_in rest) ≡ whole → None ≡ whole
none_read name rest whole none so_far = sym (ap (behind name) none) ∙ so_far

-- ---- the whole

pub is_text : (octets : List ℕ) → IsUtf8 octets → text_of octets ≡ Some octets
is_text octets is = rw (is_utf8-from_IsUtf8 octets is) refl

pub no_name : (octets : List ℕ) → length octets ≡ 0 → file_name octets ≡ None
no_name [] none = refl
no_name (octet ∷ octets) none = absurd (omega (arith, none))

pub name_is_text : (octets : List ℕ) → 0 < length octets → file_name octets ≡ text_of octets
name_is_text [] some = absurd (omega (arith, some))
name_is_text (octet ∷ octets) some = refl

no_utf8 : (octets : List ℕ) (test : Bool) → is_utf8 octets ≡ test → (IsUtf8 octets → ⊥) → test ≡ false
no_utf8 octets true is none = absurd (none (IsUtf8-from_is_utf8 octets is))
no_utf8 octets false is none = refl

pub no_text : (octets : List ℕ) → (IsUtf8 octets → ⊥) → text_of octets ≡ None
no_text octets none = rw (no_utf8 octets (is_utf8 octets) refl none) refl
