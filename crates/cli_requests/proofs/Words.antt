-- Words of lines.
use Rattle.std.proofs.Common.{◌≡◌, ◌∙◌, ◌++◌, ℕ, Bool, true, false, List, Option, Some, None, MatchOption, Bor, option_map, length, take, drop, refl, sym, ap}
use Rattle.std.specs.Str.{IsUtf8, bytes_eq, is_utf8}
use Rattle.std.specs.Str.Pattern.{FindsTextPrefix, LacksTextAt, StripsPrefix}
use Rattle.std.proofs.Math.Seq.{take-append_seam}
use Rattle.std.proofs.lemmas.List.{take-append-drop}
use Rattle.std.proofs.lemmas.Slice.Eq.{bytes_eq-Decides}
use Rattle.std.proofs.lemmas.Str.{IsUtf8-from_is_utf8, is_utf8-from_IsUtf8}
use Rattle.cli_requests.specs.Requests.{behind, is_passed_over, request_in, request_on, words_of}

-- ---- words with a front

module _ (front word : List ℕ) where
  unprefixed : (test : Bool) → bytes_eq (take (length front) word) front ≡ test → LacksTextAt front word 0 → test ≡ false
  unprefixed true is none =
      absurd (none (drop (length front) word)
      (sym (take-append-drop (length front) word) ∙ ap (λ (begin : List ℕ). begin ++ drop (length front) word) ((bytes_eq-Decides (take (length front) word) front).0 is)))
  unprefixed false is none = refl

  pub stripped : (result : Option (Bor (List ℕ)))
      → MatchOption result (FindsTextPrefix front word None) (λ text. StripsPrefix (FindsTextPrefix front) word text.now)
      → option_map (λ text. text.now) result ≡ behind front word
  stripped None none = rw (unprefixed (bytes_eq (take (length front) word) front) refl none) refl
  stripped (Some text) (n, (n_is, split, boundary), text_is, len) =
      let begins : take (length front) word ≡ front = ap (take (length front)) split ∙ take-append_seam front _ in
      let found : bytes_eq (take (length front) word) front ≡ true = (bytes_eq-Decides (take (length front) word) front).1 begins in
      rw found (ap Some (text_is ∙ ap (λ (k : ℕ). drop k word) n_is))

-- ---- texts

pub on_text : (line : List ℕ) → is_passed_over line ≡ false → IsUtf8 line → request_on line ≡ request_in (words_of line)
on_text line written is = rw written (rw (is_utf8-from_IsUtf8 line is) refl)

no_utf8 : (line : List ℕ) (test : Bool) → is_utf8 line ≡ test → (IsUtf8 line → ⊥) → test ≡ false
no_utf8 line true is none = absurd (none (IsUtf8-from_is_utf8 line is))
no_utf8 line false is none = refl

pub on_no_text : (line : List ℕ) → is_passed_over line ≡ false → (IsUtf8 line → ⊥) → request_on line ≡ None
on_no_text line written none = rw written (rw (no_utf8 line (is_utf8 line) refl none) refl)
