-- Entries that are sorted by their prefixes say of each serial number what they said first.
use Rattle.std.proofs.Common.{◌≡◌, ℕ, Bool, true, not, ◌&&◌, List, map, option_map, sym, ap, ◌∙◌, refl}
use Rattle.std.specs.List.Sorted.{IsStableByKey, ties}
use Rattle.std.specs.Ordering.{nat_cmp, is_lt}
use Rattle.std.specs.Str.{bytes_eq}
use Rattle.std.proofs.lemmas.Slice.Eq.{bytes_eq-Decides}
use Rattle.statements_facts.specs.declared.prefixed.Prefixed.{Prefixed}
use Rattle.statements_facts.specs.Listed.{first_reason}
use Rattle.statements_facts.specs.Prefix.{prefix_value}
use Rattle.statements_facts.specs.Prefixed.{seen_prefixed}
use Rattle.statements_facts.proofs.Finding.{found_kept, reason_seen}
use Rattle.statements_facts.proofs.Prefixes.{cmp_same}

abbrev lesser : Prefixed → Prefixed → Bool
lesser one other = is_lt (nat_cmp one.prefix other.prefix)

neither : (m n : ℕ) → m ≡ n → (not (is_lt (nat_cmp m n)) && not (is_lt (nat_cmp n m))) ≡ true
neither m n same = rw (cmp_same m n same, cmp_same n m (sym same)) refl

module _ (xs ys : List Prefixed) (stable : IsStableByKey (λ entry. entry.prefix) nat_cmp xs ys) (serial : List ℕ) where
  all_tie : (x y : Prefixed) → bytes_eq x.listed.serial.now serial ≡ true → bytes_eq y.listed.serial.now serial ≡ true → ties lesser x y ≡ true
  all_tie x y one other =
      let same : x.listed.serial.now ≡ y.listed.serial.now = (bytes_eq-Decides x.listed.serial.now serial).0 one ∙ sym ((bytes_eq-Decides y.listed.serial.now serial).0 other) in
      neither x.prefix y.prefix (x.is_prefix ∙ ap (prefix_value 8) same ∙ sym y.is_prefix)

  pub reasons_stay : first_reason (map seen_prefixed ys) serial ≡ first_reason (map seen_prefixed xs) serial
  reasons_stay =
      reason_seen seen_prefixed serial ys
      ∙ ap (option_map (λ x. x.listed.reason)) (found_kept (λ x. bytes_eq x.listed.serial.now serial) (ties lesser) all_tie xs ys stable)
      ∙ sym (reason_seen seen_prefixed serial xs)
