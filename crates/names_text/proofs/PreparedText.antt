-- The loop that writes a prepared text: words that stand already, with a space before each word to come.
use Rattle.std.proofs.Common.{◌≡◌, List, [], ◌∷◌, ◌++◌, ℕ, sym, ◌∙◌, ap, append_assoc, append-nil}
use Rattle.std.specs.List.{flat_map, join_with_byte}
use Rattle.std.specs.Char.{to_ascii_lowercase}
use Rattle.std.proofs.lemmas.List.{map-append}
use Rattle.names_text.specs.Preparation.{words, lowered, prepared, BeginsWithWord}

abbrev pub spaced : List (List ℕ) → List ℕ
spaced ws = flat_map (λ w. 32 ∷ w) ws

-- what is written, in small letters, and the words of the rest are the prepared text
pub record IsWrittenUpTo (text out rest : List ℕ) : Type 0 where
  pub joined : lowered out ++ spaced (words rest) ≡ prepared text

pub join_first : (w : List ℕ) (ws : List (List ℕ)) → join_with_byte 32 (w ∷ ws) ≡ w ++ spaced ws
join_first w [] = sym (append-nil w)
join_first w (v ∷ ws) = ap (λ (l : List ℕ). w ++ 32 ∷ l) (join_first v ws)

pub first_written : (text word after out : List ℕ) → BeginsWithWord text word after → out ≡ word → IsWrittenUpTo text out after
first_written text word after out b e = record {
  joined =
      ap (λ (l : List ℕ). lowered l ++ spaced (words after)) e
      ∙ (sym (join_first (lowered word) (words after)) ∙ sym (ap (join_with_byte 32) b.first));
}

pub next_written : (text out rest word after next : List ℕ) → IsWrittenUpTo text out rest → BeginsWithWord rest word after
    → next ≡ (out ++ 32 ∷ []) ++ word → IsWrittenUpTo text next after
next_written text out rest word after next up b e =
    let low : lowered next ≡ lowered out ++ (32 ∷ lowered word) =
    ap lowered (e ∙ append_assoc out (32 ∷ []) word) ∙ map-append to_ascii_lowercase out (32 ∷ word) in
    record {
      joined =
          ap (λ (l : List ℕ). l ++ spaced (words after)) low
          ∙ (append_assoc (lowered out) (32 ∷ lowered word) (spaced (words after))
          ∙ (ap (λ (ws : List (List ℕ)). lowered out ++ spaced ws) (sym b.first) ∙ up.joined));
    }
