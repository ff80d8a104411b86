-- What preparation keeps and what it drops.
use Rattle.std.proofs.Common.{◌≡◌, ℕ, ◌<◌, List, [], ◌∷◌, ◌++◌, length, map, refl, sym, ◌∙◌, ap, inl, inr, arith, append-nil}
use Rattle.std.specs.List.{slice_split, onto_first, filter, join_with_byte}
use Rattle.std.specs.Char.{to_ascii_lowercase}
use Rattle.std.proofs.lemmas.Bool.{cases_Bool, cond-true, lt-ltb}
use Rattle.std.proofs.lemmas.List.{map-append}
use Rattle.std.proofs.lemmas.List.Elements.{filter-append}
use Rattle.std.proofs.lemmas.List.Splits.{slice_split-cons_yes, slice_split-cons_no, slice_split_none}
use Rattle.std.proofs.lemmas.Str.Ascii.{lowercase-lowercase}
use Rattle.names_text.specs.Preparation.{is_space, has_octets, lowered, words, prepared, PreparationIsIdempotent, CaseIsIgnored, EndSpacesAreDropped, SpaceRunsAreOneSpace, InnerSpacesStay, WordsStay}
use Rattle.names_text.proofs.Splitting.{slice_split-append, join-append}
use Rattle.names_text.proofs.Words.{Plain, plain_words, space-lower, split_join}

-- the words on both sides of a space
words-append : (before after : List ℕ) → words (before ++ 32 ∷ after) ≡ words before ++ words after
unfolding words
words-append before after =
    ap (λ (l : List ℕ). filter has_octets (slice_split is_space l)) (map-append to_ascii_lowercase before (32 ∷ after))
    ∙ (ap (filter has_octets) (slice_split-append is_space (lowered before) 32 (lowered after) refl)
    ∙ filter-append has_octets (slice_split is_space (lowered before)) (slice_split is_space (lowered after)))

some : (w : List ℕ) (ws : List (List ℕ)) → 0 < length w → filter has_octets (w ∷ ws) ≡ w ∷ filter has_octets ws
some w ws h = cond-true (has_octets w) (w ∷ filter has_octets ws) (filter has_octets ws) (lt-ltb 0 (length w) h)

words-nil : words [] ≡ []
unfolding words
words-nil = refl

words-space : (text : List ℕ) → words (32 ∷ text) ≡ words text
words-space text = words-append [] text ∙ ap (λ (l : List (List ℕ)). l ++ words text) words-nil

words-spaces : (before after : List ℕ) → words (before ++ 32 ∷ 32 ∷ after) ≡ words (before ++ 32 ∷ after)
words-spaces before after =
    words-append before (32 ∷ after)
    ∙ (ap (λ (l : List (List ℕ)). words before ++ l) (words-space after) ∙ sym (words-append before after))

words-end : (text : List ℕ) → words (text ++ 32 ∷ []) ≡ words text
words-end text =
    words-append text [] ∙ (ap (λ (l : List (List ℕ)). words text ++ l) words-nil ∙ append-nil (words text))

-- small letters are folded already
lowered-lowered : (text : List ℕ) → lowered (lowered text) ≡ lowered text
lowered-lowered [] = refl
lowered-lowered (c ∷ text) = let e = lowercase-lowercase c in let rest = lowered-lowered text in cc

onto_first-lowered : (c : ℕ) (parts : List (List ℕ)) → onto_first (to_ascii_lowercase c) (map lowered parts) ≡ map lowered (onto_first c parts)
onto_first-lowered c [] = refl
onto_first-lowered c (part ∷ parts) = refl

split-lowered : (text : List ℕ) → slice_split is_space (lowered text) ≡ map lowered (slice_split is_space text)
split-lowered [] = refl
split-lowered (c ∷ text) =
    elim (cases_Bool (is_space c)) [
      | inl t ↦ slice_split-cons_yes is_space (to_ascii_lowercase c) (lowered text) (space-lower c ∙ t)
          ∙ (ap (λ (l : List (List ℕ)). [] ∷ l) (split-lowered text)
          ∙ sym (ap (map lowered) (slice_split-cons_yes is_space c text t)))
      | inr f ↦ slice_split-cons_no is_space (to_ascii_lowercase c) (lowered text) (space-lower c ∙ f)
          ∙ (ap (λ (l : List (List ℕ)). onto_first (to_ascii_lowercase c) l) (split-lowered text)
          ∙ (onto_first-lowered c (slice_split is_space text)
          ∙ sym (ap (map lowered) (slice_split-cons_no is_space c text f))))
    ]

filter-lowered : (parts : List (List ℕ)) → filter has_octets (map lowered parts) ≡ map lowered (filter has_octets parts)
filter-lowered [] = refl
filter-lowered ([] ∷ parts) = filter-lowered parts
filter-lowered ((c ∷ part) ∷ parts) =
    some (lowered (c ∷ part)) (map lowered parts) (omega arith)
    ∙ (ap (λ (l : List (List ℕ)). lowered (c ∷ part) ∷ l) (filter-lowered parts)
    ∙ sym (ap (map lowered) (some (c ∷ part) parts (omega arith))))

-- words that are not empty all pass
filter-plain : (ws : List (List ℕ)) → Plain ws → filter has_octets ws ≡ ws
filter-plain [] h = refl
filter-plain (w ∷ ws) h = some w ws h.0 ∙ ap (λ (l : List (List ℕ)). w ∷ l) (filter-plain ws h.2)

-- the words of a text are in small letters
lowered-words : (text : List ℕ) → map lowered (words text) ≡ words text
unfolding words
lowered-words text =
    sym (filter-lowered (slice_split is_space (lowered text)))
    ∙ (ap (filter has_octets) (sym (split-lowered (lowered text)))
    ∙ ap (λ (l : List ℕ). filter has_octets (slice_split is_space l)) (lowered-lowered text))

-- the words of words that are joined
words-join : (ws : List (List ℕ)) → Plain ws → words (join_with_byte 32 ws) ≡ map lowered ws
unfolding words
words-join [] h = refl
words-join (w ∷ ws) h =
    ap (filter has_octets) (split-lowered (join_with_byte 32 (w ∷ ws)))
    ∙ (ap (λ (l : List (List ℕ)). filter has_octets (map lowered l)) (split_join w ws h)
    ∙ (filter-lowered (w ∷ ws) ∙ ap (map lowered) (filter-plain (w ∷ ws) h)))

words-prepared : (text : List ℕ) → words (prepared text) ≡ words text
words-prepared text = words-join (words text) (plain_words text) ∙ lowered-words text

some_words : (ws : List (List ℕ)) → 0 < length (join_with_byte 32 ws) → 0 < length ws
some_words [] h = absurd (omega arith)
some_words (w ∷ ws) h = omega arith

word_prepared : (word : List ℕ) → slice_split is_space word ≡ word ∷ [] → prepared word ≡ lowered word
unfolding words
word_prepared [] e = refl
word_prepared (c ∷ word) e =
    ap (join_with_byte 32) (
    ap (filter has_octets) (split-lowered (c ∷ word) ∙ ap (map lowered) e)
    ∙ some (lowered (c ∷ word)) [] (omega arith))

pub idempotent : PreparationIsIdempotent
idempotent text = ap (join_with_byte 32) (words-prepared text)

pub case_is_ignored : CaseIsIgnored
unfolding words
case_is_ignored left right e = ap (λ (l : List ℕ). join_with_byte 32 (filter has_octets (slice_split is_space l))) e

pub end_spaces_are_dropped : EndSpacesAreDropped
end_spaces_are_dropped = record {
  leading = λ text. ap (join_with_byte 32) (words-space text);
  trailing = λ text. ap (join_with_byte 32) (words-end text);
}

pub space_runs_are_one_space : SpaceRunsAreOneSpace
space_runs_are_one_space before after = ap (join_with_byte 32) (words-spaces before after)

pub inner_spaces_stay : InnerSpacesStay
inner_spaces_stay before after p q =
    ap (join_with_byte 32) (words-append before after)
    ∙ join-append 32 (words before) (words after) (some_words (words before) p) (some_words (words after) q)

pub words_stay : WordsStay
words_stay word h = word_prepared word (slice_split_none is_space word h)
