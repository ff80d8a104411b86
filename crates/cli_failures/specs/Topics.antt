-- Which entries of a text are about a topic.
use Rattle.std.specs.Prelude.{◌==◌, ◌++◌, ℕ, Bool, List, [], ◌∷◌, Option, Some, None, take, if◌then◌else◌}
use Rattle.std.specs.List.{flat_map, list_all, list_any, position, slice_split}
use Rattle.std.specs.Str.{bytes_eq}

abbrev pub is_colon : ℕ → Bool
is_colon octet = octet == 58

abbrev pub is_blank : ℕ → Bool
is_blank octet = octet == 32

abbrev pub is_feed : ℕ → Bool
is_feed octet = octet == 10

-- what stands before the colon
abbrev pub before_colon : Option ℕ → List ℕ → List ℕ
before_colon (Some at) entry = take at entry
before_colon None entry = entry

abbrev pub entry_head : List ℕ → List ℕ
entry_head entry = before_colon (position is_colon entry) entry

abbrev pub head_words : List ℕ → List (List ℕ)
head_words head = slice_split is_blank head

-- the head has all of these words
abbrev pub about_all : List ℕ → List (List ℕ) → Bool
about_all head words = list_all (λ word. list_any (λ piece. bytes_eq piece word) (head_words head)) words

-- the entry is about the topic of these words: its head has all of them
abbrev pub is_on_topic : List (List ℕ) → List ℕ → Bool
is_on_topic words entry = about_all (entry_head entry) words

-- entries are lines
abbrev pub text_entries : List ℕ → List (List ℕ)
text_entries text = slice_split is_feed text

-- one of the entries is about the topic
abbrev pub is_known : List ℕ → List (List ℕ) → Bool
is_known text words = list_any (is_on_topic words) (text_entries text)

abbrev pub line_if_about : List (List ℕ) → List ℕ → List ℕ
line_if_about words entry = if is_on_topic words entry then entry ++ 10 ∷ [] else []

-- the entries that are about the topic, a line each
abbrev pub explanation : List ℕ → List (List ℕ) → List ℕ
explanation text words = flat_map (line_if_about words) (text_entries text)
