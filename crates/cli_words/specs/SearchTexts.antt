-- What is asked about a certificate that other certificates lead to, as it was written.
use Rattle.std.specs.Prelude.{ℕ, List, Option, map, option_map}
use Rattle.cli_words.specs.declared.search.SearchWords.{SearchWords}

-- the texts of the moment, of the purpose and of the name, and of the files of the anchors, of those between, and of the target
pub record SearchTexts : Type 0 where
  pub moment : List ℕ
  pub purpose : Option (List ℕ)
  pub name : Option (List ℕ)
  pub anchors : List (List ℕ)
  pub among : List (List ℕ)
  pub target : List ℕ

-- those of the words
abbrev pub seen_search_words : SearchWords → SearchTexts
seen_search_words words = record {
  moment = words.moment.now;
  purpose = option_map (λ purpose. purpose.now) words.purpose;
  name = option_map (λ name. name.now) words.name;
  anchors = map (λ file. file.now) words.anchors.items;
  among = map (λ file. file.now) words.among.items;
  target = words.target.now;
}
