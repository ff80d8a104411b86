-- What is asked of a path of certificates, as it was written.
use Rattle.std.specs.Prelude.{ℕ, List, Option, map, option_map}
use Rattle.cli_words.specs.declared.query.QueryWords.{QueryWords}

-- the texts of the moment, of the purpose, of the anchor, and of the files or operands of the path
pub record QueryTexts : Type 0 where
  pub moment : List ℕ
  pub purpose : Option (List ℕ)
  pub anchor : List ℕ
  pub files : List (List ℕ)

-- those of the words
abbrev pub seen_words : QueryWords → QueryTexts
seen_words words = record {
  moment = words.moment.now;
  purpose = option_map (λ purpose. purpose.now) words.purpose;
  anchor = words.anchor.now;
  files = map (λ file. file.now) words.files.items;
}
