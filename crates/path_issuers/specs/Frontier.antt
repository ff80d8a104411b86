-- Which places a walk over a graph has seen, and from which of them it has still to go on.
use Rattle.std.specs.Prelude.{◌≡◌, ◌⊎◌, ◌+◌, ℕ, true, false, not, Contains, count_by, length, slice_index_or, vec_len}
use Rattle.path_issuers.specs.declared.frontier.Frontier.{Frontier}

abbrev pub IsSeen : Frontier → ℕ → Type 0
IsSeen frontier place = slice_index_or frontier.seen.items place false ≡ true

abbrev pub Waits : Frontier → ℕ → Type 0
Waits frontier place = Contains frontier.waiting.items place

-- how many places the walk has still to go on from, if it comes to all
abbrev pub left_of : Frontier → ℕ
left_of frontier = count_by not frontier.seen.items + length frontier.waiting.items

-- more is seen, and what is new waits
pub record Grows (old new : Frontier) : Type 0 where
  pub count : vec_len new.seen ≡ vec_len old.seen
  pub kept : (place : ℕ) → IsSeen old place → IsSeen new place
  pub waits : (place : ℕ) → Waits old place → Waits new place
  pub fresh : (place : ℕ) → IsSeen new place → IsSeen old place ⊎ Waits new place
  pub left : left_of new ≡ left_of old

-- only such places are seen and wait that did before, or are among these
pub record GrowsBy (IsAmong : ℕ → Type 0) (old new : Frontier) : Type 0 where
  pub seen : (place : ℕ) → IsSeen new place → IsSeen old place ⊎ IsAmong place
  pub waits : (place : ℕ) → Waits new place → Waits old place ⊎ IsAmong place

-- a place waits no more
pub record Takes (old new : Frontier) (place : ℕ) : Type 0 where
  pub seen : new.seen.items ≡ old.seen.items
  pub waited : Waits old place
  pub rest : (other : ℕ) → Waits old other → Waits new other ⊎ (place ≡ other)
  pub others : (other : ℕ) → Waits new other → Waits old other
  pub left : left_of new + 1 ≡ left_of old

-- no place waits
pub record IsDone (old new : Frontier) : Type 0 where
  pub seen : new.seen.items ≡ old.seen.items
  pub none : (place : ℕ) → ¬ Waits old place
