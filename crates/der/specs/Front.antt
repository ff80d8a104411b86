-- What the code knows of a value at the front of a text, of which it has not looked at the values inside.
use Rattle.std.specs.Prelude.{◌≡◌, Bool, if◌then◌else◌, ℕ, zero, suc, ◌+◌, ◌≤◌, List, [], ◌++◌, length, drop, get_or}
use Rattle.std.specs.Borrow.{Bor}
use Rattle.der.specs.Value.{Value, Values}
use Rattle.der.specs.Length.{end_of}
use Rattle.der.specs.Encoding.{deepest, EncodesAt, EncodesAllAt}
use Rattle.der.specs.FirstFault.{BreaksFirst, FirstFaultIn, FirstFaultAmong}
use Rattle.der.specs.Header.{IsSound, BeginsWithValue}
use Rattle.der.specs.declared.fault.Rule.{Rule}
use Rattle.der.specs.declared.fault.Rule.TheVariants.{Content}

-- the text is encodings of values, one after the other
abbrev pub AreEncodings : ℕ → List ℕ → Type 0
AreEncodings depth text = (values : Values) × EncodesAllAt depth text values

-- a value stands at the front of the text, and these octets behind it
pub record IsFront (depth : ℕ) (text others : List ℕ) : Type 0 where
  pub front : List ℕ
  pub value : Value
  pub joined : text ≡ front ++ others
  pub encodes : EncodesAt depth front value

-- the octets of the values inside a value with these contents
abbrev pub inside_of : Bool → List ℕ → List ℕ
inside_of constructed contents = if constructed then contents else []

-- A value stands at the front of the text, of which the values inside fill the one text, and the other stands behind it. Its header breaks
-- no rule, nor do the contents if it is primitive. So it is encoded if the values inside are, and their first fault is its own.
pub record BeginsWith (text inside others : List ℕ) : Type 0 where
  pub others_are : others ≡ drop (end_of text) text
  pub shorter : length inside + length others + 2 ≤ length text
  pub encoded : (depth : ℕ) → depth ≤ deepest → AreEncodings (depth + 1) inside → BeginsWithValue depth text (end_of text)
  pub refused : (depth : ℕ) (rule : Rule) (at place : ℕ) → depth ≤ deepest → place + (length inside + length others) ≡ at + length text
      → FirstFaultAmong (depth + 1) inside rule at → FirstFaultIn depth text rule place

-- the value at the front of the text breaks the rule, and none with a lesser number, at whatever depth that is served
abbrev pub BreaksFirstWherever : List ℕ → Rule → Type 0
BreaksFirstWherever text rule = (depth : ℕ) → depth ≤ deepest → BreaksFirst rule depth text

-- the value at the front of the text breaks a rule on its header, or else that on its contents
abbrev pub IsBroken : List ℕ → Type 0
IsBroken text = IsSound text → BreaksFirstWherever text Content

-- What the values that fill a text, at this depth, say of a whole text of values at depth 2, at whose end so many octets wait behind them:
-- if they are encodings, the rest of the whole decides; their first fault is that of the whole.
pub record SpeaksForWhole (whole : List ℕ) (depth : ℕ) (text : List ℕ) (waiting : ℕ) (decides : Type 0) : Type 0 where
  pub within : length text + waiting ≤ length whole
  pub encoded : AreEncodings depth text → decides
  pub refused : (rule : Rule) (at place : ℕ) → place + (length text + waiting) ≡ at + length whole
      → FirstFaultAmong depth text rule at → FirstFaultAmong 2 whole rule place

-- the octets of the first n of the texts
abbrev pub octets_behind : List (Bor (List ℕ)) → ℕ → ℕ
octets_behind texts zero = 0
octets_behind texts (suc n) = length (get_or texts n (record { ref_ptr = (0, 0); now = [] })).now + octets_behind texts n
