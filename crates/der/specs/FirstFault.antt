-- What is wrong with octets that are the encoding of no value, and where.
use Rattle.std.specs.Prelude.{◌≡◌, ◌⊎◌, ℕ, ◌+◌, ◌<◌, ◌≤◌, List, length, slice_index, drop, true, false}
use Rattle.der.specs.Identifier.{is_refused, is_constructed}
use Rattle.der.specs.Contents.{IsContents}
use Rattle.der.specs.Length.{contents_limit, first_length, header_len, contents_len, contents_of, end_of, IsHeaderWhole, IsLengthTooLong}
use Rattle.der.specs.Encoding.{deepest}
use Rattle.der.specs.Fault.{rule_number}
use Rattle.der.specs.declared.fault.Rule.{Rule}
use Rattle.der.specs.declared.fault.Rule.TheVariants.{TagForm, LengthForm, TooLong, Truncated, TooDeep, Content, Trailing}
use Rattle.der.specs.declared.fault.Fault.{Fault}
use Rattle.der.specs.declared.fault.Fault.TheVariants.{Refused, Memory}

-- A value stands at this depth, and text goes from its first octet to the end of the value round it (of the input, for
-- the outermost): the value breaks the rule.
abbrev pub Breaks : Rule → ℕ → List ℕ → Type 0
-- 8.1.2: the identifier octet is there and is refused
Breaks TagForm depth text = (0 < length text) × (is_refused (slice_index text 0) ≡ true)
-- 8.1.3, 10.1: the indefinite form, the reserved octet, or more octets than the length needs
Breaks LengthForm depth text =
    (2 ≤ length text)
    × ((first_length text ≡ 128) ⊎ (first_length text ≡ 255) ⊎ (IsHeaderWhole text × IsLengthTooLong text))
Breaks TooLong depth text = IsHeaderWhole text × (contents_limit ≤ contents_len text)
-- the header is not whole, or the contents pass the end
Breaks Truncated depth text = (IsHeaderWhole text × (end_of text ≤ length text)) → ⊥
Breaks TooDeep depth text = deepest < depth
-- 8.2 to 8.8, 8.19, 11.1, 11.2
Breaks Content depth text =
    (is_constructed (slice_index text 0) ≡ false) × (IsContents (slice_index text 0) (contents_of text) → ⊥)
Breaks Trailing depth text = ⊥

-- it breaks this rule, and none with a lesser number
abbrev pub BreaksFirst : Rule → ℕ → List ℕ → Type 0
BreaksFirst rule depth text =
    Breaks rule depth text
    × ((other : Rule) → rule_number other < rule_number rule → Breaks other depth text → ⊥)

-- Where values start. A value of depth `depth` starts at octet 0 of `text`. Then a value starts at octet `at`, which has
-- depth `level`, and `rest` goes from its first octet to the end of the value round it.
mutual
  pub data StartsIn : ℕ → List ℕ → ℕ → ℕ → List ℕ → Type 0 where
    itself : {depth : ℕ} {text : List ℕ} → StartsIn depth text 0 depth text
    inside : {depth : ℕ} {text : List ℕ} {at : ℕ} {level : ℕ} {rest : List ℕ} →
        is_constructed (slice_index text 0) ≡ true → IsHeaderWhole text → end_of text ≤ length text →
        StartsAmong (depth + 1) (contents_of text) at level rest → StartsIn depth text (header_len text + at) level rest

  -- the same for a text of values of that depth, one after the other
  pub data StartsAmong : ℕ → List ℕ → ℕ → ℕ → List ℕ → Type 0 where
    first : {depth : ℕ} {text : List ℕ} {at : ℕ} {level : ℕ} {rest : List ℕ} →
        0 < length text → StartsIn depth text at level rest → StartsAmong depth text at level rest
    later : {depth : ℕ} {text : List ℕ} {at : ℕ} {level : ℕ} {rest : List ℕ} →
        IsHeaderWhole text → end_of text ≤ length text →
        StartsAmong depth (drop (end_of text) text) at level rest → StartsAmong depth text (end_of text + at) level rest

-- Of the values that start in a text, the first that breaks a rule starts at that octet, and this is the first rule that
-- it breaks: for the text of one value, and for a text of values one after the other.
pub record FirstFaultIn (depth : ℕ) (text : List ℕ) (rule : Rule) (at : ℕ) : Type 0 where
  pub broken : (level : ℕ) × (rest : List ℕ) × StartsIn depth text at level rest × BreaksFirst rule level rest
  pub earliest : (earlier level : ℕ) (rest : List ℕ) (other : Rule) → earlier < at → StartsIn depth text earlier level rest → Breaks other level rest → ⊥

pub record FirstFaultAmong (depth : ℕ) (text : List ℕ) (rule : Rule) (at : ℕ) : Type 0 where
  pub broken : (level : ℕ) × (rest : List ℕ) × StartsAmong depth text at level rest × BreaksFirst rule level rest
  pub earliest : (earlier level : ℕ) (rest : List ℕ) (other : Rule) → earlier < at → StartsAmong depth text earlier level rest → Breaks other level rest → ⊥

-- no value breaks a rule, and octets stand behind the outermost
pub record HasTrailing (text : List ℕ) (at : ℕ) : Type 0 where
  pub clean : (earlier level : ℕ) (rest : List ℕ) (other : Rule) → StartsIn 1 text earlier level rest → Breaks other level rest → ⊥
  pub place : at ≡ end_of text
  pub more : at < length text

-- the first rule that octets break, and the place of the value that breaks it
abbrev pub IsFirstFault : List ℕ → Fault → Type 0
IsFirstFault text (Refused rule at) = FirstFaultIn 1 text rule at ⊎ ((rule ≡ Trailing) × HasTrailing text at)
IsFirstFault text Memory = ⊥

-- the place is an octet of the text, or its end
abbrev pub IsPlacedWithin : List ℕ → Fault → Type 0
IsPlacedWithin text (Refused rule at) = at ≤ length text
IsPlacedWithin text Memory = ⊥
