-- The first broken rule, seen from the value round it or from the value before.
use Rattle.std.proofs.Common.{◌≡◌, ◌⊎◌, ℕ, ◌+◌, ◌<◌, ◌≤◌, List, length, get_or, take, drop, refl, sym, arith, true, false, inl, inr}
use Rattle.std.proofs.lemmas.List.{length-drop, length-take-le, take-append-drop}
use Rattle.der.specs.declared.fault.Fault.TheVariants.{Refused}
use Rattle.der.specs.declared.fault.Rule.{Rule}
use Rattle.der.specs.declared.fault.Rule.TheVariants.{TagForm, LengthForm, TooLong, Truncated, TooDeep, Content, Trailing}
use Rattle.der.specs.Value.{Value}
use Rattle.der.specs.Identifier.{is_constructed}
use Rattle.der.specs.Contents.{IsContents}
use Rattle.der.specs.Length.{header_len, contents_len, contents_of, end_of}
use Rattle.der.specs.Encoding.{deepest, EncodesAt}
use Rattle.der.specs.FirstFault.{Breaks, BreaksFirst, StartsIn, StartsAmong, itself, inside, first, later, FirstFaultIn, FirstFaultAmong, IsFirstFault}
use Rattle.der.specs.Fault.{rule_number}
use Rattle.der.specs.Header.{IsSound}
use Rattle.der.proofs.Clean.{clean_in}

pub length-contents_of : (text : List ℕ) → end_of text ≤ length text → length (contents_of text) ≡ contents_len text
length-contents_of text within = length-take-le (contents_len text) (drop (header_len text) text) (omega (arith, length-drop (header_len text) text))

-- where a value starts there is an octet
mutual
  pub below_in : {depth : ℕ} {text : List ℕ} {at : ℕ} {level : ℕ} {r : List ℕ} → StartsIn depth text at level r → (at ≡ 0) ⊎ ((end_of text ≤ length text) × (at < end_of text))
  below_in itself = inl refl
  below_in {depth} {text} (inside is_on whole within among) = inr (within, let b = below_among among in omega (arith, b, length-contents_of text within))

  pub below_among : {depth : ℕ} {text : List ℕ} {at : ℕ} {level : ℕ} {r : List ℕ} → StartsAmong depth text at level r → at < length text
  below_among (first some s) = elim (below_in s) [ inl e ↦ omega arith | inr (w, lt) ↦ omega arith ]
  below_among {depth} {text} (later whole within s) = let b = below_among s in omega (arith, b, length-drop (end_of text) text)

pub refused_itself : (depth : ℕ) (text : List ℕ) (rule : Rule) → BreaksFirst rule depth text → FirstFaultIn depth text rule 0
refused_itself depth text rule b = record { broken = (depth, text, itself, b); earliest = λ earlier level rest other lt s b. absurd (omega arith) }

-- a value that breaks no rule itself
pub record IsClean (depth : ℕ) (text : List ℕ) : Type 0 where
  pub sound : IsSound text
  pub deep : depth ≤ deepest

pub keeps_all : (depth : ℕ) (text : List ℕ) → IsClean depth text → (is_constructed (get_or text 0 0) ≡ false → IsContents (get_or text 0 0) (contents_of text)) → (other : Rule) → Breaks other depth text → ⊥
keeps_all depth text clean allowed TagForm b = clean.sound.keeps TagForm depth (omega arith) b
keeps_all depth text clean allowed LengthForm b = clean.sound.keeps LengthForm depth (omega arith) b
keeps_all depth text clean allowed TooLong b = clean.sound.keeps TooLong depth (omega arith) b
keeps_all depth text clean allowed Truncated b = clean.sound.keeps Truncated depth (omega arith) b
keeps_all depth text clean allowed TooDeep b = let d = clean.deep in omega arith
keeps_all depth text clean allowed Content (is_off, not_allowed) = not_allowed (allowed is_off)
keeps_all depth text clean allowed Trailing b = b

pub first_too_deep : (depth : ℕ) (text : List ℕ) → IsSound text → deepest < depth → BreaksFirst TooDeep depth text
first_too_deep depth text sound deep = (deep, λ other lt b. sound.keeps other depth lt b)

pub first_content : (depth : ℕ) (text : List ℕ) → IsClean depth text → is_constructed (get_or text 0 0) ≡ false → (IsContents (get_or text 0 0) (contents_of text) → ⊥) → BreaksFirst Content depth text
first_content depth text clean is_off not_allowed = ((is_off, not_allowed), earlier)
  where
    earlier : (other : Rule) → rule_number other < 6 → Breaks other depth text → ⊥
    earlier TagForm lt b = clean.sound.keeps TagForm depth (omega arith) b
    earlier LengthForm lt b = clean.sound.keeps LengthForm depth (omega arith) b
    earlier TooLong lt b = clean.sound.keeps TooLong depth (omega arith) b
    earlier Truncated lt b = clean.sound.keeps Truncated depth (omega arith) b
    earlier TooDeep lt b = let d = clean.deep in omega arith
    earlier Content lt b = omega arith
    earlier Trailing lt b = b

pub refused_inside : (depth : ℕ) (text : List ℕ) (rule : Rule) (at : ℕ) → IsClean depth text → is_constructed (get_or text 0 0) ≡ true → FirstFaultAmong (depth + 1) (contents_of text) rule at → FirstFaultIn depth text rule (header_len text + at)
refused_inside depth text rule at clean is_on refused =
    record {
      broken = (refused.broken.0, refused.broken.1, inside is_on clean.sound.whole clean.sound.within refused.broken.2, refused.broken.3);
      earliest = λ earlier level rest other lt s b. before earlier level rest s other lt b;
    }
  where
    before : (earlier level : ℕ) (rest : List ℕ) → StartsIn depth text earlier level rest → (other : Rule) → earlier < header_len text + at → Breaks other level rest → ⊥
    before earlier level rest itself other lt b = keeps_all depth text clean (λ is_off. absurd cc) other b
    before earlier level rest (inside {at = k} y w i among) other lt b = refused.earliest k level rest other (omega arith) among b

pub refused_first : (depth : ℕ) (text : List ℕ) (rule : Rule) (at : ℕ) → 0 < length text → FirstFaultIn depth text rule at → FirstFaultAmong depth text rule at
refused_first depth text rule at some refused =
    record {
      broken = (refused.broken.0, refused.broken.1, first some refused.broken.2, refused.broken.3);
      earliest = λ earlier level rest other lt s b. before earlier level rest s other lt b;
    }
  where
    before : (earlier level : ℕ) (rest : List ℕ) → StartsAmong depth text earlier level rest → (other : Rule) → earlier < at → Breaks other level rest → ⊥
    before earlier level rest (first _ s) other lt b = refused.earliest earlier level rest other lt s b
    before earlier level rest (later {at = k} w i s) other lt b = elim (below_in refused.broken.2) [ inl e ↦ omega arith | inr (_, low) ↦ omega arith ]

pub refused_later : (depth : ℕ) (text : List ℕ) (rule : Rule) (at : ℕ) (v : Value) → IsSound text → EncodesAt depth (take (end_of text) text) v → FirstFaultAmong depth (drop (end_of text) text) rule at → FirstFaultAmong depth text rule (end_of text + at)
refused_later depth text rule at v sound encoded refused =
    record {
      broken = (refused.broken.0, refused.broken.1, later sound.whole sound.within refused.broken.2, refused.broken.3);
      earliest = λ earlier level rest other lt s b. before earlier level rest s other lt b;
    }
  where
    before : (earlier level : ℕ) (rest : List ℕ) → StartsAmong depth text earlier level rest → (other : Rule) → earlier < end_of text + at → Breaks other level rest → ⊥
    before earlier level rest (first _ s) other lt b = clean_in s v (take (end_of text) text) (drop (end_of text) text) (sym (take-append-drop (end_of text) text)) encoded other b
    before earlier level rest (later {at = k} w i s) other lt b = refused.earliest k level rest other (omega arith) s b

-- the first fault of a text is at one of its octets, or at its end
pub first_within : (text : List ℕ) (rule : Rule) (at : ℕ) → IsFirstFault text (Refused rule at) → at ≤ length text
first_within text rule at (inl fault) = elim (below_in fault.broken.2) [ inl start ↦ omega (arith, start) | inr (whole, below) ↦ omega (arith, whole, below) ]
first_within text rule at (inr (is, trailing)) = omega (arith, trailing.more)
