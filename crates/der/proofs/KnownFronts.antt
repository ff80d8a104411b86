-- A value at the front of a text whose header breaks no rule, nor its contents if it is primitive.
use Rattle.std.proofs.Common.{◌≡◌, ℕ, ◌+◌, ◌<◌, ◌≤◌, Bool, true, false, List, [], ◌++◌, length, get_or, take, drop, refl, sym, ◌∙◌, ap, arith, subst, suc, ◌∷◌, ◌==◌}
use Rattle.std.proofs.lemmas.List.{take-append-drop, drop-drop, length-drop}
use Rattle.std.proofs.lemmas.Bool.{eqb-true}
use Rattle.der.specs.Value.{none, more}
use Rattle.der.specs.declared.fault.Rule.{Rule}
use Rattle.der.specs.Identifier.{is_constructed}
use Rattle.der.specs.Contents.{IsContents}
use Rattle.der.specs.Encoding.{deepest}
use Rattle.der.specs.Length.{header_len, contents_of, end_of}
use Rattle.der.specs.FirstFault.{BreaksFirst, FirstFaultIn, FirstFaultAmong}
use Rattle.der.specs.Header.{IsHeaderOf, IsSound, BreaksHeaderRule, BeginsWithValue}
use Rattle.der.specs.Front.{AreEncodings, IsFront, BeginsWith, inside_of, SpeaksForWhole}
use Rattle.der.specs.declared.header.Header.{Header}
use Rattle.der.proofs.Faults.{below_among, refused_itself, refused_inside, refused_first, refused_later}
use Rattle.der.proofs.Headers.{two_octets}
use Rattle.der.proofs.Accepts.{accepts_primitive, accepts_constructed}

-- The header at the front of the text breaks no rule, and these are its identifier, the contents, and what stands behind them.
pub record HasParts (text : List ℕ) (identifier : ℕ) (contents others : List ℕ) : Type 0 where
  pub sound : IsSound text
  pub identifier_is : identifier ≡ get_or text 0 0
  pub contents_are : contents ≡ contents_of text
  pub others_are : others ≡ drop (end_of text) text
  pub lengths : header_len text + (length contents + length others) ≡ length text

-- those that two splits give
pub parts_are : (text from_contents contents others : List ℕ) (header : Header) → IsHeaderOf text header → from_contents ≡ drop header.len text
    → contents ≡ take header.contents from_contents → others ≡ drop header.contents from_contents
    → length contents + length others + header.len ≡ length text → HasParts text header.identifier contents others
parts_are text from_contents contents others header h f c o lengths = record {
  sound = h.sound;
  identifier_is = h.identifier;
  contents_are = sym (rw (c, f, h.len, h.contents) refl);
  others_are = sym (rw (o, f, h.len, h.contents) (sym (drop-drop _ _ text)));
  lengths = omega (arith, lengths, h.len);
}

-- a header that breaks a rule is not sound
pub not_sound : (text : List ℕ) (rule : Rule) → BreaksHeaderRule text rule → IsSound text → ⊥
not_sound text rule broken sound = sound.keeps rule 1 (broken 1).0 (broken 1).1.0

-- no fault is among no values
none_refused : (depth : ℕ) (rule : Rule) (at : ℕ) → FirstFaultAmong depth [] rule at → ⊥
none_refused depth rule at fault = let below = below_among fault.broken.2 in omega arith

-- a primitive value, and a constructed one
pub primitive_front : (text : List ℕ) (identifier : ℕ) (contents others : List ℕ) → ((k : ℕ) → get_or text k 0 < 256) → HasParts text identifier contents others
    → is_constructed identifier ≡ false → IsContents identifier contents → BeginsWith text [] others
primitive_front text identifier contents others octets p is_off allowed = record {
  others_are = p.others_are;
  shorter = omega (arith, p.lengths, two_octets text);
  encoded = λ depth deep are. accepts_primitive depth text octets (record { sound = p.sound; deep = deep }) (rw (← p.identifier_is) is_off) (rw (← p.identifier_is, ← p.contents_are) allowed);
  refused = λ depth rule at place deep e fault. absurd (none_refused (depth + 1) rule at fault);
}

pub constructed_front : (text : List ℕ) (identifier : ℕ) (contents others : List ℕ) → ((k : ℕ) → get_or text k 0 < 256) → HasParts text identifier contents others
    → is_constructed identifier ≡ true → BeginsWith text contents others
constructed_front text identifier contents others octets p is_on = record {
  others_are = p.others_are;
  shorter = omega (arith, p.lengths, two_octets text);
  encoded = λ depth deep are. accepts_constructed depth text octets (record { sound = p.sound; deep = deep }) form are.0 (rw (← p.contents_are) are.1);
  refused = λ depth rule at place deep e fault.
      subst (λ (n : ℕ). FirstFaultIn depth text rule n) (omega (arith, e, p.lengths))
      (refused_inside depth text rule at (record { sound = p.sound; deep = deep }) form (subst (λ (x : List ℕ). FirstFaultAmong (depth + 1) x rule at) p.contents_are fault));
}
  where
    form : is_constructed (get_or text 0 0) ≡ true
    form = rw (← p.identifier_is) is_on

-- the values inside a constructed value fill its contents
pub opened_front : (text : List ℕ) (constructed : Bool) (contents others : List ℕ) → constructed ≡ true → BeginsWith text (inside_of constructed contents) others → BeginsWith text contents others
opened_front text constructed contents others is_on begins = subst (λ (b : Bool). BeginsWith text (inside_of b contents) others) is_on begins

-- a value with nothing inside is encoded
pub primitive_value : (depth : ℕ) (text : List ℕ) (constructed : Bool) (contents others : List ℕ) → depth ≤ deepest → constructed ≡ false → BeginsWith text (inside_of constructed contents) others → BeginsWithValue depth text (end_of text)
primitive_value depth text constructed contents others deep is_off begins =
    (subst (λ (b : Bool). BeginsWith text (inside_of b contents) others) is_off begins).encoded depth deep (none, refl)

pub empty_value : (depth : ℕ) (text : List ℕ) (constructed : Bool) (contents others : List ℕ) → depth ≤ deepest → constructed ≡ true → contents ≡ [] → BeginsWith text (inside_of constructed contents) others → BeginsWithValue depth text (end_of text)
empty_value depth text constructed contents others deep is_on none_is begins =
    (opened_front text constructed contents others is_on begins).encoded depth deep (none, none_is)

-- what is accepted is a front, and the others are what follows it
pub accepted : (depth : ℕ) (text others : List ℕ) → others ≡ drop (end_of text) text → BeginsWithValue depth text (end_of text) → IsFront depth text others
accepted depth text others behind b = record {
  front = take (end_of text) text;
  value = b.encoded.0;
  joined = sym (take-append-drop (end_of text) text) ∙ ap (λ (rest : List ℕ). take (end_of text) text ++ rest) (sym behind);
  encodes = b.encoded.1;
}

pub more_encodings : (depth : ℕ) (text others : List ℕ) → IsFront depth text others → AreEncodings depth others → AreEncodings depth text
more_encodings depth text others first are = (more first.value are.0, (first.front, others, first.joined, first.encodes, are.1))

-- the whole text says so of itself
pub whole_leads : (whole : List ℕ) → SpeaksForWhole whole 2 whole 0 (AreEncodings 2 whole)
whole_leads whole = record {
  within = omega arith;
  encoded = λ are. are;
  refused = λ rule at place e fault. subst (λ (n : ℕ). FirstFaultAmong 2 whole rule n) (omega (arith, e)) fault;
}

-- the first of the values breaks a rule
pub breaks : (whole : List ℕ) (depth : ℕ) (text : List ℕ) (waiting : ℕ) (decides : Type 0) (rule : Rule) (place : ℕ) → SpeaksForWhole whole depth text waiting decides → 0 < length text
    → place + (length text + waiting) ≡ length whole → BreaksFirst rule depth text → FirstFaultAmong 2 whole rule place
breaks whole depth text waiting decides rule place leads some e broken =
    leads.refused rule 0 place (omega (arith, e)) (refused_first depth text rule 0 some (refused_itself depth text rule broken))

-- a value is passed over
pub passed : (whole : List ℕ) (depth : ℕ) (text others : List ℕ) (waiting : ℕ) (decides : Type 0) → others ≡ drop (end_of text) text → BeginsWithValue depth text (end_of text)
    → SpeaksForWhole whole depth text waiting decides → SpeaksForWhole whole depth others waiting decides
passed whole depth text others waiting decides behind b leads =
    let size : length others + end_of text ≡ length text = omega (arith, ap length behind, length-drop (end_of text) text, b.sound.within) in
    record {
      within = omega (arith, size, leads.within);
      encoded = λ are. leads.encoded (more_encodings depth text others (accepted depth text others behind b) are);
      refused = λ rule at place e fault.
          leads.refused rule (end_of text + at) place (omega (arith, size, e))
          (refused_later depth text rule at b.encoded.0 b.sound b.encoded.1 (subst (λ (rest : List ℕ). FirstFaultAmong depth rest rule at) behind fault));
    }

pub empty : (xs : List ℕ) (b : Bool) → b ≡ (length xs == 0) → b ≡ true → xs ≡ []
empty [] b e f = refl
empty (x ∷ xs) b e f = absurd (omega (arith, eqb-true (suc (length xs)) 0 (sym e ∙ f)))

pub nonempty : (xs : List ℕ) (b : Bool) → b ≡ (length xs == 0) → b ≡ false → 0 < length xs
nonempty [] b e f = absurd cc
nonempty (x ∷ xs) b e f = omega arith
