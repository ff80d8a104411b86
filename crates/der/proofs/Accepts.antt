-- What is accepted is encoded.
use Rattle.std.proofs.Common.{◌≡◌, ℕ, ◌+◌, ◌<◌, List, get_or, take, drop, refl, sym, arith, true, false}
use Rattle.std.proofs.lemmas.List.{take-append-drop}
use Rattle.der.specs.Value.{primitive, constructed, Values, more}
use Rattle.der.specs.declared.fault.Rule.TheVariants.{TagForm}
use Rattle.der.specs.Identifier.{is_refused, is_constructed}
use Rattle.der.specs.Contents.{IsContents}
use Rattle.der.specs.Length.{contents_of, end_of}
use Rattle.der.specs.Encoding.{EncodesAllAt}
use Rattle.der.specs.Header.{IsSound, BeginsWithValue}
use Rattle.der.proofs.Sound.{contents_fits, encoded}
use Rattle.der.proofs.Faults.{IsClean}

accepted_identifier : (text : List ℕ) → IsSound text → is_refused (get_or text 0 0) ≡ false
accepted_identifier text sound = by_cases (is_refused (get_or text 0 0)) refl
  where
    by_cases : (b : _) → is_refused (get_or text 0 0) ≡ b → is_refused (get_or text 0 0) ≡ false
    by_cases true e = absurd (let w = sound.whole.0 in sound.keeps TagForm 1 (omega arith) (omega arith, e))
    by_cases false e = e

pub accepts_primitive : (depth : ℕ) (text : List ℕ) → ((k : ℕ) → get_or text k 0 < 256) → IsClean depth text → is_constructed (get_or text 0 0) ≡ false → IsContents (get_or text 0 0) (contents_of text) → BeginsWithValue depth text (end_of text)
accepts_primitive depth text fits clean form allowed =
    let size = contents_fits text clean.sound in
    record {
      len_is = refl;
      sound = clean.sound;
      encoded = (primitive (get_or text 0 0) (contents_of text), (clean.deep, accepted_identifier text clean.sound, form, allowed, omega (arith, size.0, size.1), encoded text fits clean.sound));
    }

pub accepts_constructed : (depth : ℕ) (text : List ℕ) → ((k : ℕ) → get_or text k 0 < 256) → IsClean depth text → is_constructed (get_or text 0 0) ≡ true → (vs : Values) → EncodesAllAt (depth + 1) (contents_of text) vs → BeginsWithValue depth text (end_of text)
accepts_constructed depth text fits clean form vs are =
    let size = contents_fits text clean.sound in
    record {
      len_is = refl;
      sound = clean.sound;
      encoded = (constructed (get_or text 0 0) vs, (clean.deep, accepted_identifier text clean.sound, form, (contents_of text, are, omega (arith, size.0, size.1), encoded text fits clean.sound)));
    }

pub accepts_more : (depth : ℕ) (text : List ℕ) (len : ℕ) → BeginsWithValue depth text len → (vs : Values) → EncodesAllAt depth (drop len text) vs → (all : Values) × EncodesAllAt depth text all
accepts_more depth text len b vs are = (more b.encoded.0 vs, (take len text, drop len text, sym (take-append-drop len text), b.encoded.1, are))
