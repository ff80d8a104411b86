-- What a buffer holds behind what it held, as it is read on.
use Rattle.std.proofs.Common.{◌≡◌, ◌==◌, ℕ, ◌+◌, ◌-◌, ◌<◌, ◌≤◌, Bool, true, false, arith, inl, inr, eq-eqb, List, [], ◌∷◌, ◌++◌, Option, Vec, length, take, drop, refl, sym, ap, ◌∙◌, subst, append-nil, append_assoc}
use Rattle.std.proofs.lemmas.Bool.{cases_lt, eqb-true}
use Rattle.std.proofs.lemmas.List.{length-append, length-take, length-drop, take_rest, take-append-le, drop_all}
use Rattle.std.proofs.Math.Seq.{take-add, take-length, take-append_seam, drop-append_seam}
use Rattle.std.proofs.KnownBytes.{starts_with_rest, Consumes-nil, Consumes-trans}
use Rattle.std.specs.Io.{StartsWith}
use Rattle.std.specs.Io.KnownBytes.{Consumes, IsAtEnd}
use lib.Seq.{drop-append-le}
use Rattle.der.specs.declared.header.Header.{Header}
use Rattle.der.specs.Header.{GoesOn, HasHeader, IsBrokenAhead}
use Rattle.der.specs.declared.fault.Rule.{Rule}
use Rattle.der.specs.FirstFault.{Breaks}
use Rattle.der.specs.Length.{end_of}
use Rattle.der.proofs.Laws.{end_of-ahead}
use Rattle.der_stream.specs.Front.{ReadsBehind, IsFilled, HasNoValue, IsWholeOrNone}
use Rattle.der_stream.specs.Stream.{HasFaultlessHeader, IsHeaderRead}
use Rattle.der_stream.proofs.Streams.{short, header_read, faultless-ahead}

-- it holds this behind it, and that was read
pub reads_behind : {A : Type 0} (a b : Option (List ℕ)) (before after : Vec ℕ A) (read : List ℕ) → after.items ≡ before.items ++ read → Consumes a b read → ReadsBehind a b before after
reads_behind a b before after read is took =
    record {
      front = ap (take (length before.items)) is ∙ take-append_seam before.items read;
      read = subst (Consumes a b) (sym (ap (drop (length before.items)) is ∙ drop-append_seam before.items read)) took;
    }

-- nothing was read yet
pub reads_nothing : {A : Type 0} (a : Option (List ℕ)) (held : Vec ℕ A) → ReadsBehind a a held held
reads_nothing a held = reads_behind a a held held [] (sym (append-nil held.items)) (Consumes-nil a)

-- some octets were read, and then others
pub reads_on : {A : Type 0} (a b c : Option (List ℕ)) (before held after : Vec ℕ A) → ReadsBehind a b before held → ReadsBehind b c held after → ReadsBehind a c before after
reads_on a b c before held after first other =
    let one = drop (length before.items) held.items in
    let two = drop (length held.items) after.items in
    let whole = starts_with_rest after.items held.items other.front ∙ ap (λ (l : List ℕ). l ++ two) (starts_with_rest held.items before.items first.front) ∙ append_assoc before.items one two in
    reads_behind a c before after (one ++ two) whole (Consumes-trans a b c one two first.read other.read)

-- octets were read behind those that the buffer held, and the room behind them was cut off
pub reads_once : {A : Type 0} (a b : Option (List ℕ)) (before after : Vec ℕ A) (filled : List ℕ) (count : ℕ)
    → take (length before.items) filled ≡ take (length before.items) before.items
    → Consumes a b (take count (drop (length before.items) filled)) → after.items ≡ take (length before.items + count) filled → ReadsBehind a b before after
reads_once a b before after filled count same took cut =
    let n = length before.items in
    let read = take count (drop n filled) in
    reads_behind a b before after read (cut ∙ take-add n count filled ∙ ap (λ (l : List ℕ). l ++ read) (same ∙ take-length before.items)) took

-- all that the buffer holds was read, and then more
pub reads_more : {A : Type 0} (a b c : Option (List ℕ)) (before after : Vec ℕ A) → Consumes a b before.items → ReadsBehind b c before after → Consumes a c after.items
reads_more a b c before after first other =
    subst (Consumes a c) (sym (starts_with_rest after.items before.items other.front)) (Consumes-trans a b c before.items _ first other.read)

-- and it holds no fewer octets
pub longer : {A : Type 0} (a b : Option (List ℕ)) (before after : Vec ℕ A) → {n : ℕ} → ReadsBehind a b before after → n ≤ length before.items → n ≤ length after.items
longer a b before after {n} behind least =
    let long = ap length behind.front in
    omega (arith, least, long, length-take (length before.items) after.items)

-- what stands behind some place stood there, and then what was read
behind : (begin : ℕ) (held after : List ℕ) → StartsWith after held → begin ≤ length held
    → drop begin after ≡ drop begin held ++ drop (length held) after
behind begin held after front le =
    ap (drop begin) (starts_with_rest after held front) ∙ drop-append-le begin held (drop (length held) after) le

single : (xs : List ℕ) → length xs ≡ 1 → (x : ℕ) × (xs ≡ x ∷ [])
single [] e = absurd (omega arith)
single (x ∷ []) e = (x, refl)
single (x ∷ y ∷ ys) e = absurd (omega arith)

-- the octets of a slice that goes from some place to the end
pub sliced : (begin : ℕ) (octets slice : List ℕ) → slice ≡ octets → take (length slice - begin) (drop begin slice) ≡ drop begin octets
sliced begin octets slice is = ap (λ (l : List ℕ). take (length l - begin) (drop begin l)) is ∙ take_rest octets begin

-- a rule that some octets of a header break is broken by all
broken_front : (octets front behind : List ℕ) (rule : Rule) → octets ≡ front ++ behind → IsBrokenAhead front rule → Breaks rule 1 octets
broken_front octets front behind rule joined broken = subst (λ (t : List ℕ). Breaks rule 1 t) (sym joined) (broken.1 behind).0

-- There is no whole value where a header goes on at the end of the source,
goes_on : (octets : List ℕ) (left : Option (List ℕ)) → GoesOn octets → IsAtEnd left → HasNoValue octets left
goes_on octets left on end =
    record {
      reason = inl end;
      cut = λ faultless. absurd (let more = on.short in omega (arith, more, faultless.0.1));
      needed = λ front behind rule joined some broken.
          (short octets on).1 rule broken.0 (broken_front octets front behind rule joined broken);
    }

-- nor where a header is refused that went on before its last octet,
refused_last : (held after : List ℕ) (last : ℕ) (left : Option (List ℕ)) (rule : Rule) → after ≡ held ++ last ∷ []
    → GoesOn held → IsBrokenAhead after rule → HasNoValue after left
refused_last held after last left rule joined on broken =
    record {
      reason = inr (rule, broken);
      cut = λ faultless. absurd (faultless.1 rule broken.0 (broken_front after after [] rule (sym (append-nil after)) broken));
      needed = λ front behind other split some early.
          (short held on).1 other early.0 (broken_front held front _ other (shorter front behind split some) early);
    }
  where
    shorter : (front behind : List ℕ) → after ≡ front ++ behind → 0 < length behind → held ≡ front ++ drop (length front) held
    shorter front behind split some =
        let one_less : length front ≤ length held
        = omega (arith, some, ap length joined, ap length split, length-append front behind, length-append held (last ∷ [])) in
        let same : take (length front) held ≡ take (length front) after
        = sym (ap (take (length front)) joined ∙ take-append-le (length front) held (last ∷ []) one_less) in
        starts_with_rest held front (same ∙ ap (take (length front)) split ∙ take-append_seam front behind)

-- nor where a header breaks no rule, but its contents are not all there
contents_cut : (octets : List ℕ) (left : Option (List ℕ)) → HasFaultlessHeader octets → length octets < end_of octets → IsAtEnd left
    → HasNoValue octets left
contents_cut octets left faultless shorter end =
    record {
      reason = inl end;
      cut = λ _. shorter;
      needed = λ front behind rule joined some broken.
          faultless.1 rule broken.0 (broken_front octets front behind rule joined broken);
    }

-- A header goes on behind what the buffer held first, and then the source was read once.
module _ {A : Type 0} (a b : Option (List ℕ)) (before held after : Vec ℕ A) (begin : ℕ) (begin_is : begin ≡ length before.items)
    (first : ReadsBehind a b before held) (front : StartsWith after.items held.items) (on : GoesOn (drop begin held.items)) where
  within : begin ≤ length held.items
  within = longer a b before held first (omega (arith, begin_is))

  one_octet : length after.items ≡ length held.items + 1 → (last : ℕ) × (drop begin after.items ≡ drop begin held.items ++ last ∷ [])
  one_octet more =
      let one = single (drop (length held.items) after.items) (omega (arith, more, length-drop (length held.items) after.items)) in
      (one.0, behind begin held.items after.items front within ∙ ap (λ (l : List ℕ). drop begin held.items ++ l) one.1)

  -- with one octet more it is whole
  pub next_header : length after.items ≡ length held.items + 1 → (header : Header) → HasHeader (drop begin after.items) header
      → IsHeaderRead (drop (length before.items) after.items) (length (drop (length before.items) after.items) + header.contents)
  next_header more header has =
      let octets = drop begin after.items in
      let one = one_octet more in
      let read = header_read (drop begin held.items) one.0 octets one.1 on header has in
      let whole : IsHeaderRead octets (length octets + header.contents)
      = record {
        faultless = read.faultless;
        whole = read.whole;
        len_is = omega (arith, read.whole, read.len_is, has.lengths.len_is);
      } in
      subst (λ (n : ℕ). IsHeaderRead (drop n after.items) (length (drop n after.items) + header.contents)) begin_is whole

  -- or it is refused
  pub next_refused : (left : Option (List ℕ)) (rule : Rule) → length after.items ≡ length held.items + 1
      → IsBrokenAhead (drop begin after.items) rule → HasNoValue (drop (length before.items) after.items) left
  next_refused left rule more broken =
      let one = one_octet more in
      subst (λ (n : ℕ). HasNoValue (drop n after.items) left) begin_is
      (refused_last (drop begin held.items) (drop begin after.items) one.0 left rule one.1 on broken)

  -- or none came
  pub none_came : (left : Option (List ℕ)) → length after.items ≡ length held.items → IsAtEnd left
      → HasNoValue (drop (length before.items) after.items) left
  none_came left same end =
      let none = drop_all (length held.items) after.items (omega (arith, same)) in
      let all : after.items ≡ held.items
      = starts_with_rest after.items held.items front ∙ ap (λ (l : List ℕ). held.items ++ l) none ∙ append-nil held.items in
      let on_still = subst (λ (l : List ℕ). GoesOn (drop begin l)) (sym all) on in
      subst (λ (n : ℕ). HasNoValue (drop n after.items) left) begin_is (goes_on (drop begin after.items) left on_still end)

whole_or_not : (octets : List ℕ) (left : Option (List ℕ)) (b : Bool)
    → (b ≡ true → IsWholeOrNone octets left true) → (b ≡ false → HasNoValue octets left) → IsWholeOrNone octets left b
whole_or_not octets left true p q = p refl
whole_or_not octets left false p q = q refl

-- Behind a header, as many octets were read as it says, or all that there were.
module _ (begin contents len : ℕ) (held after : List ℕ) (left : Option (List ℕ)) (front : StartsWith after held) (le : begin ≤ length held)
    (header : IsHeaderRead (drop begin held) (length (drop begin held) + contents)) (len_is : len ≡ length held + contents) where
  there : drop begin after ≡ drop begin held ++ drop (length held) after
  there = behind begin held after front le

  faultless : HasFaultlessHeader (drop begin after)
  faultless = subst HasFaultlessHeader (sym there) (faultless-ahead (drop begin held) _ header.faultless)

  -- the value ends at that length
  end_is : begin + end_of (drop begin after) ≡ len
  end_is =
      let end = ap end_of there ∙ end_of-ahead (drop begin held) _ header.faultless.0 in
      omega (arith, le, len_is, end, header.len_is, length-drop begin held)

  long : length held ≤ length after
  long = omega (arith, ap length front, length-take (length held) after)

  pub whole_value : (full : ℕ) → full ≡ length after → length after ≤ len → IsFilled len after left
      → IsWholeOrNone (drop begin after) left (full == len)
  whole_value full full_is within filled =
      whole_or_not (drop begin after) left (full == len)
      (λ yes. let same = eqb-true full len yes in (faultless, omega (arith, same, full_is, end_is, le, long, length-drop begin after)))
      (λ no. elim (cases_lt (length after) len) [
        | inl shorter ↦ contents_cut (drop begin after) left faultless
            (omega (arith, shorter, end_is, le, long, length-drop begin after))
            (elim filled [ inl all ↦ absurd (omega (arith, all, shorter)) | inr is ↦ is ])
        | inr all ↦ (let yes = eq-eqb full len (omega (arith, all, within, full_is)) in absurd cc)
      ])
