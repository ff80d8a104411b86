-- What is known of a source's octets by those that were read.
use Rattle.std.proofs.Common.{◌≡◌, ◌==◌, ◌||◌, ℕ, ◌+◌, ◌<◌, ◌≤◌, Bool, true, false, List, [], ◌∷◌, ◌++◌, length, get_or, take, drop, refl, sym, ap, ◌∙◌, arith, inl, inr, subst, Option, Some, None, if◌then◌else◌, append-nil, drop_at, length-drop, eq-eqb}
use Rattle.std.proofs.lemmas.Bool.{cases_lt, eqb-true}
use Rattle.std.proofs.lemmas.List.{length-append, length-take, get_or_append_left, take-append-le}
use Rattle.std.proofs.Math.Seq.{take-add}
use lib.Seq.{drop-append-le}
use Rattle.std.proofs.KnownBytes.{starts_with_rest, Consumes-trans}
use Rattle.std.specs.Io.{StartsWith}
use Rattle.std.specs.Io.KnownBytes.{Consumes, IsAtEnd}
use Rattle.der.specs.declared.fault.Rule.{Rule}
use Rattle.der.specs.declared.fault.Rule.TheVariants.{TagForm, LengthForm, TooLong, Truncated, TooDeep, Content, Trailing}
use Rattle.der.specs.declared.fault.Fault.TheVariants.{Refused, Memory}
use Rattle.der.specs.declared.header.Header.{Header}
use Rattle.der.specs.Value.{Value}
use Rattle.der.specs.Identifier.{is_refused}
use Rattle.der.specs.Length.{header_len, end_of, IsHeaderWhole}
use Rattle.der.specs.Encoding.{Encodes}
use Rattle.der.specs.Fault.{rule_number}
use Rattle.der.specs.FirstFault.{Breaks, BreaksFirst, itself, FirstFaultIn, IsFirstFault}
use Rattle.der.specs.Header.{GoesOn, HasHeader, IsBrokenAhead}
use Rattle.der.proofs.Laws.{two_octets, header_len-ahead, whole-ahead, end_of-ahead, header-back, fault-ahead, refused_itself, one_start, parts_of, front_of, clean_in, one_value, one_fault}
use Rattle.der_stream.specs.declared.reading.ReadFault.TheVariants.{Fault, Limit}
use Rattle.der_stream.specs.Stream.{StreamAnswer, value, ended, past_limit, refused, HasFaultlessHeader, octets_to_see, octets_read, ReadsNext, TakesFrom, TakesFault, TakesValue, IsHeaderRead, OneAnswer}

-- what holds of all octets that were read, and those left, holds of a source that tells them
from : (limit : ℕ) (a b : Option (List ℕ)) (octets : List ℕ) (answer : StreamAnswer) → Consumes a b octets
    → ((left : List ℕ) → ReadsNext limit (octets ++ left) left answer) → TakesFrom limit a b answer
from limit None b octets answer read h = tt
from limit (Some x) None octets answer read h = absurd read
from limit (Some x) (Some y) octets answer read h = subst (λ (t : List ℕ). ReadsNext limit t y answer) (sym read) (h y)

-- the same where nothing is left
from_end : (limit : ℕ) (a b : Option (List ℕ)) (octets : List ℕ) (answer : StreamAnswer) → Consumes a b octets → IsAtEnd b
    → ReadsNext limit octets [] answer → TakesFrom limit a b answer
from_end limit None b octets answer read end h = tt
from_end limit (Some x) None octets answer read end h = absurd read
from_end limit (Some x) (Some y) octets answer read end h =
    let all : x ≡ octets = read ∙ ap (λ (t : List ℕ). octets ++ t) end ∙ append-nil octets in
    subst (λ (t : List ℕ). ReadsNext limit t y answer) (sym all) (subst (λ (t : List ℕ). ReadsNext limit octets t answer) (sym end) h)

pub none_left : (limit : ℕ) (a b : Option (List ℕ)) → Consumes a b [] → IsAtEnd b → TakesValue limit a b None
none_left limit a b read end = from_end limit a b [] ended read end (refl, refl)

-- no rule is broken so far by octets behind which a header goes on, but that they are cut short
pub short : (octets : List ℕ) → GoesOn octets → BreaksFirst Truncated 1 octets
short octets more = (λ (w, within). let s = more.short in omega (arith, w.1), earlier)
  where
    earlier : (other : Rule) → rule_number other < 4 → Breaks other 1 octets → ⊥
    earlier TagForm low (some, r) = let a = more.accepted some in cc
    earlier LengthForm low (two, inl e) = more.definite e
    earlier LengthForm low (two, inr (inl e)) = more.unreserved e
    earlier LengthForm low (two, inr (inr (w, _))) = let s = more.short in omega (arith, w.1)
    earlier TooLong low (w, _) = let s = more.short in omega (arith, w.1)
    earlier Truncated low b = omega arith
    earlier TooDeep low b = omega arith
    earlier Content low b = omega arith
    earlier Trailing low b = omega arith

all_behind : (octets : List ℕ) → [] ≡ drop (length octets) octets
all_behind octets = sym (ap (drop (length octets)) (sym (append-nil octets)) ∙ drop_at octets [] (length octets) refl)

pub cut_header : (limit : ℕ) (a b : Option (List ℕ)) (octets : List ℕ) → GoesOn octets → 0 < length octets → Consumes a b octets → IsAtEnd b → TakesFault limit a b (Fault (Refused Truncated 0))
cut_header limit a b octets more some read end =
    from_end limit a b octets (refused Truncated 0) read end
    (some, refused_itself 1 octets Truncated (short octets more), λ faultless. absurd (let s = more.short in omega (arith, faultless.0.1)), all_behind octets)

-- Octets behind which a header went on, and one more.
module _ (front : List ℕ) (last : ℕ) (octets : List ℕ) (joined : octets ≡ front ++ last ∷ []) (more : GoesOn front) where
  one_more : length octets ≡ length front + 1
  one_more = ap length joined ∙ length-append front (last ∷ [])

  same : (k : ℕ) → k < length front → get_or octets k 0 ≡ get_or front k 0
  same k lt = ap (λ (t : List ℕ). get_or t k 0) joined ∙ get_or_append_left front (last ∷ []) 0 k lt

  -- a header that is whole now has no octet behind it
  pub tight : IsHeaderWhole octets → length octets ≡ header_len octets
  tight w = elim (cases_lt (length front) 2) [
    | inl lt ↦ omega (arith, one_more, two_octets octets, w.0, w.1)
    | inr ge ↦ (let e : header_len octets ≡ header_len front = ap header_len joined ∙ header_len-ahead front (last ∷ []) ge in
        let s = more.short in omega (arith, one_more, w.1, e))
  ]

  -- a first length octet that is refused is the last of them
  two : (n : ℕ) → (get_or front 1 0 ≡ n → ⊥) → 2 ≤ length octets → get_or octets 1 0 ≡ n → length octets ≡ 2
  two n never long is = elim (cases_lt 1 (length front)) [
    | inl lt ↦ absurd (never (sym (same 1 lt) ∙ is))
    | inr ge ↦ omega (arith, one_more)
  ]

  see_form : (b c : Bool) (n h : ℕ) → (b ≡ true → n ≡ 2) → (c ≡ true → n ≡ 2) → (b ≡ false → c ≡ false → n ≡ h) → (if b || c then 2 else h) ≡ n
  see_form true c n h p q r = sym (p refl)
  see_form false true n h p q r = sym (q refl)
  see_form false false n h p q r = sym (r refl refl)

  form_whole : (left : List ℕ) → (get_or (octets ++ left) 1 0 == 128) ≡ false → (get_or (octets ++ left) 1 0 == 255) ≡ false → get_or (octets ++ left) 1 0 ≡ get_or octets 1 0
      → Breaks LengthForm 1 octets → IsHeaderWhole octets
  form_whole left not_128 not_255 e (long, inl is) = let yes = eq-eqb (get_or (octets ++ left) 1 0) 128 (e ∙ is) in absurd cc
  form_whole left not_128 not_255 e (long, inr (inl is)) = let yes = eq-eqb (get_or (octets ++ left) 1 0) 255 (e ∙ is) in absurd cc
  form_whole left not_128 not_255 e (long, inr (inr (w, _))) = w

  seen : (rule : Rule) (left : List ℕ) → rule_number rule < 4 → Breaks rule 1 octets → octets_to_see rule (octets ++ left) ≡ length octets
  seen TagForm left low (some, r) = elim (cases_lt 0 (length front)) [
    | inl lt ↦ absurd (let a = more.accepted lt in let b : is_refused (get_or front 0 0) ≡ true = rw (← same 0 lt) r in cc)
    | inr ge ↦ omega (arith, one_more)
  ]
  seen LengthForm left low b =
      let long = b.0 in
      let e : get_or (octets ++ left) 1 0 ≡ get_or octets 1 0 = get_or_append_left octets left 0 1 long in
      see_form (get_or (octets ++ left) 1 0 == 128) (get_or (octets ++ left) 1 0 == 255) (length octets) (header_len (octets ++ left))
      (λ t. two 128 more.definite long (sym e ∙ eqb-true _ 128 t))
      (λ t. two 255 more.unreserved long (sym e ∙ eqb-true _ 255 t))
      (λ n m. tight (form_whole left n m e b) ∙ sym (header_len-ahead octets left long))
  seen TooLong left low (w, _) = header_len-ahead octets left w.0 ∙ sym (tight w)
  seen Truncated left low b = absurd (omega arith)
  seen TooDeep left low b = absurd (omega arith)
  seen Content left low b = absurd (omega arith)
  seen Trailing left low b = absurd (omega arith)

  pub refused_header : (limit : ℕ) (a b : Option (List ℕ)) (rule : Rule) → IsBrokenAhead octets rule → Consumes a b octets → TakesFault limit a b (Fault (Refused rule 0))
  refused_header limit a b rule broken read =
      let here : Breaks rule 1 octets = subst (λ (t : List ℕ). Breaks rule 1 t) (append-nil octets) (broken.1 []).0 in
      from limit a b octets (refused rule 0) read (λ left. (
        omega (arith, one_more, length-append octets left),
        refused_itself 1 (octets ++ left) rule (broken.1 left),
        λ faultless. absurd (faultless.1 rule broken.0 (broken.1 left).0),
        sym (drop_at octets left (octets_to_see rule (octets ++ left)) (sym (seen rule left broken.0 here))),
      ))

  pub header_read : (header : Header) → HasHeader octets header → IsHeaderRead octets (header.len + header.contents)
  header_read header has = record {
    faultless = (has.lengths.whole, keeps);
    whole = tight has.lengths.whole;
    len_is = omega (arith, has.lengths.len_is, has.lengths.contents_is);
  }
    where
      keeps : (rule : Rule) → rule_number rule < 4 → Breaks rule 1 octets → ⊥
      keeps TagForm low (some, r) = let a = has.accepted in cc
      keeps LengthForm low b = has.lengths.form b
      keeps TooLong low (w, le) = let lt = has.lengths.bounded in omega arith
      keeps Truncated low b = omega arith
      keeps TooDeep low b = omega arith
      keeps Content low b = omega arith
      keeps Trailing low b = omega arith

-- a header that breaks no rule breaks none, whatever follows it
pub faultless-ahead : (octets rest : List ℕ) → HasFaultlessHeader octets → HasFaultlessHeader (octets ++ rest)
faultless-ahead octets rest faultless =
    (whole-ahead octets rest faultless.0, λ rule low b. faultless.1 rule low (header-back rule 1 octets rest faultless.0 low b))

-- Octets that begin with a header that was read.
module _ (header : List ℕ) (len : ℕ) (known : IsHeaderRead header len) where
  ahead_faultless : (rest : List ℕ) → HasFaultlessHeader (header ++ rest)
  ahead_faultless rest = faultless-ahead header rest known.faultless

  ahead_end : (rest : List ℕ) → end_of (header ++ rest) ≡ len
  ahead_end rest = end_of-ahead header rest known.faultless.0 ∙ sym known.len_is

  pub past : (limit : ℕ) (a b : Option (List ℕ)) → limit < len → Consumes a b header → TakesFault limit a b Limit
  past limit a b lt read = from limit a b header past_limit read (λ left. (
    ahead_faultless left,
    omega (arith, ahead_end left),
    sym (drop_at header left (header_len (header ++ left)) (known.whole ∙ sym (header_len-ahead header left known.faultless.0.0))),
  ))

  starts : (octets : List ℕ) → StartsWith octets header → (rest : List ℕ) × (octets ≡ header ++ rest)
  starts octets s = (drop (length header) octets, starts_with_rest octets header s)

  cut : (octets : List ℕ) → HasFaultlessHeader octets → length octets < end_of octets → BreaksFirst Truncated 1 octets
  cut octets faultless shorter = (λ (w, within). omega arith, faultless.1)

  pub cut_contents : (limit : ℕ) (a b : Option (List ℕ)) (octets : List ℕ) → StartsWith octets header → length octets < len → len ≤ limit → Consumes a b octets → IsAtEnd b
      → TakesFault limit a b (Fault (Refused Truncated 0))
  cut_contents limit a b octets s shorter fits read end =
      let rest = starts octets s in
      let faultless : HasFaultlessHeader octets = subst HasFaultlessHeader (sym rest.1) (ahead_faultless rest.0) in
      let end_is : end_of octets ≡ len = ap end_of rest.1 ∙ ahead_end rest.0 in
      from_end limit a b octets (refused Truncated 0) read end
      (omega (arith, faultless.0.0), refused_itself 1 octets Truncated (cut octets faultless (omega (arith, end_is))), λ _. omega (arith, end_is), all_behind octets)

  -- the outermost value breaks no rule on its header, nor is it cut short
  see_end : (octets left : List ℕ) (rule : Rule) → HasFaultlessHeader octets → end_of octets ≤ length octets → Breaks rule 1 octets → octets_to_see rule (octets ++ left) ≡ end_of (octets ++ left)
  see_end octets left TagForm faultless within b = absurd (faultless.1 TagForm (omega arith) b)
  see_end octets left LengthForm faultless within b = absurd (faultless.1 LengthForm (omega arith) b)
  see_end octets left TooLong faultless within b = absurd (faultless.1 TooLong (omega arith) b)
  see_end octets left Truncated faultless within b = absurd (b (faultless.0, within))
  see_end octets left TooDeep faultless within b = refl
  see_end octets left Content faultless within b = refl
  see_end octets left Trailing faultless within b = refl

  pick : (z : Bool) (n m : ℕ) → (z ≡ true → n ≡ m) → (if z then n else m) ≡ m
  pick true n m e = e refl
  pick false n m e = refl

  inside_fault : (limit : ℕ) (octets left : List ℕ) (rule : Rule) (at : ℕ) → StartsWith octets header → length octets ≡ len → len ≤ limit → FirstFaultIn 1 octets rule at
      → ReadsNext limit (octets ++ left) left (refused rule at)
  inside_fault limit octets left rule at s long fits fault =
      let rest = starts octets s in
      let faultless : HasFaultlessHeader octets = subst HasFaultlessHeader (sym rest.1) (ahead_faultless rest.0) in
      let end_is : end_of octets ≡ len = ap end_of rest.1 ∙ ahead_end rest.0 in
      let all_is : end_of (octets ++ left) ≡ len = end_of-ahead octets left faultless.0 ∙ end_is in
      let count : octets_read rule at (octets ++ left) ≡ end_of (octets ++ left)
      = pick (at == 0) (octets_to_see rule (octets ++ left)) (end_of (octets ++ left))
      (λ t. see_end octets left rule faultless (omega (arith, end_is)) (itself_broken octets rule at fault (eqb-true at 0 t))) in (
        omega (arith, faultless.0.0, length-append octets left),
        fault-ahead octets left rule at faultless.0 (omega (arith, end_is)) fault,
        λ _. omega (arith, all_is),
        sym (drop_at octets left (octets_read rule at (octets ++ left)) (long ∙ sym all_is ∙ sym count)),
      )
    where
      itself_broken : (octets : List ℕ) (rule : Rule) (at : ℕ) → FirstFaultIn 1 octets rule at → at ≡ 0 → Breaks rule 1 octets
      itself_broken octets rule at fault zero =
          let o = one_start fault.broken.2 (itself {depth = 1} {text = octets}) zero in
          subst (λ (t : List ℕ). Breaks rule 1 t) o.1 (subst (λ (d : ℕ). Breaks rule d fault.broken.1) o.0 fault.broken.3.0)

  pub refused_inside : (limit : ℕ) (a b : Option (List ℕ)) (octets : List ℕ) (fault : Rattle.der.specs.declared.fault.Fault.TheVariants.the_data) → StartsWith octets header → length octets ≡ len → len ≤ limit → IsFirstFault octets fault → Consumes a b octets
      → TakesFault limit a b (Fault fault)
  refused_inside limit a b octets (Refused rule at) s long fits (inl fault) read =
      from limit a b octets (refused rule at) read (λ left. inside_fault limit octets left rule at s long fits fault)
  refused_inside limit a b octets (Refused rule at) s long fits (inr (e, trailing)) read =
      let rest = starts octets s in
      let end_is : end_of octets ≡ len = ap end_of rest.1 ∙ ahead_end rest.0 in
      absurd (omega (arith, trailing.more, trailing.place, end_is, long))
  refused_inside limit a b octets Memory s long fits fault read = tt

pub took_value : (limit : ℕ) (a b : Option (List ℕ)) (octets : List ℕ) → (v : Value) × Encodes octets v → length octets ≤ limit → Consumes a b octets → TakesValue limit a b (Some octets)
took_value limit a b octets encoded fits read = from limit a b octets (value octets) read (λ left. (encoded, fits, refl))

-- a buffer that was filled up to some place, and then further
pub filled_more : (a b c : Option (List ℕ)) (old before after : List ℕ) (filled count : ℕ) → take filled after ≡ take filled before
    → StartsWith (take filled before) old → Consumes a b (drop (length old) (take filled before)) → Consumes b c (take count (drop filled after))
    → StartsWith (take (filled + count) after) old × Consumes a c (drop (length old) (take (filled + count) after))
filled_more a b c old before after filled count front starts_old read more =
    let first = take filled before in
    let other = take count (drop filled after) in
    let whole : take (filled + count) after ≡ first ++ other = take-add filled count after ∙ ap (λ (t : List ℕ). t ++ other) front in
    let long : length old ≤ length first = omega (arith, ap length starts_old, length-take (length old) first) in (
      ap (take (length old)) whole ∙ take-append-le (length old) first other long ∙ starts_old,
      subst (Consumes a c) (sym (ap (drop (length old)) whole ∙ drop-append-le (length old) first other long)) (Consumes-trans a b c _ _ read more),
    )

-- what was read in three steps: what the buffer held, what it was filled up with, and nothing more
pub all_read : (first a b c : Option (List ℕ)) (old all : List ℕ) → StartsWith all old → Consumes first a old → Consumes a b (drop (length old) all) → Consumes b c [] → Consumes first c all
all_read first a b c old all s before read none =
    let joined = Consumes-trans first a b old (drop (length old) all) before read in
    subst (Consumes first c) (append-nil _ ∙ sym (starts_with_rest all old s)) (Consumes-trans first b c _ [] joined none)

-- the same of two steps
pub both_read : (first a b : Option (List ℕ)) (old all : List ℕ) → StartsWith all old → Consumes first a old → Consumes a b (drop (length old) all) → Consumes first b all
both_read first a b old all s before read = subst (Consumes first b) (sym (starts_with_rest all old s)) (Consumes-trans first a b old (drop (length old) all) before read)

-- what an encoding says of a text that begins with it
begins : (text octets left : List ℕ) (v : Value) → Encodes octets v → text ≡ octets ++ left → (2 ≤ length text) × (end_of text ≡ length octets)
begins text octets left v encodes e =
    let p = parts_of v 1 octets encodes in
    let f = front_of 1 text octets left p.0 p.1 e p.2 in
    let w = f.lengths_are.whole in
    (w.0, omega (arith, f.within, ap length f.rest_is, length-drop (end_of text) text, ap length e, length-append octets left))

clean : (text octets left : List ℕ) (v : Value) (rule : Rule) (at : ℕ) → Encodes octets v → text ≡ octets ++ left → FirstFaultIn 1 text rule at → ⊥
clean text octets left v rule at encodes e fault = clean_in fault.broken.2 v octets left e encodes rule fault.broken.3.0

pub one_answer : OneAnswer
one_answer limit text left right (value x) (value y) (v, _, e) (w, _, f) = let o = one_value v.0 w.0 1 1 text x y left right e f v.1 w.1 in (ap value o.0, o.1)
one_answer limit text left right (value x) ended (v, _, e) (none, _) = absurd (omega (arith, (begins text x left v.0 v.1 e).0, ap length none))
one_answer limit text left right (value x) past_limit (v, fits, e) (_, beyond, _) = absurd (omega (arith, (begins text x left v.0 v.1 e).1))
one_answer limit text left right (value x) (refused rule at) (v, _, e) (_, fault, _, _) = absurd (clean text x left v.0 rule at v.1 e fault)
one_answer limit text left right ended (value y) (none, _) (w, _, f) = absurd (omega (arith, (begins text y right w.0 w.1 f).0, ap length none))
one_answer limit text left right ended ended (_, a) (_, b) = (refl, a ∙ sym b)
one_answer limit text left right ended past_limit (none, _) (faultless, _, _) = absurd (omega (arith, faultless.0.0, ap length none))
one_answer limit text left right ended (refused rule at) (none, _) (some, _, _, _) = absurd (omega (arith, ap length none))
one_answer limit text left right past_limit (value y) (_, beyond, _) (w, fits, f) = absurd (omega (arith, (begins text y right w.0 w.1 f).1))
one_answer limit text left right past_limit ended (faultless, _, _) (none, _) = absurd (omega (arith, faultless.0.0, ap length none))
one_answer limit text left right past_limit past_limit (_, _, a) (_, _, b) = (refl, a ∙ sym b)
one_answer limit text left right past_limit (refused rule at) (faultless, beyond, _) (_, _, fits, _) = absurd (let f = fits faultless in omega arith)
one_answer limit text left right (refused rule at) (value y) (_, fault, _, _) (w, _, f) = absurd (clean text y right w.0 rule at w.1 f fault)
one_answer limit text left right (refused rule at) ended (some, _, _, _) (none, _) = absurd (omega (arith, ap length none))
one_answer limit text left right (refused rule at) past_limit (_, _, fits, _) (faultless, beyond, _) = absurd (let f = fits faultless in omega arith)
one_answer limit text left right (refused r p) (refused s q) (_, a, _, x) (_, b, _, y) =
    let o = one_fault text r s p q (inl a) (inl b) in
    let same : octets_read r p text ≡ octets_read s q text = ap (λ (t : Rule). octets_read t p text) o.0 ∙ ap (λ (n : ℕ). octets_read s n text) o.1 in
    (ap (λ (t : Rule). refused t p) o.0 ∙ ap (refused s) o.1, x ∙ ap (λ (n : ℕ). drop n text) same ∙ sym y)
