-- Octets are the encoding of a value, or there is a first rule that they break, and never both.
use Rattle.std.proofs.Common.{◌≡◌, ◌⊎◌, ℕ, zero, suc, ◌+◌, ◌-◌, ◌<◌, ◌≤◌, ◌%◌, ◌^◌, Bool, List, [], ◌∷◌, length, get_or, take, drop, refl, sym, ap, subst, arith, true, false, inl, inr}
use Rattle.std.proofs.lemmas.Bool.{cases_lt}
use Rattle.std.proofs.lemmas.List.{length-drop, length-take, get_or-drop, get_or-take, get_or_past, take-append-drop, append-nil, take_all}
use Rattle.der.specs.declared.fault.Rule.{Rule}
use Rattle.der.specs.declared.fault.Rule.TheVariants.{TagForm, LengthForm, TooLong, Truncated, TooDeep, Content, Trailing}
use Rattle.der.specs.Value.{Value, Values, none}
use Rattle.der.specs.Identifier.{is_refused, is_constructed}
use Rattle.der.specs.Contents.{IsBoolean, IsInteger, IsBitString, AreArcs, IsObjectIdentifier, IsContents}
use Rattle.der.specs.Length.{contents_limit, first_length, header_len, contents_len, contents_of, end_of, IsHeaderWhole}
use Rattle.der.specs.Encoding.{EncodesAllAt, Encodes, deepest}
use Rattle.der.specs.FirstFault.{Breaks, BreaksFirst, FirstFaultIn, FirstFaultAmong, IsFirstFault}
use Rattle.der.specs.Fault.{rule_number}
use Rattle.der.specs.Header.{BeginsWithValue}
use Rattle.der.specs.Laws.{AreOctets, Decision}
use Rattle.der.specs.declared.fault.Fault.{Fault}
use Rattle.der.specs.declared.fault.Fault.TheVariants.{Refused, Memory}
use Rattle.der.proofs.Clean.{clean_in, parts_of, front_of}
use Rattle.der.proofs.Faults.{IsClean, refused_itself, refused_inside, refused_first, refused_later, length-contents_of}
use Rattle.der.proofs.Accepts.{accepts_primitive, accepts_constructed, accepts_more}
use Rattle.der.proofs.Headers.{two_octets, shorter}

abbrev pub Dec : Type 0 → Type 0
Dec P = P ⊎ (P → ⊥)

both : (P Q : Type 0) → Dec P → Dec Q → Dec (P × Q)
both P Q (inl p) (inl q) = inl (p, q)
both P Q (inl p) (inr n) = inr (λ w. n w.1)
both P Q (inr n) q = inr (λ w. n w.0)

three : (P Q R : Type 0) → Dec P → Dec Q → Dec R → Dec (P × Q × R)
three P Q R (inl p) (inl q) (inl r) = inl (p, q, r)
three P Q R (inl p) (inl q) (inr n) = inr (λ w. n w.2)
three P Q R (inl p) (inr n) r = inr (λ w. n w.1)
three P Q R (inr n) q r = inr (λ w. n w.0)

either : (P Q : Type 0) → Dec P → Dec Q → Dec (P ⊎ Q)
either P Q (inl p) q = inl (inl p)
either P Q (inr n) (inl q) = inl (inr q)
either P Q (inr n) (inr m) = inr (λ w. elim w [ inl p ↦ n p | inr q ↦ m q ])

implies : (P Q : Type 0) → Dec P → Dec Q → Dec (P → Q)
implies P Q (inr n) q = inl (λ p. absurd (n p))
implies P Q (inl p) (inl q) = inl (λ _. q)
implies P Q (inl p) (inr m) = inr (λ f. m (f p))

never : (P : Type 0) → Dec P → Dec (P → ⊥)
never P (inl p) = inr (λ f. f p)
never P (inr n) = inl n

stable : (P : Type 0) → Dec P → ((P → ⊥) → ⊥) → P
stable P (inl p) f = p
stable P (inr n) f = absurd (f n)

below : (a b : ℕ) → Dec (a < b)
below a b = elim (cases_lt a b) [ inl l ↦ inl l | inr g ↦ inr (λ l. omega arith) ]

at_most : (a b : ℕ) → Dec (a ≤ b)
at_most a b = elim (cases_lt b a) [ inl l ↦ inr (λ h. omega arith) | inr g ↦ inl g ]

same : (a b : ℕ) → Dec (a ≡ b)
same a b = elim (cases_lt a b) [ inl l ↦ inr (λ e. omega arith) | inr g ↦ elim (cases_lt b a) [ inl l ↦ inr (λ e. omega arith) | inr h ↦ inl (omega arith) ] ]

is_bool : (a b : Bool) → Dec (a ≡ b)
is_bool true true = inl refl
is_bool true false = inr (λ e. cc)
is_bool false true = inr (λ e. cc)
is_bool false false = inl refl

each_below : (P : ℕ → Type 0) → ((k : ℕ) → Dec (P k)) → (n : ℕ) → Dec ((k : ℕ) → k < n → P k)
each_below P d zero = inl (λ k lt. absurd (omega arith))
each_below P d (suc n) = elim (each_below P d n) [
  | inr not_so ↦ inr (λ all. not_so (λ k lt. all k (omega arith)))
  | inl so_far ↦ elim (d n) [
    | inr not_so ↦ inr (λ all. not_so (all n (omega arith)))
    | inl here ↦ inl (λ k lt. elim (cases_lt k n) [ inl l ↦ so_far k l | inr g ↦ (let e : n ≡ k = omega arith in subst P e here) ])
  ]
]

one_octet : (n : ℕ) (xs : List ℕ) → Dec (xs ≡ n ∷ [])
one_octet n [] = inr (λ e. cc)
one_octet n (x ∷ y ∷ xs) = inr (λ e. cc)
one_octet n (x ∷ []) = elim (same x n) [ inl e ↦ inl (ap (λ (k : ℕ). k ∷ []) e) | inr not_so ↦ inr (λ e. not_so cc) ]

nothing : (xs : List ℕ) → Dec (xs ≡ [])
nothing [] = inl refl
nothing (x ∷ xs) = inr (λ e. cc)

boolean : (c : List ℕ) → Dec (IsBoolean c)
boolean c = either _ _ (one_octet 0 c) (one_octet 255 c)

integer : (c : List ℕ) → Dec (IsInteger c)
integer [] = inr (λ e. e)
integer (a ∷ []) = inl tt
integer (a ∷ b ∷ octets) = both _ _ (never _ (both _ _ (same a 0) (below b 128))) (never _ (both _ _ (same a 255) (at_most 128 b)))

bit_string : (c : List ℕ) → Dec (IsBitString c)
bit_string [] = inr (λ e. e)
bit_string (unused ∷ bits) = three _ _ _ (below unused 8) (implies _ _ (same (length bits) 0) (same unused 0)) (same (get_or bits (length bits - 1) 0 % (2 ^ unused)) 0)

arcs : (c : List ℕ) → Dec (AreArcs c)
arcs c = each_below (λ k. get_or c k 0 ≡ 128 → (0 < k) × (128 ≤ get_or c (k - 1) 0)) (λ k. implies _ _ (same (get_or c k 0) 128) (both _ _ (below 0 k) (at_most 128 (get_or c (k - 1) 0)))) (length c)

object_identifier : (c : List ℕ) → Dec (IsObjectIdentifier c)
object_identifier c = three _ _ _ (below 0 (length c)) (below (get_or c (length c - 1) 0) 128) (arcs c)

contents : (i : ℕ) (c : List ℕ) → Dec (IsContents i c)
contents i c =
    elim (three _ _ _ (implies _ _ (same i 1) (boolean c)) (implies _ _ (same i 2) (integer c)) (implies _ _ (same i 3) (bit_string c))) [
      | inr not_so ↦ inr (λ w. not_so (w.0, w.1, w.2))
      | inl a ↦ elim (three _ _ _ (implies _ _ (same i 5) (nothing c)) (implies _ _ (same i 6) (object_identifier c)) (implies _ _ (same i 10) (integer c))) [
        | inr not_so ↦ inr (λ w. not_so (w.3, w.4, w.5))
        | inl b ↦ inl (a.0, a.1, a.2, b.0, b.1, b.2)
      ]
    ]

header_whole : (text : List ℕ) → Dec (IsHeaderWhole text)
header_whole text = both _ _ (at_most 2 (length text)) (at_most (header_len text) (length text))

breaks : (rule : Rule) (depth : ℕ) (text : List ℕ) → Dec (Breaks rule depth text)
breaks TagForm depth text = both _ _ (below 0 (length text)) (is_bool (is_refused (get_or text 0 0)) true)
breaks LengthForm depth text = both _ _ (at_most 2 (length text)) (either _ _ (same (first_length text) 128) (either _ _ (same (first_length text) 255) (both _ _ (header_whole text) (both _ _ (at_most 128 (first_length text)) (either _ _ (same (get_or text 2 0) 0) (below (contents_len text) 128))))))
breaks TooLong depth text = both _ _ (header_whole text) (at_most contents_limit (contents_len text))
breaks Truncated depth text = never _ (both _ _ (header_whole text) (at_most (end_of text) (length text)))
breaks TooDeep depth text = below deepest depth
breaks Content depth text = both _ _ (is_bool (is_constructed (get_or text 0 0)) false) (never _ (contents (get_or text 0 0) (contents_of text)))
breaks Trailing depth text = inr (λ e. e)

abbrev DoesNotBreak : Rule → ℕ → List ℕ → Type 0
DoesNotBreak rule depth text = Breaks rule depth text → ⊥

kept : (depth : ℕ) (text : List ℕ) (n : ℕ) → (1 < n → DoesNotBreak TagForm depth text) → (2 < n → DoesNotBreak LengthForm depth text) → (3 < n → DoesNotBreak TooLong depth text) → (4 < n → DoesNotBreak Truncated depth text) → (5 < n → DoesNotBreak TooDeep depth text) → (6 < n → DoesNotBreak Content depth text) → (other : Rule) → rule_number other < n → Breaks other depth text → ⊥
kept depth text n a b c d e f TagForm lt w = a lt w
kept depth text n a b c d e f LengthForm lt w = b lt w
kept depth text n a b c d e f TooLong lt w = c lt w
kept depth text n a b c d e f Truncated lt w = d lt w
kept depth text n a b c d e f TooDeep lt w = e lt w
kept depth text n a b c d e f Content lt w = f lt w
kept depth text n a b c d e f Trailing lt w = w

abbrev Judged : ℕ → List ℕ → Type 0
Judged depth text = ((rule : Rule) × BreaksFirst rule depth text) ⊎ ((other : Rule) → DoesNotBreak other depth text)

first_broken : (depth : ℕ) (text : List ℕ) → Judged depth text
first_broken depth text =
    elim (breaks TagForm depth text) [
      | inl w ↦ inl (TagForm, (w, kept depth text 1 (λ l. absurd (omega arith)) (λ l. absurd (omega arith)) (λ l. absurd (omega arith)) (λ l. absurd (omega arith)) (λ l. absurd (omega arith)) (λ l. absurd (omega arith))))
      | inr a ↦
          elim (breaks LengthForm depth text) [
            | inl w ↦ inl (LengthForm, (w, kept depth text 2 (λ l. a) (λ l. absurd (omega arith)) (λ l. absurd (omega arith)) (λ l. absurd (omega arith)) (λ l. absurd (omega arith)) (λ l. absurd (omega arith))))
            | inr b ↦
                elim (breaks TooLong depth text) [
                  | inl w ↦ inl (TooLong, (w, kept depth text 3 (λ l. a) (λ l. b) (λ l. absurd (omega arith)) (λ l. absurd (omega arith)) (λ l. absurd (omega arith)) (λ l. absurd (omega arith))))
                  | inr c ↦
                      elim (breaks Truncated depth text) [
                        | inl w ↦ inl (Truncated, (w, kept depth text 4 (λ l. a) (λ l. b) (λ l. c) (λ l. absurd (omega arith)) (λ l. absurd (omega arith)) (λ l. absurd (omega arith))))
                        | inr d ↦
                            elim (breaks TooDeep depth text) [
                              | inl w ↦ inl (TooDeep, (w, kept depth text 5 (λ l. a) (λ l. b) (λ l. c) (λ l. d) (λ l. absurd (omega arith)) (λ l. absurd (omega arith))))
                              | inr e ↦
                                  elim (breaks Content depth text) [
                                    | inl w ↦ inl (Content, (w, kept depth text 6 (λ l. a) (λ l. b) (λ l. c) (λ l. d) (λ l. e) (λ l. absurd (omega arith))))
                                    | inr f ↦
                                        inr (λ other. kept depth text (suc (rule_number other)) (λ l. a) (λ l. b) (λ l. c) (λ l. d) (λ l. e) (λ l. f) other (omega arith))
                                  ]
                            ]
                      ]
                ]
          ]
    ]

is_clean : (depth : ℕ) (text : List ℕ) → ((other : Rule) → DoesNotBreak other depth text) → (DoesNotBreak TooDeep depth text) → IsClean depth text
is_clean depth text keeps deep =
    let w = stable _ (both _ _ (header_whole text) (at_most (end_of text) (length text))) (keeps Truncated) in
    record {
      sound = record { keeps = λ rule d lt. at_any_depth rule d lt; whole = w.0; within = w.1 };
      deep = stable _ (at_most depth deepest) (λ not_so. deep (stable _ (below deepest depth) (λ m. not_so (omega arith))));
    }
  where
    at_any_depth : (rule : Rule) (d : ℕ) → rule_number rule < 5 → Breaks rule d text → ⊥
    at_any_depth TagForm d lt w = keeps TagForm w
    at_any_depth LengthForm d lt w = keeps LengthForm w
    at_any_depth TooLong d lt w = keeps TooLong w
    at_any_depth Truncated d lt w = keeps Truncated w
    at_any_depth TooDeep d lt w = omega arith
    at_any_depth Content d lt w = omega arith
    at_any_depth Trailing d lt w = w

bytes_drop : (n : ℕ) (text : List ℕ) → AreOctets text → AreOctets (drop n text)
bytes_drop n text h i = rw get_or-drop (h (n + i))

bytes_take : (n : ℕ) (text : List ℕ) → AreOctets text → AreOctets (take n text)
bytes_take n text h i =
    elim (cases_lt i n) [
      | inl lt ↦ rw (get_or-take n text i 0 lt) (h i)
      | inr le ↦ rw (get_or_past (take n text) i 0 (omega (arith, length-take n text))) (omega arith)
    ]

abbrev pub One : ℕ → List ℕ → Type 0
One depth text = BeginsWithValue depth text (end_of text) ⊎ ((rule : Rule) × (at : ℕ) × FirstFaultIn depth text rule at)

abbrev pub All : ℕ → List ℕ → Type 0
All depth text = ((values : Values) × EncodesAllAt depth text values) ⊎ ((rule : Rule) × (at : ℕ) × FirstFaultAmong depth text rule at)

constructed_one : (depth : ℕ) (text : List ℕ) → AreOctets text → IsClean depth text → is_constructed (get_or text 0 0) ≡ true → All (depth + 1) (contents_of text) → One depth text
constructed_one depth text fits clean form (inl (values, are)) = inl (accepts_constructed depth text fits clean form values are)
constructed_one depth text fits clean form (inr (rule, at, refused)) = inr (rule, header_len text + at, refused_inside depth text rule at clean form refused)

either_form : (b : Bool) → (b ≡ true) ⊎ (b ≡ false)
either_form true = inl refl
either_form false = inr refl

inner_length : (h c n : ℕ) → 2 ≤ h → h + c ≤ n → c < n
inner_length h c n two le = omega arith

one : (depth : ℕ) (text : List ℕ) → AreOctets text → ((inner : List ℕ) → AreOctets inner → length inner < length text → All (depth + 1) inner) → One depth text
one depth text fits rec =
    elim (first_broken depth text) [
      | inl w ↦ inr (w.0, 0, refused_itself depth text w.0 w.1)
      | inr keeps ↦ (
          let clean = is_clean depth text keeps (keeps TooDeep) in
          elim (either_form (is_constructed (get_or text 0 0))) [
            | inl form ↦ constructed_one depth text fits clean form (rec (contents_of text) (bytes_take (contents_len text) (drop (header_len text) text) (bytes_drop (header_len text) text fits))
                (let size = length-contents_of text clean.sound.within in rw size (inner_length (header_len text) (contents_len text) (length text) (two_octets text) clean.sound.within)))
            | inr form ↦ inl (accepts_primitive depth text fits clean form (stable _ (contents (get_or text 0 0) (contents_of text)) (λ n. keeps Content (form, n))))
          ])
    ]

more_of : (depth : ℕ) (text : List ℕ) → 0 < length text → BeginsWithValue depth text (end_of text) → All depth (drop (end_of text) text) → All depth text
more_of depth text some b (inl (values, are)) = inl (accepts_more depth text (end_of text) b values are)
more_of depth text some b (inr (rule, at, refused)) = inr (rule, end_of text + at, refused_later depth text rule at b.encoded.0 b.sound b.encoded.1 refused)

then : (depth : ℕ) (text : List ℕ) → 0 < length text → One depth text → All depth (drop (end_of text) text) → All depth text
then depth text some (inl b) rest = more_of depth text some b rest
then depth text some (inr (rule, at, refused)) rest = inr (rule, at, refused_first depth text rule at some refused)

less : (a b n : ℕ) → a < b → b ≤ suc n → a ≤ n
less a b n lt le = omega arith

all : (n : ℕ) (depth : ℕ) (text : List ℕ) → AreOctets text → length text ≤ n → All depth text
all n depth [] fits le = inl (none, refl)
all zero depth (o ∷ os) fits le = absurd (omega arith)
all (suc n) depth (o ∷ os) fits le =
    then depth (o ∷ os) (omega arith) (one depth (o ∷ os) fits (λ inner f lt. all n (depth + 1) inner f (less (length inner) (length (o ∷ os)) n lt le)))
    (all n depth (drop (end_of (o ∷ os)) (o ∷ os)) (bytes_drop (end_of (o ∷ os)) (o ∷ os) fits) (less _ (length (o ∷ os)) n (shorter (o ∷ os) (omega arith)) le))

whole_or_trailing : (text : List ℕ) → One 1 text → Decision text
whole_or_trailing text (inr (rule, at, refused)) = inr (rule, at, inl refused)
whole_or_trailing text (inl b) =
    elim (cases_lt (end_of text) (length text)) [
      | inl lt ↦ inr (
        Trailing,
        end_of text,
        inr (
          refl,
          record {
            clean = λ earlier level rest other s w. clean_in s b.encoded.0 (take (end_of text) text) (drop (end_of text) text) (sym (take-append-drop (end_of text) text)) b.encoded.1 other w;
            place = refl;
            more = lt;
          },
        ),
      )
      | inr ge ↦ inl (b.encoded.0, subst (λ (t : List ℕ). Encodes t b.encoded.0) (take_all (end_of text) text ge) b.encoded.1)
    ]

pub decide : (text : List ℕ) → AreOctets text → Decision text
decide text fits = whole_or_trailing text (one 1 text fits (λ inner f lt. all (length inner) 2 inner f (omega arith)))

whole_end : (text : List ℕ) (v : Value) → Encodes text v → end_of text ≡ length text
whole_end text v sp =
    let p = parts_of v 1 text sp in
    let f = front_of 1 text text [] p.0 p.1 (sym (append-nil text)) p.2 in
    omega (arith, f.within, length-drop (end_of text) text, ap length f.rest_is)

pub never_both : (text : List ℕ) (v : Value) (rule : Rule) (at : ℕ) → Encodes text v → IsFirstFault text (Refused rule at) → ⊥
never_both text v rule at s (inl r) = clean_in r.broken.2 v text [] (sym (append-nil text)) s rule r.broken.3.0
never_both text v rule at s (inr (e, t)) = omega (arith, t.more, t.place, whole_end text v s)

pub refused_apart : (text : List ℕ) (v : Value) (fault : Fault) → Encodes text v → IsFirstFault text fault → ⊥
refused_apart text v (Refused rule at) s refused = never_both text v rule at s refused
refused_apart text v Memory s refused = refused

-- whether the elements of a list are octets
all_octets : (text : List ℕ) → ((k : ℕ) → k < length text → get_or text k 0 < 256) → AreOctets text
all_octets text h k = elim (cases_lt k (length text)) [ inl lt ↦ h k lt | inr ge ↦ rw (get_or_past text k 0 ge) (omega arith) ]

octets_or_not : (text : List ℕ) → Dec ((k : ℕ) → k < length text → get_or text k 0 < 256) → AreOctets text ⊎ (AreOctets text → ⊥)
octets_or_not text (inl below_256) = inl (all_octets text below_256)
octets_or_not text (inr not_so) = inr (λ octets. not_so (λ k lt. octets k))

pub are_octets : (text : List ℕ) → AreOctets text ⊎ (AreOctets text → ⊥)
are_octets text = octets_or_not text (each_below (λ k. get_or text k 0 < 256) (λ k. below (get_or text k 0) 256) (length text))
