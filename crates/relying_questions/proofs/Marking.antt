-- The issuers of a search's questions, marked by the numbers of their texts, and listed in order.
use Rattle.std.proofs.Common.{◌≡◌, ◌<◌, ◌+◌, ◌-◌, ℕ, zero, suc, Bool, true, false, List, [], ◌∷◌, ◌++◌, length, map, get_or, set, take, drop, replicate, leb, if◌then◌else◌, arith, refl, ap, sym, ◌∙◌, subst, inl, inr, append_assoc}
use Rattle.std.specs.List.{AllByRecursion, AllPairs, Contains}
use Rattle.std.proofs.Math.Seq.{drop-cons}
use Rattle.std.proofs.lemmas.Bool.{cases_eq, le-leb, leb-false, leb-true, lt-leb, lt-ltb}
use Rattle.std.proofs.lemmas.List.{get_or-map, get_or-set_other, get_or-set_same, length-map, length-replicate, length-set, take_more}
use Rattle.std.proofs.lemmas.List.Elements.{All-contains, All-from_recursion, All-map, Contains-append_left, Contains-get_or, Contains-push, Contains-push_cases}
use Rattle.std.proofs.lemmas.List.Kept.{AllPairs-cons}
use Rattle.cert.specs.Certificate.{Certificate}
use Rattle.path_issuers.specs.Questions.{IsThere, issuer_at}
use Rattle.path_issuers.specs.Search.{Search}
use Rattle.path_issuers.specs.declared.question.Issuer.{Issuer}
use Rattle.path_issuers.specs.declared.question.Issuer.TheVariants.{Anchor, Bag}
use Rattle.path_issuers.specs.declared.question.SearchQuestion.{SearchQuestion}
use Rattle.relying_questions.specs.FindingQuestions.{AreIssuersIn, IsIssuerIn, StandsBefore}
use Rattle.relying_questions.specs.Issuers.{AreMarks, IsMarked, IssuersAreThere, MarkedAreThere, issuer_in, issuers_marked, marked_from, text_of}

-- ---- numbers

-- an issuer that is there is the one whose text has its number
pub same_issuer : (s : Search) (issuer : Issuer) → IsThere s issuer → issuer_in s (text_of s issuer) ≡ issuer
same_issuer s (Anchor place) there = rw (le-leb place (length s.anchors) (omega (arith, there))) refl
same_issuer s (Bag place) there =
    let back : length s.anchors + 1 + place - (length s.anchors + 1) ≡ place = omega arith in
    rw (lt-ltb place (length s.bag) there) (rw (lt-leb (length s.anchors + 1 + place) (length s.anchors) (omega arith)) (ap Bag back))

pub text_within : (s : Search) (issuer : Issuer) → IsThere s issuer → text_of s issuer < length s.anchors + 1 + length s.bag
text_within s (Anchor place) there = omega (arith, there)
text_within s (Bag place) there = rw (lt-ltb place (length s.bag) there) (omega (arith, there))

rises_by : (a n m : ℕ) (b c : Bool) → leb n a ≡ b → leb m a ≡ c → n < m
    → StandsBefore (if b then Anchor n else Bag (n - (a + 1))) (if c then Anchor m else Bag (m - (a + 1)))
rises_by a n m true true e f less = less
rises_by a n m true false e f less = tt
rises_by a n m false true e f less = absurd (omega (arith, less, leb-false n a e, leb-true m a f))
rises_by a n m false false e f less = omega (arith, less, leb-false n a e, leb-false m a f)

-- in the order of their texts
rises : (s : Search) (n m : ℕ) → n < m → StandsBefore (issuer_in s n) (issuer_in s m)
rises s n m less = rises_by (length s.anchors) n m (leb n (length s.anchors)) (leb m (length s.anchors)) refl refl less

-- ---- numbers that are marked

first_number : (n : ℕ) → n + 0 ≡ n
first_number n = omega arith

next_number : (n j : ℕ) → n + suc j ≡ suc n + j
next_number n j = omega arith

marked_each : (P : ℕ → Type 0) (n : ℕ) (marks : List Bool) → ((j : ℕ) → IsMarked marks j → P (n + j)) → AllByRecursion P (marked_from n marks)
marked_each P n [] holds = tt
marked_each P n (true ∷ marks) holds =
    (subst P (first_number n) (holds 0 refl), marked_each P (suc n) marks (λ j is. subst P (next_number n j) (holds (suc j) is)))
marked_each P n (false ∷ marks) holds = marked_each P (suc n) marks (λ j is. subst P (next_number n j) (holds (suc j) is))

in_front : (n m : ℕ) (ms : List ℕ) → Contains ms m → Contains (n ∷ ms) m
in_front n m ms among = (suc among.0, omega (arith, among.1), among.2)

marked_contains : (n : ℕ) (marks : List Bool) (j : ℕ) → IsMarked marks j → Contains (marked_from n marks) (n + j)
marked_contains n [] j is = absurd cc
marked_contains n (true ∷ marks) zero is = (0, omega arith, sym (first_number n))
marked_contains n (false ∷ marks) zero is = absurd cc
marked_contains n (true ∷ marks) (suc j) is =
    subst (λ m. Contains (n ∷ marked_from (suc n) marks) m) (sym (next_number n j))
    (in_front n (suc n + j) (marked_from (suc n) marks) (marked_contains (suc n) marks j is))
marked_contains n (false ∷ marks) (suc j) is = subst (Contains (marked_from (suc n) marks)) (sym (next_number n j)) (marked_contains (suc n) marks j is)

marked_in_order : (s : Search) (n : ℕ) (marks : List Bool) → AllPairs StandsBefore (map (issuer_in s) (marked_from n marks))
marked_in_order s n [] = λ i j d less within. absurd (omega (arith, within))
marked_in_order s n (true ∷ marks) =
    AllPairs-cons StandsBefore (issuer_in s n) (map (issuer_in s) (marked_from (suc n) marks))
    (All-map (StandsBefore (issuer_in s n)) (issuer_in s) (marked_from (suc n) marks)
    (All-from_recursion (λ m. StandsBefore (issuer_in s n) (issuer_in s m)) (marked_from (suc n) marks)
    (marked_each (λ m. StandsBefore (issuer_in s n) (issuer_in s m)) (suc n) marks (λ j is. rises s n (suc n + j) (omega arith)))))
    (marked_in_order s (suc n) marks)
marked_in_order s n (false ∷ marks) = marked_in_order s (suc n) marks

pub mapped : {X Y : Type 0} (f : X → Y) (xs : List X) (x : X) → Contains xs x → Contains (map f xs) (f x)
mapped f xs x among = (among.0, omega (arith, among.1, length-map xs f), get_or-map f xs among.0 x (f x) among.1 ∙ ap f among.2)

zero_before : (n : ℕ) → 0 + n ≡ n
zero_before n = omega arith

-- the issuers that are marked are those of the pairs
pub issuers_listed : (s : Search) (pairs : List SearchQuestion) (marks : List Bool) → IssuersAreThere s pairs → AreMarks s pairs marks
    → AreIssuersIn pairs (issuers_marked s marks)
issuers_listed s pairs marks there are = record {
  each = λ issuer among.
      All-contains (IsIssuerIn pairs) (issuers_marked s marks) issuer
      (All-map (IsIssuerIn pairs) (issuer_in s) (marked_from 0 marks)
      (All-from_recursion (λ n. IsIssuerIn pairs (issuer_in s n)) (marked_from 0 marks)
      (marked_each (λ n. IsIssuerIn pairs (issuer_in s n)) 0 marks (λ j is. subst (λ n. IsIssuerIn pairs (issuer_in s n)) (sym (zero_before j)) (are.each j is)))))
      among;
  all = λ issuer stands.
      let number = text_of s issuer in
      let among : Contains (marked_from 0 marks) number =
      subst (Contains (marked_from 0 marks)) (zero_before number) (marked_contains 0 marks number (are.all issuer stands)) in
      subst (Contains (issuers_marked s marks)) (same_issuer s issuer (there (record { issuer = issuer; certificate = stands.0 }) stands.1))
      (mapped (issuer_in s) (marked_from 0 marks) number among);
  in_order = marked_in_order s 0 marks;
}

pub marked_are_there : (s : Search) (pairs : List SearchQuestion) (marks : List Bool) → IssuersAreThere s pairs → AreMarks s pairs marks → MarkedAreThere s marks
marked_are_there s pairs marks there are number is =
    let stands = are.each number is in
    there (record { issuer = issuer_in s number; certificate = stands.0 }) stands.1

-- ---- marks

pub no_marks : (s : Search) (count : ℕ) (marks : List Bool) → count ≡ length s.anchors + 1 + length s.bag → marks ≡ replicate count false → AreMarks s [] marks
no_marks s count marks counted none = subst (AreMarks s []) (sym none) record {
  count = length-replicate count false ∙ counted;
  each = λ number is. absurd (unmarked count number is);
  all = λ issuer stands. absurd (omega (arith, stands.1.1));
}
  where
    unmarked : (count number : ℕ) → ¬ IsMarked (replicate count false) number
    unmarked zero number is = cc
    unmarked (suc count) zero is = cc
    unmarked (suc count) (suc number) is = unmarked count number is

-- one more is marked
pub one_mark : (s : Search) (pairs : List SearchQuestion) (pair : SearchQuestion) (marks new : List Bool) → IsThere s pair.issuer
    → new ≡ set marks (text_of s pair.issuer) true → AreMarks s pairs marks → AreMarks s (pairs ++ pair ∷ []) new
one_mark s pairs pair marks new there is are = subst (AreMarks s (pairs ++ pair ∷ [])) (sym is) record {
  count = length-set marks number true ∙ are.count;
  each = each;
  all = λ issuer stands. elim (Contains-push_cases pairs pair (record { issuer = issuer; certificate = stands.0 }) stands.1) [
    | inl before ↦ kept (text_of s issuer) (are.all issuer (stands.0, before))
    | inr same ↦ subst (IsMarked marked) (ap (λ (p : SearchQuestion). text_of s p.issuer) same) here
  ];
}
  where
    number : ℕ
    number = text_of s pair.issuer

    marked : List Bool
    marked = set marks number true

    here : IsMarked marked number
    here = get_or-set_same marks number true false (omega (arith, text_within s pair.issuer there, are.count))

    kept : (other : ℕ) → IsMarked marks other → IsMarked marked other
    kept other was = elim (cases_eq other number) [
      | inl same ↦ subst (IsMarked marked) (sym same) here
      | inr different ↦ get_or-set_other marks number other true false different ∙ was
    ]

    each : (other : ℕ) → IsMarked marked other → IsIssuerIn (pairs ++ pair ∷ []) (issuer_in s other)
    each other is = elim (cases_eq other number) [
      | inl same ↦
          subst (IsIssuerIn (pairs ++ pair ∷ [])) (sym (same_issuer s pair.issuer there) ∙ ap (issuer_in s) (sym same))
          (pair.certificate, Contains-push pairs pair)
      | inr different ↦
          let stands = are.each other (sym (get_or-set_other marks number other true false different) ∙ is) in
          (stands.0, Contains-append_left pairs (pair ∷ []) (record { issuer = issuer_in s other; certificate = stands.0 }) stands.1)
    ]

-- the mark of the next pair
pub mark_within : (s : Search) (pairs : List SearchQuestion) (i : ℕ) (d : SearchQuestion) (number size : ℕ) (marks : List Bool) → i < length pairs
    → number ≡ text_of s (get_or pairs i d).issuer → size ≡ length marks → IssuersAreThere s pairs → AreMarks s (take i pairs) marks → number < size
mark_within s pairs i d number size marks within is sized there are =
    let pair = get_or pairs i d in
    omega (arith, is, sized, text_within s pair.issuer (there pair (Contains-get_or pairs i d within)), are.count)

pub next_mark : (s : Search) (pairs : List SearchQuestion) (i : ℕ) (d : SearchQuestion) (number : ℕ) (marks : List Bool) → i < length pairs
    → number ≡ text_of s (get_or pairs i d).issuer → IssuersAreThere s pairs → AreMarks s (take i pairs) marks
    → AreMarks s (take (i + 1) pairs) (set marks number true)
next_mark s pairs i d number marks within is there are =
    let pair = get_or pairs i d in
    subst (λ (l : List SearchQuestion). AreMarks s l (set marks number true)) (sym (take_more pairs i d within))
    (one_mark s (take i pairs) pair marks (set marks number true) (there pair (Contains-get_or pairs i d within)) (ap (λ (n : ℕ). set marks n true) is) are)

-- ---- the certificates that are listed

abbrev pub listed_from : Search → ℕ → List Bool → List Certificate
listed_from s n marks = map (issuer_at s) (map (issuer_in s) (marked_from n marks))

pub mark_left : (marks : List Bool) (i : ℕ) (mark : Bool) → i < length marks → get_or marks i false ≡ mark → drop i marks ≡ mark ∷ drop (i + 1) marks
mark_left marks i mark within is =
    let later : suc i ≡ i + 1 = omega arith in
    drop-cons marks i false within ∙ ap (λ (m : Bool). m ∷ drop (suc i) marks) is ∙ ap (λ (n : ℕ). mark ∷ drop n marks) later

-- the next text is marked
pub one_listed : (s : Search) (sofar new whole : List Certificate) (n : ℕ) (left rest : List Bool) → left ≡ true ∷ rest
    → new ≡ sofar ++ issuer_at s (issuer_in s n) ∷ [] → sofar ++ listed_from s n left ≡ whole → new ++ listed_from s (n + 1) rest ≡ whole
one_listed s sofar new whole n left rest left_is new_is so_far =
    let one = issuer_at s (issuer_in s n) in
    let later : n + 1 ≡ suc n = omega arith in
    ap (λ (k : ℕ). new ++ listed_from s k rest) later
    ∙ ap (λ (l : List Certificate). l ++ listed_from s (suc n) rest) new_is
    ∙ append_assoc sofar (one ∷ []) (listed_from s (suc n) rest)
    ∙ ap (λ (l : List Bool). sofar ++ listed_from s n l) (sym left_is)
    ∙ so_far

-- it is not
pub none_listed : (s : Search) (sofar whole : List Certificate) (n : ℕ) (left rest : List Bool) → left ≡ false ∷ rest
    → sofar ++ listed_from s n left ≡ whole → sofar ++ listed_from s (n + 1) rest ≡ whole
none_listed s sofar whole n left rest left_is so_far =
    let later : n + 1 ≡ suc n = omega arith in
    ap (λ (k : ℕ). sofar ++ listed_from s k rest) later ∙ ap (λ (l : List Bool). sofar ++ listed_from s n l) (sym left_is) ∙ so_far
