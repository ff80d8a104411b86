-- Texts that wait behind values that are open, for `values`.
use Rattle.std.proofs.Common.{◌≡◌, ◌≢◌, ℕ, zero, suc, ◌+◌, ◌-◌, ◌<◌, ◌≤◌, List, [], length, get_or, set, take, Bor, refl, sym, ap, arith, inl, inr, subst}
use Rattle.std.proofs.lemmas.List.{get_or-set_same, get_or-set_other, get_or-take, length-take-le}
use Rattle.std.proofs.lemmas.Bool.{cases_lt}
use Rattle.der.specs.Encoding.{deepest}
use Rattle.der.specs.Front.{AreEncodings, BeginsWith, SpeaksForWhole, octets_behind}
use Rattle.der.proofs.Faults.{refused_first}
use Rattle.der.proofs.KnownFronts.{passed}

abbrev pub nothing : Bor (List ℕ)
nothing = record { ref_ptr = (0, 0); now = [] }

-- the text behind the open value of that number
abbrev pub behind : List (Bor (List ℕ)) → ℕ → List ℕ
behind texts n = (get_or texts n nothing).now

-- what decides on the whole once the contents of the last of n open values are encodings: the text that waits behind it, and so on; the
-- outermost text that waits is of values at depth 2
abbrev pub Lacks : List (Bor (List ℕ)) → ℕ → List ℕ → Type 0
Lacks texts zero whole = AreEncodings 2 whole
Lacks texts (suc n) whole = SpeaksForWhole whole (n + 2) (behind texts n) (octets_behind texts n) (Lacks texts n whole)

-- one more text changes nothing for those before it
before : (texts : List (Bor (List ℕ))) (text : Bor (List ℕ)) (most n : ℕ) → n < most → behind (set texts most text) n ≡ behind texts n
before texts text most n lt = ap (λ (found : Bor (List ℕ)). found.now) (get_or-set_other texts most n text nothing (omega arith))

pub octets_before : (texts : List (Bor (List ℕ))) (text : Bor (List ℕ)) (most n : ℕ) → n ≤ most → octets_behind (set texts most text) n ≡ octets_behind texts n
octets_before texts text most zero le = refl
octets_before texts text most (suc n) le = omega (arith, ap length (before texts text most n (omega arith)), octets_before texts text most n (omega arith))

-- what is decided, said of another way to decide
deciding : (whole : List ℕ) (depth : ℕ) (text : List ℕ) (waiting : ℕ) (one other : Type 0) → (one → other) → SpeaksForWhole whole depth text waiting one → SpeaksForWhole whole depth text waiting other
deciding whole depth text waiting one other by leads = record { within = leads.within; encoded = λ are. by (leads.encoded are); refused = leads.refused }

lacks_before : (texts : List (Bor (List ℕ))) (text : Bor (List ℕ)) (most n : ℕ) (whole : List ℕ) → n ≤ most → Lacks texts n whole → Lacks (set texts most text) n whole
lacks_before texts text most zero whole le lacks = lacks
lacks_before texts text most (suc n) whole le lacks =
    rw (before texts text most n (omega arith), octets_before texts text most n (omega arith))
    (deciding whole (n + 2) (behind texts n) (octets_behind texts n) (Lacks texts n whole) (Lacks (set texts most text) n whole) (lacks_before texts text most n whole (omega arith)) lacks)

-- the text that waits last
last : (texts : List (Bor (List ℕ))) (text : Bor (List ℕ)) (n : ℕ) → n < length texts → behind (set texts n text) n ≡ text.now
last texts text n lt = ap (λ (found : Bor (List ℕ)). found.now) (get_or-set_same texts n text nothing lt)

pub octets_last : (texts : List (Bor (List ℕ))) (text : Bor (List ℕ)) (n : ℕ) → n < length texts → octets_behind (set texts n text) (n + 1) ≡ length text.now + octets_behind texts n
octets_last texts text n lt =
    let e : n + 1 ≡ suc n = omega arith in
    rw e (omega (arith, ap length (last texts text n lt), octets_before texts text n n (omega arith)))

-- the octets that wait, and one more for each text
abbrev pub steps_left : List (Bor (List ℕ)) → ℕ → ℕ
steps_left texts n = octets_behind texts n + n

-- the text that waits last is looked at
pub taken : (texts : List (Bor (List ℕ))) (n : ℕ) (whole : List ℕ) → n ≢ 0 → Lacks texts n whole → SpeaksForWhole whole (n - 1 + 2) (behind texts (n - 1)) (octets_behind texts (n - 1)) (Lacks texts (n - 1) whole)
taken texts zero whole some lacks = absurd (some refl)
taken texts (suc n) whole some lacks = let e : suc n - 1 ≡ n = omega arith in rw e lacks

pub octets_taken : (texts : List (Bor (List ℕ))) (n : ℕ) → n ≢ 0 → octets_behind texts n ≡ length (behind texts (n - 1)) + octets_behind texts (n - 1)
octets_taken texts zero some = absurd (some refl)
octets_taken texts (suc n) some = let e : suc n - 1 ≡ n = omega arith in rw e refl

-- a value is opened, behind which this text waits
pub opened : (texts : List (Bor (List ℕ))) (n : ℕ) (whole text inside : List ℕ) (others : Bor (List ℕ)) → n + 2 ≤ deepest → n < length texts
    → BeginsWith text inside others.now → SpeaksForWhole whole (n + 2) text (octets_behind texts n) (Lacks texts n whole)
    → SpeaksForWhole whole (n + 1 + 2) inside (octets_behind (set texts n others) (n + 1)) (Lacks (set texts n others) (n + 1) whole)
opened texts n whole text inside others deep lt b leads =
    let e : n + 1 ≡ suc n = omega arith in
    let d : n + 1 + 2 ≡ n + 2 + 1 = omega arith in
    let size = octets_last texts others n lt in
    record {
      within = omega (arith, size, leads.within, b.shorter);
      encoded = λ are.
          let on = passed whole (n + 2) text others.now (octets_behind texts n) (Lacks texts n whole) b.others_are (b.encoded (n + 2) deep (rw (← d) are)) leads in
          subst (λ (k : ℕ). Lacks (set texts n others) k whole) (sym e)
          (rw (last texts others n lt, octets_before texts others n n (omega arith))
          (deciding whole (n + 2) others.now (octets_behind texts n) (Lacks texts n whole) (Lacks (set texts n others) n whole) (lacks_before texts others n n whole (omega arith)) on));
      refused = λ rule at place p fault.
          let start = at + (length text - (length inside + length others.now)) in
          leads.refused rule start place (omega (arith, p, size, b.shorter))
          (refused_first (n + 2) text rule start (omega (arith, b.shorter)) (b.refused (n + 2) rule at start deep (omega (arith, b.shorter)) (rw (← d) fault)));
    }

-- those of a part of the texts
pub octets_of_part : (texts : List (Bor (List ℕ))) (most n : ℕ) → n ≤ most → octets_behind (take most texts) n ≡ octets_behind texts n
octets_of_part texts most zero le = refl
octets_of_part texts most (suc n) le = omega (arith, ap length (ap (λ (found : Bor (List ℕ)). found.now) (get_or-take most texts n nothing (omega arith))), octets_of_part texts most n (omega arith))

-- those of all of the first n
pub octets_of_first : (texts : List (Bor (List ℕ))) (n : ℕ) → n ≤ length texts → octets_behind (take n texts) (length (take n texts)) ≡ octets_behind texts n
octets_of_first texts n le = rw (length-take-le n texts le) (octets_of_part texts n n (omega arith))

pub octets_next : (texts : List (Bor (List ℕ))) (n : ℕ) → octets_behind texts (n + 1) ≡ length (behind texts n) + octets_behind texts n
octets_next texts n = let e : n + 1 ≡ suc n = omega arith in rw e refl

pub octets_grow : (texts : List (Bor (List ℕ))) (n most : ℕ) → n < most → length (behind texts n) + octets_behind texts n ≤ octets_behind texts most
octets_grow texts n zero lt = absurd (omega arith)
octets_grow texts n (suc most) lt = elim (cases_lt n most) [
  | inl below ↦ omega (arith, octets_grow texts n most below)
  | inr above ↦ let e : n ≡ most = omega arith in rw e (omega arith)
]
