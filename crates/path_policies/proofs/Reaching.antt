-- A counter is no more than a number exactly where an earlier certificate has brought it there.
use Rattle.std.proofs.Common.{◌≡◌, ℕ, ◌+◌, ◌-◌, ◌<◌, ◌≤◌, zero, suc, [], ◌∷◌, ◌++◌, Bool, true, false, not, cond, ◌||◌, count_by, length, take, drop, get_or, arith, refl, ap, subst, ◌∙◌, sym, inl, inr, ◌⊎◌, ⊎_elim, length-take, add-one, Option, None, Some, nat_le}
use Rattle.std.specs.Bool.{Decides}
use Rattle.std.proofs.lemmas.Bool.{cases_lt, false≢true}
use Rattle.std.proofs.lemmas.Bool.Decides.{leb_tells}
use Rattle.std.proofs.lemmas.List.{take_more, drop-append-le}
use Rattle.std.proofs.Math.ListN.{drop_of_length-le}
use Rattle.std.proofs.lemmas.List.Sums.{sum_by-append}
use Rattle.cert_policies.specs.PolicyExtensions.{PolicyExtensions}
use Rattle.path_policies.specs.Query.{PolicyCertificate, PolicyQuery, says_nothing, certificate_numbered, count}
use Rattle.path_policies.specs.Counters.{RunsOut, others_between}
use Rattle.path_policies.specs.Steps.{left_behind, lesser, counted, is_within}
use Rattle.path_policies.proofs.Counting.{left_next}

abbrev is_other : PolicyCertificate → Bool
is_other c = not c.self_issued

abbrev other_at : PolicyQuery → ℕ → ℕ
other_at q j = cond (is_other (certificate_numbered q j)) 1 0

at_more : (q : PolicyQuery) (k : ℕ) → certificate_numbered q (k + 1) ≡ get_or q.certificates k says_nothing
at_more q k = rw add-one refl

count_one : (c : PolicyCertificate) → count_by is_other (c ∷ []) ≡ cond (is_other c) 1 0
count_one c = omega arith

-- others_between looks at the certificates before j
one_less : (k : ℕ) → (k + 2) - 1 ≡ k + 1
one_less k = omega arith

same_less : (k : ℕ) → (k + 1) - 1 ≡ k
same_less k = omega arith

between_list : (q : PolicyQuery) (i k : ℕ) → i ≤ k → k < count q → drop i (take (k + 1) q.certificates) ≡ drop i (take k q.certificates) ++ certificate_numbered q (k + 1) ∷ []
between_list q i k le h =
    let more = take_more q.certificates k says_nothing h in
    let len = length-take k q.certificates in
    let room : i ≤ length (take k q.certificates) = omega arith in
    rw (more, at_more q k) (drop-append-le i (take k q.certificates) (get_or q.certificates k says_nothing ∷ []) room)

others_more : (q : PolicyQuery) (i k : ℕ) → i ≤ k → k < count q → others_between q i (k + 2) ≡ others_between q i (k + 1) + other_at q (k + 1)
others_more q i k le h =
    rw (one_less k, same_less k, between_list q i k le h)
    (sum_by-append (λ c. cond (is_other c) 1 0) (drop i (take k q.certificates)) (certificate_numbered q (k + 1) ∷ [])
    ∙ ap (λ n. count_by is_other (drop i (take k q.certificates)) + n) (count_one (certificate_numbered q (k + 1))))

others_none : (q : PolicyQuery) (k : ℕ) → others_between q (k + 1) (k + 2) ≡ 0
others_none q k =
    let len = length-take (k + 1) q.certificates in
    let past : length (take (k + 1) q.certificates) ≤ k + 1 = omega arith in
    let none = drop_of_length-le (take (k + 1) q.certificates) past in
    rw (one_less k, none) refl

-- the tests

within_lesser : (left number : Option ℕ) (most : ℕ) → is_within (lesser left number) most ≡ (is_within left most || is_within number most)
within_lesser None None most = refl
within_lesser None (Some number) most = refl
within_lesser (Some left) None most = or_false (nat_le left most) where
  or_false : (b : Bool) → b ≡ (b || false)
  or_false true = refl
  or_false false = refl
within_lesser (Some left) (Some number) most = grind (arith, leb_tells)

within_counted : (left : Option ℕ) (self_issued : Bool) (most : ℕ) → is_within (counted left self_issued) most ≡ is_within left (most + cond (not self_issued) 1 0)
within_counted None self_issued most = refl
within_counted (Some left) true most = ap (nat_le left) (omega arith)
within_counted (Some left) false most = grind (arith, leb_tells)

within_none : (number : Option ℕ) (most : ℕ) → number ≡ None → is_within number most ≡ true → ⊥
within_none number most none is = absurd (false≢true (ap (λ n. is_within n most) (sym none) ∙ is))

pub within_number : (number : Option ℕ) (most : ℕ) → is_within number most ≡ true → (n : ℕ) × (number ≡ Some n) × (n ≤ most)
within_number None most is = absurd (false≢true is)
within_number (Some n) most is = (n, refl, grind (arith, leb_tells))

pub number_within : (number : Option ℕ) (n most : ℕ) → number ≡ Some n → n ≤ most → is_within number most ≡ true
number_within number n most is le = rw is (grind (arith, leb_tells))

pub or_cases : (a b : Bool) → (a || b) ≡ true → (a ≡ true) ⊎ (b ≡ true)
or_cases true b is = inl refl
or_cases false b is = inr is

pub or_left : (a b : Bool) → a ≡ true → (a || b) ≡ true
or_left a b is = rw is refl

pub or_right : (a b : Bool) → b ≡ true → (a || b) ≡ true
or_right true b is = refl
or_right false b is = is

-- one certificate more
module _ (says : PolicyExtensions → Option ℕ) (q : PolicyQuery) where
  none_first : (most : ℕ) → RunsOut says q 1 most → ⊥
  none_first most runs = let from = runs.from in let before = runs.before in absurd (omega arith)

  earlier : (k most : ℕ) → k < count q → RunsOut says q (k + 1) (most + other_at q (k + 1)) → RunsOut says q (k + 2) most
  earlier k most below runs = record {
    i = runs.i;
    number = runs.number;
    from = runs.from;
    before = (let before = runs.before in omega arith);
    says_is = runs.says_is;
    reached = (let before = runs.before in let reached = runs.reached in let more = others_more q runs.i k (omega arith) below in omega arith);
  }

  here : (k most number : ℕ) → says (certificate_numbered q (k + 1)).extensions ≡ Some number → number ≤ most → RunsOut says q (k + 2) most
  here k most number is le = record {
    i = k + 1;
    number = number;
    from = omega arith;
    before = omega arith;
    says_is = is;
    reached = (let none = others_none q k in omega arith);
  }

  split : (k most : ℕ) → k < count q → RunsOut says q (k + 2) most
      → RunsOut says q (k + 1) (most + other_at q (k + 1)) ⊎ (is_within (says (certificate_numbered q (k + 1)).extensions) most ≡ true)
  split k most below runs = ⊎_elim old new (cases_lt runs.i (k + 1)) where
    old : runs.i < k + 1 → RunsOut says q (k + 1) (most + other_at q (k + 1)) ⊎ (is_within (says (certificate_numbered q (k + 1)).extensions) most ≡ true)
    old less = inl (record {
      i = runs.i;
      number = runs.number;
      from = runs.from;
      before = less;
      says_is = runs.says_is;
      reached = (let reached = runs.reached in let more = others_more q runs.i k (omega arith) below in omega arith);
    })

    new : k + 1 ≤ runs.i → RunsOut says q (k + 1) (most + other_at q (k + 1)) ⊎ (is_within (says (certificate_numbered q (k + 1)).extensions) most ≡ true)
    new more =
        let before = runs.before in
        let is : runs.i ≡ k + 1 = omega arith in
        let none = ap (λ (i : ℕ). others_between q i (k + 2)) is ∙ others_none q k in
        let reached = runs.reached in
        inr (number_within (says (certificate_numbered q (k + 1)).extensions) runs.number most
        (ap (λ (i : ℕ). says (certificate_numbered q i).extensions) (sym is) ∙ runs.says_is) (omega arith))

  within_next : (k most : ℕ) → is_within (left_behind says q (k + 1)) most
      ≡ (is_within (left_behind says q k) (most + other_at q (k + 1)) || is_within (says (certificate_numbered q (k + 1)).extensions) most)
  within_next k most =
      ap (λ left. is_within left most) (left_next says q k)
      ∙ within_lesser (counted (left_behind says q k) (certificate_numbered q (k + 1)).self_issued) (says (certificate_numbered q (k + 1)).extensions) most
      ∙ ap (λ b. b || is_within (says (certificate_numbered q (k + 1)).extensions) most) (within_counted (left_behind says q k) (certificate_numbered q (k + 1)).self_issued most)

  two : (k : ℕ) → k + 1 + 1 ≡ k + 2
  two k = omega arith

  more : (k most : ℕ) → k < count q → Decides (is_within (left_behind says q k) (most + other_at q (k + 1))) (RunsOut says q (k + 1) (most + other_at q (k + 1)))
      → Decides (is_within (left_behind says q (k + 1)) most) (RunsOut says q (k + 1 + 1) most)
  more k most below before = rw (two k) (to, from) where
    before_within : Bool
    before_within = is_within (left_behind says q k) (most + other_at q (k + 1))

    here_within : Bool
    here_within = is_within (says (certificate_numbered q (k + 1)).extensions) most

    to : is_within (left_behind says q (k + 1)) most ≡ true → RunsOut says q (k + 2) most
    to is = ⊎_elim (λ old. earlier k most below (before.0 old)) (λ new. let n = within_number (says (certificate_numbered q (k + 1)).extensions) most new in here k most n.0 n.1 n.2)
        (or_cases before_within here_within (sym (within_next k most) ∙ is))

    from : RunsOut says q (k + 2) most → is_within (left_behind says q (k + 1)) most ≡ true
    from runs = within_next k most
        ∙ ⊎_elim (λ old. or_left before_within here_within (before.1 old)) (λ new. or_right before_within here_within new) (split k most below runs)

  pub left_decides : (k most : ℕ) → k ≤ count q → Decides (is_within (left_behind says q k) most) (RunsOut says q (k + 1) most)
  left_decides zero most le = ((λ is. absurd (false≢true is)), (λ runs. absurd (none_first most runs)))
  left_decides (suc k) most le =
      let next : k + 1 ≡ suc k = omega arith in
      let below : k < count q = omega arith in
      subst (λ n. Decides (is_within (left_behind says q n) most) (RunsOut says q (n + 1) most)) next
      (more k most below (left_decides k (most + other_at q (k + 1)) (omega arith)))
