-- The counter of a state: how many more certificates may follow that are not self-issued.
use Rattle.std.proofs.Common.{◌≡◌, ℕ, ◌+◌, ◌-◌, ◌<◌, ◌≤◌, [], ◌∷◌, ◌++◌, Bool, true, false, not, cond, count_by, length, take, drop, get_or, arith, refl, ap, subst, ◌∙◌, sym, inl, inr, length-take, add-one, min, Option, None, Some}
use Rattle.std.proofs.lemmas.Bool.{cases_Bool, cases_order, cases_eq, cases_lt}
use Rattle.std.proofs.lemmas.List.{take_more, drop-append-le}
use Rattle.std.proofs.Math.ListN.{drop_of_length-le}
use Rattle.std.proofs.Math.Nat.{min-le_left, min-le_right}
use Rattle.std.proofs.lemmas.List.Sums.{sum_by-append}
use Rattle.cert.specs.Certificate.{Certificate, is_self_issued}
use Rattle.path.specs.Query.{Query, count, certificate_numbered}
use Rattle.path.specs.Conditions.{others_between, IsWithinPathLength}
use Rattle.path_conditions.specs.CertificateConditions.{path_length_of}
use Rattle.path.specs.Keeping.{spent, lesser, RoomIs, IsRoom}

none_some : (n : ℕ) → ◌≡◌ {A = Option ℕ} None (Some n) → ⊥
none_some n e = cc

some_same : (p n : ℕ) → ◌≡◌ {A = Option ℕ} (Some p) (Some n) → p ≡ n
some_same p n e = cc

-- what holds up to k and at k + 1 holds up to k + 1
pub split_last : (P : ℕ → Type 0) (k : ℕ) → ((i : ℕ) → 1 ≤ i → i ≤ k → P i) → P (k + 1) → (i : ℕ) → 1 ≤ i → i ≤ k + 1 → P i
split_last P k f last i l h =
    elim (cases_order i (k + 1)) [ inl e ↦ subst P (sym e) last | inr r ↦ elim r [ inl b ↦ f i l (omega arith) | inr a ↦ absurd (omega arith) ] ]

pub at_more : (q : Query) (k : ℕ) → certificate_numbered q (k + 1) ≡ get_or q.certificates k q.anchor
at_more q k = rw add-one refl

abbrev pub is_other : Certificate → Bool
is_other c = not (is_self_issued c)

count_one : (c : Certificate) → count_by is_other (c ∷ []) ≡ cond (is_other c) 1 0
count_one c = omega arith

between_list : (q : Query) (i k : ℕ) → i ≤ k → k < count q → drop i (take (k + 1) q.certificates) ≡ drop i (take k q.certificates) ++ certificate_numbered q (k + 1) ∷ []
between_list q i k le h =
    let more = take_more q.certificates k q.anchor h in
    let len = length-take k q.certificates in
    let room : i ≤ length (take k q.certificates) = omega arith in
    rw (more, at_more) (drop-append-le i (take k q.certificates) (get_or q.certificates k q.anchor ∷ []) room)

others_more : (q : Query) (i k : ℕ) → i ≤ k → k < count q → others_between q i (k + 1) ≡ others_between q i k + cond (is_other (certificate_numbered q (k + 1))) 1 0
others_more q i k le h =
    rw (between_list q i k le h) (sum_by-append (λ c. cond (is_other c) 1 0) (drop i (take k q.certificates)) (certificate_numbered q (k + 1) ∷ []) ∙ ap (λ n. others_between q i k + n) (count_one (certificate_numbered q (k + 1))))

others_none : (q : Query) (k : ℕ) → others_between q k k ≡ 0
others_none q k =
    let len = length-take k q.certificates in
    let past : length (take k q.certificates) ≤ k = omega arith in
    let none = drop_of_length-le (take k q.certificates) past in
    rw none refl

room_self : (q : Query) (k room : ℕ) → k < count q → IsRoom q k k room → is_self_issued (certificate_numbered q (k + 1)) ≡ true → IsRoom q k (k + 1) room
room_self q k room h is e =
    let zero' : ◌≡◌ {A = ℕ} (cond (is_other (certificate_numbered q (k + 1))) 1 0) 0 = rw e refl in
    let a = is.attained in
    record {
      within = λ i p l le lim. omega (arith, others_more q i k le h, is.within i p l le lim, zero');
      attained = (a.0, a.1, a.2, a.3, a.4, omega (arith, others_more q a.0 k a.3 h, a.5, zero'));
    }

room_other : (q : Query) (k room : ℕ) → k < count q → IsRoom q k k room → is_self_issued (certificate_numbered q (k + 1)) ≡ false → (room ≡ 0 → ⊥) → IsRoom q k (k + 1) (room - 1)
room_other q k room h is e ne =
    let one : ◌≡◌ {A = ℕ} (cond (is_other (certificate_numbered q (k + 1))) 1 0) 1 = rw e refl in
    let a = is.attained in
    let pos : 1 ≤ room = elim (cases_eq room 0) [ inl z ↦ absurd (ne z) | inr z ↦ omega arith ] in
    record {
      within = λ i p l le lim. omega (arith, others_more q i k le h, is.within i p l le lim, one);
      attained = (a.0, a.1, a.2, a.3, a.4, omega (arith, others_more q a.0 k a.3 h, a.5, one));
    }

-- the room behind certificate k + 1, without its own path length
pub room_spent : (q : Query) (k : ℕ) (room : Option ℕ) → k < count q → RoomIs q k k room → (is_self_issued (certificate_numbered q (k + 1)) ≡ false → room ≡ Some 0 → ⊥) → RoomIs q k (k + 1) (spent room (is_self_issued (certificate_numbered q (k + 1))))
room_spent q k None h is left = is
room_spent q k (Some room) h is left =
    elim (cases_Bool (is_self_issued (certificate_numbered q (k + 1)))) [
      | inl e ↦ rw e (room_self q k room h is e)
      | inr e ↦ rw e (room_other q k room h is e (λ z. left e (ap (λ n. Some n) z)))
    ]

room_lesser_at : (q : Query) (k : ℕ) (room limit : Option ℕ) → path_length_of (certificate_numbered q (k + 1)) ≡ limit → RoomIs q k (k + 1) room → RoomIs q (k + 1) (k + 1) (lesser room limit)
room_lesser_at q k None None e is = split_last (λ i. path_length_of (certificate_numbered q i) ≡ None) k is e
room_lesser_at q k (Some room) None e is =
    let a = is.attained in
    record {
      within = λ i p l le lim. split_last (λ j. (n : ℕ) → path_length_of (certificate_numbered q j) ≡ Some n → room + others_between q j (k + 1) ≤ n) k
          (λ j lj ej n. is.within j n lj ej) (λ n m. absurd (none_some n (sym e ∙ m))) i l le p lim;
      attained = (a.0, a.1, a.2, omega (arith, a.3), a.4, a.5);
    }
room_lesser_at q k None (Some p) e is =
    let none = others_none q (k + 1) in
    record {
      within = λ i m l le lim. split_last (λ j. (n : ℕ) → path_length_of (certificate_numbered q j) ≡ Some n → p + others_between q j (k + 1) ≤ n) k
          (λ j lj ej n c. absurd (none_some n (sym (is j lj ej) ∙ c))) (λ n c. let same = some_same p n (sym e ∙ c) in omega arith) i l le m lim;
      attained = (k + 1, p, omega arith, omega arith, e, omega arith);
    }
room_lesser_at q k (Some room) (Some p) e is =
    let none = others_none q (k + 1) in
    let a = is.attained in
    let left = min-le_left room p in
    let right = min-le_right room p in
    record {
      within = λ i m l le lim. split_last (λ j. (n : ℕ) → path_length_of (certificate_numbered q j) ≡ Some n → min room p + others_between q j (k + 1) ≤ n) k
          (λ j lj ej n c. omega (arith, is.within j n lj ej c)) (λ n c. let same = some_same p n (sym e ∙ c) in omega arith) i l le m lim;
      attained = elim (cases_lt p room) [
        | inl below ↦ (k + 1, p, omega arith, omega arith, e, omega arith)
        | inr above ↦ (a.0, a.1, a.2, omega (arith, a.3), a.4, omega (arith, a.5))
      ];
    }

-- the room under the path length of certificate k + 1
pub room_lesser : (q : Query) (k : ℕ) (room : Option ℕ) → RoomIs q k (k + 1) room → RoomIs q (k + 1) (k + 1) (lesser room (path_length_of (certificate_numbered q (k + 1))))
room_lesser q k room is = room_lesser_at q k room (path_length_of (certificate_numbered q (k + 1))) refl is

no_room : (q : Query) (k room : ℕ) → k < count q → IsRoom q k k room → IsWithinPathLength q (k + 1) → is_self_issued (certificate_numbered q (k + 1)) ≡ false → room ≡ 0 → ⊥
no_room q k room h is ok e z =
    let one : ◌≡◌ {A = ℕ} (cond (is_other (certificate_numbered q (k + 1))) 1 0) 1 = rw e refl in
    let a = is.attained in
    let bound = ok a.0 a.1 a.2 (omega (arith, a.3)) a.4 in
    absurd (omega (arith, others_more q a.0 k a.3 h, a.5, one))

pub room_left : (q : Query) (k : ℕ) (room : Option ℕ) → k < count q → RoomIs q k k room → IsWithinPathLength q (k + 1) → is_self_issued (certificate_numbered q (k + 1)) ≡ false → room ≡ Some 0 → ⊥
room_left q k None h is ok e z = cc
room_left q k (Some room) h is ok e z = no_room q k room h is ok e (some_same room 0 z)

more_room : (q : Query) (k room : ℕ) → k < count q → IsRoom q k k room → (is_self_issued (certificate_numbered q (k + 1)) ≡ false → room ≡ 0 → ⊥) → IsWithinPathLength q (k + 1)
more_room q k room h is left i p l le lim =
    let more = others_more q i k (omega arith) h in
    let bound = is.within i p l (omega arith) lim in
    elim (cases_Bool (is_self_issued (certificate_numbered q (k + 1)))) [
      | inl e ↦ (let zero' : ◌≡◌ {A = ℕ} (cond (is_other (certificate_numbered q (k + 1))) 1 0) 0 = rw e refl in omega arith)
      | inr e ↦ (let one : ◌≡◌ {A = ℕ} (cond (is_other (certificate_numbered q (k + 1))) 1 0) 1 = rw e refl in
          elim (cases_eq room 0) [ inl z ↦ absurd (left e z) | inr z ↦ omega arith ])
    ]

pub room_allows : (q : Query) (k : ℕ) (room : Option ℕ) → k < count q → RoomIs q k k room → (is_self_issued (certificate_numbered q (k + 1)) ≡ false → room ≡ Some 0 → ⊥) → IsWithinPathLength q (k + 1)
room_allows q k None h is left = λ i p l le lim. absurd (none_some p (sym (is i l (omega arith)) ∙ lim))
room_allows q k (Some room) h is left = more_room q k room h is (λ e z. left e (ap (λ n. Some n) z))
