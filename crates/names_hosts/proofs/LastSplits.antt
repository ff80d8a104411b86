-- Texts that are cut at the last octet of one value, and between two octets.
use Rattle.std.proofs.Common.{◌≡◌, ◌≢◌, ◌≤◌, ◌<◌, ◌+◌, ℕ, List, [], ◌∷◌, ◌++◌, length, take, drop, get_or, Bool, true, false, ◌==◌, Bor, Option, Some, None, refl, sym, ◌∙◌, ap, subst, inl, inr, arith}
use Rattle.std.specs.Prelude.{option_copied}
use Rattle.std.specs.Bool.{then_some}
use Rattle.std.specs.List.{All, AllPass}
use Rattle.std.proofs.lemmas.Bool.{cases_eq, eq-eqb, ne_eqb, eqb-true, both_ways}
use Rattle.std.proofs.lemmas.List.{take-append-drop, drop_more, get_or-drop, length-drop}
use Rattle.std.proofs.lemmas.List.Elements.{All-head, All-tail, All-cons, All-weaker, All-from_get_or}
use Rattle.names_hosts.specs.Splits.{IsLastSplit, split_step, last_split, end_step, before_end, between}
use Rattle.names_hosts.proofs.HostTests.{then_some_is, then_some_again}

abbrev pub Differ : ℕ → List ℕ → Type 0
Differ mark text = All (λ octet. octet ≢ mark) text

-- octets that pass a test are not one that fails it
pub differ : (p : ℕ → Bool) (mark : ℕ) (text : List ℕ) → p mark ≡ false → AllPass p text → Differ mark text
differ p mark text f all =
    All-weaker (λ octet. p octet ≡ true) (λ octet. octet ≢ mark) (λ octet t e. both_ways (p octet) (ap p e ∙ f) t) text all

same_some : {X : Type 0} (a b : X) → Some a ≡ Some b → a ≡ b
same_some a b e = cc

not_some : {X : Type 0} (a : X) → None ≡ Some a → ⊥
not_some a e = cc

no_split : (mark : ℕ) (text : List ℕ) → Differ mark text → last_split mark text ≡ None
no_split mark [] none = refl
no_split mark (octet ∷ text) none =
    let other = All-head (λ o. o ≢ mark) octet text none in
    ap (split_step mark octet text) (no_split mark text (All-tail (λ o. o ≢ mark) octet text none))
    ∙ ap (λ (b : Bool). then_some {T = List ℕ × List ℕ} b ([], text)) (ne_eqb octet mark other)

split_again : (mark : ℕ) (front behind : List ℕ) → Differ mark behind → last_split mark (front ++ mark ∷ behind) ≡ Some (front, behind)
split_again mark [] behind none =
    ap (split_step mark mark behind) (no_split mark behind none)
    ∙ ap (λ (b : Bool). then_some {T = List ℕ × List ℕ} b ([], behind)) (eq-eqb mark mark refl)
split_again mark (octet ∷ front) behind none = ap (split_step mark octet (front ++ mark ∷ behind)) (split_again mark front behind none)

pub split_is : (mark : ℕ) (text front behind : List ℕ) → IsLastSplit mark text front behind → last_split mark text ≡ Some (front, behind)
split_is mark text front behind s = ap (last_split mark) s.joined ∙ split_again mark front behind s.none

none_step : (mark octet : ℕ) (rest : List ℕ) (found : Option (List ℕ × List ℕ)) → split_step mark octet rest found ≡ None → (found ≡ None) × (octet ≢ mark)
none_step mark octet rest (Some parts) e = absurd cc
none_step mark octet rest None e =
    elim (cases_eq octet mark) [
      | inl same ↦
          let f : then_some {T = List ℕ × List ℕ} (octet == mark) ([], rest) ≡ Some ([], rest) = then_some_again (octet == mark) ([], rest) (eq-eqb octet mark same) in
          absurd (not_some {X = List ℕ × List ℕ} ([], rest) (sym e ∙ f))
      | inr other ↦ (refl, other)
    ]

no_split_from : (mark : ℕ) (text : List ℕ) → last_split mark text ≡ None → Differ mark text
no_split_from mark [] e = λ k d below. absurd (omega (arith, below))
no_split_from mark (octet ∷ rest) e =
    let s = none_step mark octet rest (last_split mark rest) e in
    All-cons (λ o. o ≢ mark) octet rest s.1 (no_split_from mark rest s.0)

split_step_from :
    (mark octet : ℕ) (rest front behind : List ℕ) (found : Option (List ℕ × List ℕ)) → last_split mark rest ≡ found →
    ((f b : List ℕ) → last_split mark rest ≡ Some (f, b) → IsLastSplit mark rest f b) →
    split_step mark octet rest found ≡ Some (front, behind) → IsLastSplit mark (octet ∷ rest) front behind
split_step_from mark octet rest front behind (Some parts) is later e =
    let s = later parts.0 parts.1 is in
    let whole : IsLastSplit mark (octet ∷ rest) (octet ∷ parts.0) parts.1 = record { joined = ap (λ (l : List ℕ). octet ∷ l) s.joined; none = s.none } in
    let same = same_some {X = List ℕ × List ℕ} (octet ∷ parts.0, parts.1) (front, behind) e in
    let same_front : octet ∷ parts.0 ≡ front = ap (λ (p : List ℕ × List ℕ). p.0) same in
    let same_behind : parts.1 ≡ behind = ap (λ (p : List ℕ × List ℕ). p.1) same in
    subst (λ (f : List ℕ). IsLastSplit mark (octet ∷ rest) f behind) same_front
    (subst (λ (b : List ℕ). IsLastSplit mark (octet ∷ rest) (octet ∷ parts.0) b) same_behind whole)
split_step_from mark octet rest front behind None is later e =
    let s = then_some_is {X = List ℕ × List ℕ} (octet == mark) ([], rest) (front, behind) e in
    let same_front : [] ≡ front = ap (λ (p : List ℕ × List ℕ). p.0) s.1 in
    let same_behind : rest ≡ behind = ap (λ (p : List ℕ × List ℕ). p.1) s.1 in
    let whole : IsLastSplit mark (octet ∷ rest) [] rest = record {
      joined = ap (λ (o : ℕ). o ∷ rest) (eqb-true octet mark s.0);
      none = no_split_from mark rest is;
    } in
    subst (λ (f : List ℕ). IsLastSplit mark (octet ∷ rest) f behind) same_front
    (subst (λ (b : List ℕ). IsLastSplit mark (octet ∷ rest) [] b) same_behind whole)

pub split_from : (mark : ℕ) (text front behind : List ℕ) → last_split mark text ≡ Some (front, behind) → IsLastSplit mark text front behind
split_from mark [] front behind e = absurd cc
split_from mark (octet ∷ rest) front behind e =
    split_step_from mark octet rest front behind (last_split mark rest) refl (λ f b is. split_from mark rest f b is) e

-- how the code cuts it
pub split_at :
    (mark : ℕ) (text : List ℕ) (at : ℕ) → at < length text → get_or text at 0 ≡ mark →
    ((k : ℕ) → at + 1 ≤ k → k < length text → get_or text k 0 ≢ mark) → last_split mark text ≡ Some (take at text, drop (at + 1) text)
split_at mark text at inside here after =
    let joined : text ≡ take at text ++ mark ∷ drop (at + 1) text =
    sym (take-append-drop at text) ∙ ap (λ (l : List ℕ). take at text ++ l) (drop_more text at 0 inside ∙ ap (λ (o : ℕ). o ∷ drop (at + 1) text) here) in
    let none : Differ mark (drop (at + 1) text) =
    All-from_get_or (λ (o : ℕ). o ≢ mark) (drop (at + 1) text) 0
    (λ k below. subst (λ (o : ℕ). o ≢ mark) (sym (get_or-drop (at + 1) text k 0)) (after (at + 1 + k) (omega arith) (omega (arith, length-drop (at + 1) text)))) in
    split_is mark text (take at text) (drop (at + 1) text) (record { joined = joined; none = none })

pub split_nowhere : (mark : ℕ) (text : List ℕ) → ((k : ℕ) → k < length text → get_or text k 0 ≢ mark) → last_split mark text ≡ None
split_nowhere mark text none = no_split mark text (All-from_get_or (λ (o : ℕ). o ≢ mark) text 0 none)

-- what stands before an octet at the end
end_then : (b : Bool) (octet : ℕ) (front : List ℕ) → end_step octet (then_some b front) ≡ then_some b (octet ∷ front)
end_then true octet front = refl
end_then false octet front = refl

before_last : (close last : ℕ) (front : List ℕ) → before_end close (front ++ last ∷ []) ≡ then_some (last == close) front
before_last close last [] = refl
before_last close last (octet ∷ []) = end_then (last == close) octet []
before_last close last (octet ∷ next ∷ front) =
    ap (end_step octet) (before_last close last (next ∷ front)) ∙ end_then (last == close) octet (next ∷ front)

pub copied_then : (b : Bool) (x : Bor (List ℕ)) → option_copied (then_some b x) ≡ then_some b x.now
copied_then true x = refl
copied_then false x = refl

pub ended :
    (close last : ℕ) (text : List ℕ) (front : Bor (List ℕ)) → text ≡ front.now ++ last ∷ [] →
    option_copied (then_some (last == close) front) ≡ before_end close text
ended close last text front e = copied_then (last == close) front ∙ sym (ap (before_end close) e ∙ before_last close last front.now)

end_again : (close : ℕ) (front : List ℕ) → before_end close (front ++ close ∷ []) ≡ Some front
end_again close front = before_last close close front ∙ then_some_again (close == close) front (eq-eqb close close refl)

end_step_is : (octet : ℕ) (found : Option (List ℕ)) (front : List ℕ) → end_step octet found ≡ Some front → (rest : List ℕ) × (found ≡ Some rest) × (octet ∷ rest ≡ front)
end_step_is octet None front e = absurd cc
end_step_is octet (Some rest) front e = (rest, refl, cc)

end_from : (close : ℕ) (text front : List ℕ) → before_end close text ≡ Some front → text ≡ front ++ close ∷ []
end_from close [] front e = absurd cc
end_from close (octet ∷ []) front e =
    let s = then_some_is {X = List ℕ} (octet == close) [] front e in
    ap (λ (o : ℕ). o ∷ []) (eqb-true octet close s.0) ∙ ap (λ (l : List ℕ). l ++ close ∷ []) s.1
end_from close (octet ∷ next ∷ rest) front e =
    let s = end_step_is octet (before_end close (next ∷ rest)) front e in
    ap (λ (l : List ℕ). octet ∷ l) (end_from close (next ∷ rest) s.0 s.1) ∙ ap (λ (l : List ℕ). l ++ close ∷ []) s.2

-- what stands between two octets
pub between_from : (start close : ℕ) (text inside : List ℕ) → between start close text ≡ Some inside → text ≡ start ∷ inside ++ close ∷ []
between_from start close [] inside e = absurd cc
between_from start close (octet ∷ rest) inside e =
    elim (cases_eq octet start) [
      | inl same ↦
          let f : before_end close rest ≡ Some inside = rw (eq-eqb octet start same) at e in
          ap (λ (o : ℕ). o ∷ rest) same ∙ ap (λ (l : List ℕ). start ∷ l) (end_from close rest inside f)
      | inr other ↦
          let f : None ≡ Some inside = rw (ne_eqb octet start other) at e in
          absurd cc
    ]

pub between_again : (start close : ℕ) (text inside : List ℕ) → text ≡ start ∷ inside ++ close ∷ [] → between start close text ≡ Some inside
between_again start close text inside e =
    ap (between start close) e ∙ rw (eq-eqb start start refl) (end_again close inside)
