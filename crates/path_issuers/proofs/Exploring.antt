-- Walks over graphs see each place once.
use Rattle.std.proofs.Common.{◌≡◌, ◌≢◌, ◌<◌, ◌+◌, ℕ, List, [], ◌∷◌, ◌++◌, Bool, true, false, not, cond, length, get_or, set, arith, ap, sym, ◌∙◌, subst, inl, inr, count_by, get_or-set_same, get_or-set_other}
use Rattle.std.specs.List.{Contains, sum_by}
use Rattle.std.proofs.lemmas.List.{length-set, length-append}
use Rattle.std.proofs.lemmas.List.Sums.{sum_by-set}
use Rattle.std.proofs.lemmas.List.Elements.{Contains-push, Contains-push_cases, Contains-append_left}
use Rattle.path_issuers.specs.declared.frontier.Frontier.{Frontier}
use Rattle.path_issuers.specs.Frontier.{Grows, GrowsBy, IsSeen, Waits}
use Rattle.path_issuers.proofs.Rising.{same_or_not}

fewer : (seen : List Bool) (place : ℕ) → place < length seen → get_or seen place false ≡ false → count_by not (set seen place true) + 1 ≡ count_by not seen
fewer seen place there unseen =
    let f = λ (b : Bool). cond (not b) 1 0 in
    let e : sum_by f (set seen place true) + f (get_or seen place false) ≡ sum_by f seen + f true = sum_by-set f seen place true false there in
    let one : f (get_or seen place false) ≡ 1 = ap f unseen in
    omega (arith, e, one)

module _ (old new : Frontier) (place : ℕ) (there : place < length old.seen.items) (unseen : get_or old.seen.items place false ≡ false)
    (seen : new.seen.items ≡ set old.seen.items place true) (waiting : new.waiting.items ≡ old.waiting.items ++ place ∷ []) where
  seen_here : (p : ℕ) → p ≡ place → IsSeen new p
  seen_here p e =
      subst (λ (xs : List Bool). get_or xs p false ≡ true) (sym seen)
      (subst (λ (n : ℕ). get_or (set old.seen.items place true) n false ≡ true) (sym e) (get_or-set_same old.seen.items place true false there))

  seen_elsewhere : (p : ℕ) → p ≢ place → get_or new.seen.items p false ≡ get_or old.seen.items p false
  seen_elsewhere p other = ap (λ (xs : List Bool). get_or xs p false) seen ∙ get_or-set_other old.seen.items place p true false other

  waits_still : (p : ℕ) → Contains (old.waiting.items ++ place ∷ []) p → Waits new p
  waits_still p h = subst (λ (xs : List ℕ). Contains xs p) (sym waiting) h

  pub grows : Grows old new
  grows = record {
    count = omega (arith, old.seen.ok.0, new.seen.ok.0, ap length seen, length-set {A = Bool} old.seen.items place true);
    kept = λ p h. elim (same_or_not p place) [ inl e ↦ seen_here p e | inr other ↦ seen_elsewhere p other ∙ h ];
    waits = λ p h. waits_still p (Contains-append_left old.waiting.items (place ∷ []) p h);
    fresh = λ p h. elim (same_or_not p place) [
      | inl e ↦ inr (subst (λ (n : ℕ). Waits new n) (sym e) (waits_still place (Contains-push old.waiting.items place)))
      | inr other ↦ inl (sym (seen_elsewhere p other) ∙ h)
    ];
    left =
        let unwaiting = fewer old.seen.items place there unseen in
        omega (arith, unwaiting, ap (λ (xs : List Bool). count_by not xs) seen, ap length waiting, length-append old.waiting.items (place ∷ []));
  }

  pub grows_by : GrowsBy (λ p. place ≡ p) old new
  grows_by = record {
    seen = λ p h. elim (same_or_not p place) [ inl e ↦ inr (sym e) | inr other ↦ inl (sym (seen_elsewhere p other) ∙ h) ];
    waits = λ p h. Contains-push_cases old.waiting.items place p (subst (λ (xs : List ℕ). Contains xs p) waiting h);
  }
