-- What a walk over a graph knows while places wait.
use Rattle.std.proofs.Common.{◌≡◌, ◌<◌, ℕ, List, [], ◌∷◌, Bool, true, false, length, get_or, arith, refl, ap, sym, ◌∙◌, subst, inl, inr, vec_len}
use Rattle.std.specs.List.{All, Contains}
use Rattle.path_issuers.specs.declared.frontier.Frontier.{Frontier}
use Rattle.path_issuers.specs.Frontier.{Grows, GrowsBy, Takes, IsDone, IsSeen, Waits}
use Rattle.path_issuers.specs.Lists.{ArePlacesByNumber, list_at}
use Rattle.path_issuers.specs.Naming.{AreWanted, LeadsBelow}
use Rattle.path_issuers.specs.Wanting.{IsIssuerOf, SeesIssuers, IsWanting}

pub grows_none : (f : Frontier) → Grows f f
grows_none f = record { count = refl; kept = λ p h. h; waits = λ p h. h; fresh = λ p h. inl h; left = refl }

pub grows_on : (a b c : Frontier) → Grows a b → Grows b c → Grows a c
grows_on a b c one other = record {
  count = other.count ∙ one.count;
  kept = λ p h. other.kept p (one.kept p h);
  waits = λ p h. other.waits p (one.waits p h);
  fresh = λ p h. elim (other.fresh p h) [
    | inl before ↦ elim (one.fresh p before) [ inl first ↦ inl first | inr waits ↦ inr (other.waits p waits) ]
    | inr waits ↦ inr waits
  ];
  left = other.left ∙ one.left;
}

pub by_none : (IsAmong : ℕ → Type 0) (f : Frontier) → GrowsBy IsAmong f f
by_none IsAmong f = record { seen = λ p h. inl h; waits = λ p h. inl h }

pub by_on : (First Second All : ℕ → Type 0) → ((p : ℕ) → First p → All p) → ((p : ℕ) → Second p → All p) → (a b c : Frontier)
    → GrowsBy First a b → GrowsBy Second b c → GrowsBy All a c
by_on First Second All first second a b c one other = record {
  seen = λ p h. elim (other.seen p h) [
    | inr new ↦ inr (second p new)
    | inl before ↦ elim (one.seen p before) [ inl old ↦ inl old | inr new ↦ inr (first p new) ]
  ];
  waits = λ p h. elim (other.waits p h) [
    | inr new ↦ inr (second p new)
    | inl before ↦ elim (one.waits p before) [ inl old ↦ inl old | inr new ↦ inr (first p new) ]
  ];
}

-- as many places as before
pub same_places : (old new : Frontier) → new.seen.items ≡ old.seen.items → vec_len new.seen ≡ vec_len old.seen
same_places old new same = omega (arith, old.seen.ok.0, new.seen.ok.0, ap length same)

pub seen_before : (old new : Frontier) (place : ℕ) → new.seen.items ≡ old.seen.items → IsSeen new place → IsSeen old place
seen_before old new place same h = subst (λ (seen : List Bool). get_or seen place false ≡ true) same h

pub seen_after : (old new : Frontier) (place : ℕ) → new.seen.items ≡ old.seen.items → IsSeen old place → IsSeen new place
seen_after old new place same h = subst (λ (seen : List Bool). get_or seen place false ≡ true) (sym same) h

module _ (subjects issuers : List ℕ) (count : ℕ) where
  pub wanting_first : (start f : Frontier) → vec_len start.seen ≡ count → ((place : ℕ) → ¬ IsSeen start place)
      → ((place : ℕ) → ¬ Waits start place) → Grows start f → GrowsBy (λ number. get_or issuers (length subjects) 0 ≡ number) start f
      → IsSeen f (get_or issuers (length subjects) 0) → IsWanting subjects issuers count f
  wanting_first start f size none idle grows by first = record {
    size = grows.count ∙ size;
    first = first;
    next = λ p there h. elim (grows.fresh (get_or subjects p 0) h) [
      | inl before ↦ absurd (none (get_or subjects p 0) before)
      | inr waits ↦ inr waits
    ];
    seen = λ n h. elim (by.seen n h) [ inl before ↦ absurd (none n before) | inr is ↦ ([], sym is) ];
    waits = λ n h. elim (by.waits n h) [ inl before ↦ absurd (idle n before) | inr is ↦ ([], sym is) ];
  }

  module _ (more : length subjects < length issuers) (below : All (λ number. number < count) issuers)
      (lists : List (List ℕ)) (places : ArePlacesByNumber subjects lists)
      (old mid new : Frontier) (number : ℕ) (was : IsWanting subjects issuers count old) (takes : Takes old mid number) (grows : Grows mid new)
      (sees : SeesIssuers issuers (list_at lists number) mid new) (by : GrowsBy (IsIssuerOf issuers (list_at lists number)) mid new) where
    -- the name of an issuer of one that has a name which leads to the target leads there too
    issuer_leads : (n : ℕ) → IsIssuerOf issuers (list_at lists number) n → LeadsBelow subjects issuers n
    issuer_leads n (place, listed, is) =
        let at = places.places number place listed in
        let below = subst (λ (m : ℕ). LeadsBelow subjects issuers m) (sym at.1) (was.waits number takes.waited) in
        (place ∷ below.0, (at.0, sym is, below.1))

    -- a place whose name is the one that waits no more
    issuer_seen : (place : ℕ) → place < length subjects → number ≡ get_or subjects place 0 → IsSeen new (get_or issuers place 0)
    issuer_seen place there same =
        let listed : Contains (list_at lists number) place = subst (λ (n : ℕ). Contains (list_at lists n) place) (sym same) (places.all place there) in
        let size = same_places old mid takes.seen in
        let small = below place 0 (omega arith) in
        sees place listed (omega (arith, size, small, was.size))

    pub wanting_next : IsWanting subjects issuers count new
    wanting_next = record {
      size = grows.count ∙ (same_places old mid takes.seen ∙ was.size);
      first = grows.kept _ (seen_after old mid _ takes.seen was.first);
      next = λ p there h. elim (grows.fresh (get_or subjects p 0) h) [
        | inr waits ↦ inr waits
        | inl before ↦ elim (was.next p there (seen_before old mid (get_or subjects p 0) takes.seen before)) [
          | inl seen ↦ inl (grows.kept (get_or issuers p 0) (seen_after old mid (get_or issuers p 0) takes.seen seen))
          | inr waited ↦ elim (takes.rest (get_or subjects p 0) waited) [
            | inl waits ↦ inr (grows.waits (get_or subjects p 0) waits)
            | inr same ↦ inl (issuer_seen p there same)
          ]
        ]
      ];
      seen = λ n h. elim (by.seen n h) [
        | inl before ↦ was.seen n (seen_before old mid n takes.seen before)
        | inr new ↦ issuer_leads n new
      ];
      waits = λ n h. elim (by.waits n h) [
        | inl before ↦ was.waits n (takes.others n before)
        | inr new ↦ issuer_leads n new
      ];
    }

  pub wanting_done : (old new : Frontier) → IsWanting subjects issuers count old → IsDone old new → AreWanted subjects issuers new.seen.items
  wanting_done old new was done = record {
    first = seen_after old new (get_or issuers (length subjects) 0) done.seen was.first;
    next = λ p there h. elim (was.next p there (seen_before old new (get_or subjects p 0) done.seen h)) [
      | inl seen ↦ seen_after old new (get_or issuers p 0) done.seen seen
      | inr waits ↦ absurd (done.none (get_or subjects p 0) waits)
    ];
    only = λ n h. was.seen n (seen_before old new n done.seen h);
  }
