-- Conditions in the order of the ranks of their reasons, and the first that is not met.
use Rattle.std.proofs.Common.{◌≡◌, ◌↔◌, ◌+◌, ◌<◌, ◌≤◌, ℕ, ℤ, List, [], ◌∷◌, Option, Some, None, MatchOption, length, get_or, arith, refl, ap, sym, ◌∙◌, subst, inl, inr, zero, suc}
use Rattle.std.proofs.lemmas.Bool.{cases_order}
use Rattle.cert.specs.Certificate.{Certificate}
use Rattle.path.specs.declared.options.Options.{Options}
use Rattle.path.specs.declared.reason.Reason.{Reason}
use Rattle.path.specs.declared.reason.Reason.TheVariants.{Repeated, Signature, NotYet, Expired, Issuer, NotPermitted, Excluded, ConstraintForm, NotCa, PathLength, KeyCertSign, Policy, CriticalUnknown, Purpose, Empty, TooLong, NoValidPolicy, AnyPolicyMapped, NoUserPolicy}
use Rattle.path.specs.Reason.{reason_rank}
use Rattle.path_search.specs.WhyNot.{IsFirstUnmet, MeetsAbove, MeetsEach}

abbrev pub by_rank : List Reason
by_rank = Repeated ∷ Signature ∷ NotYet ∷ Expired ∷ Issuer ∷ NotPermitted ∷ Excluded ∷ ConstraintForm ∷ NotCa ∷ PathLength ∷ KeyCertSign ∷ Policy ∷ CriticalUnknown ∷ Purpose ∷ Empty ∷ TooLong ∷ NoValidPolicy ∷ AnyPolicyMapped ∷ NoUserPolicy ∷ []

reasons : List Reason
reasons = Empty ∷ by_rank

of_rank_is : (s : Reason) → get_or reasons (reason_rank s) Empty ≡ s
unfolding reasons
of_rank_is Repeated = refl
of_rank_is Signature = refl
of_rank_is NotYet = refl
of_rank_is Expired = refl
of_rank_is Issuer = refl
of_rank_is NotPermitted = refl
of_rank_is Excluded = refl
of_rank_is ConstraintForm = refl
of_rank_is NotCa = refl
of_rank_is PathLength = refl
of_rank_is KeyCertSign = refl
of_rank_is Policy = refl
of_rank_is CriticalUnknown = refl
of_rank_is Purpose = refl
of_rank_is Empty = refl
of_rank_is TooLong = refl
of_rank_is NoValidPolicy = refl
of_rank_is AnyPolicyMapped = refl
of_rank_is NoUserPolicy = refl

same_rank : (s t : Reason) → reason_rank s ≡ reason_rank t → s ≡ t
same_rank s t e = sym (of_rank_is s) ∙ (ap (λ n. get_or reasons n Empty) e ∙ of_rank_is t)

abbrev IsRank : ℕ → Type 0
IsRank n = (1 ≤ n) × (n ≤ 19)

rank_within : (s : Reason) → IsRank (reason_rank s)
rank_within Repeated = (omega arith, omega arith)
rank_within Signature = (omega arith, omega arith)
rank_within NotYet = (omega arith, omega arith)
rank_within Expired = (omega arith, omega arith)
rank_within Issuer = (omega arith, omega arith)
rank_within NotPermitted = (omega arith, omega arith)
rank_within Excluded = (omega arith, omega arith)
rank_within ConstraintForm = (omega arith, omega arith)
rank_within NotCa = (omega arith, omega arith)
rank_within PathLength = (omega arith, omega arith)
rank_within KeyCertSign = (omega arith, omega arith)
rank_within Policy = (omega arith, omega arith)
rank_within CriticalUnknown = (omega arith, omega arith)
rank_within Purpose = (omega arith, omega arith)
rank_within Empty = (omega arith, omega arith)
rank_within TooLong = (omega arith, omega arith)
rank_within NoValidPolicy = (omega arith, omega arith)
rank_within AnyPolicyMapped = (omega arith, omega arith)
rank_within NoUserPolicy = (omega arith, omega arith)

-- reasons in the order of their ranks
abbrev Ascend : ℕ → List Reason → Type 0
Ascend n [] = Unit {0}
Ascend n (r ∷ rs) = (reason_rank r ≡ n) × Ascend (n + 1) rs

rank_at : (n : ℕ) (rs : List Reason) (i : ℕ) (d : Reason) → Ascend n rs → i < length rs → reason_rank (get_or rs i d) ≡ n + i
rank_at n [] i d up h = absurd (omega arith)
rank_at n (r ∷ rs) zero d up h = omega (arith, up.0)
rank_at n (r ∷ rs) (suc i) d up h = omega (arith, rank_at (n + 1) rs i d up.1 (omega arith))

pub rank_by_rank : (i : ℕ) → i < 19 → reason_rank (get_or by_rank i Repeated) ≡ i + 1
rank_by_rank i h =
    let up : Ascend 1 by_rank = (refl, (refl, (refl, (refl, (refl, (refl, (refl, (refl, (refl, (refl, (refl, (refl, (refl, (refl, (refl, (refl, (refl, (refl, (refl, tt))))))))))))))))))) in
    omega (arith, rank_at 1 by_rank i Repeated up h)

module _ (Meets : Reason → Type 0) where
  -- the conditions of the ranks below n are met
  abbrev pub MeetsBelow : ℕ → Type 0
  MeetsBelow n = (s : Reason) → reason_rank s < n → Meets s

  pub meets_none : MeetsBelow 1
  meets_none s h = let low = (rank_within s).0 in absurd (omega arith)

  pub meets_more : (n : ℕ) (r : Reason) → reason_rank r ≡ n → MeetsBelow n → Meets r → MeetsBelow (n + 1)
  meets_more n r e before here s h =
      elim (cases_order (reason_rank s) n) [
        | inl same ↦ subst Meets (sym (same_rank s r (same ∙ sym e))) here
        | inr o ↦ elim o [ inl below ↦ before s below | inr above ↦ absurd (omega arith) ]
      ]

  pub meets_all : MeetsBelow 20 → MeetsEach Meets
  meets_all below s = below s (let high = (rank_within s).1 in omega arith)

-- the same of conditions that are as strong

pub first_of : (Meets Others : Reason → Type 0) → ((r : Reason) → Meets r → Others r) → ((r : Reason) → Others r → Meets r) → (r : Reason)
    → IsFirstUnmet Meets r → IsFirstUnmet Others r
first_of Meets Others to from r first = record { broken = λ met. first.broken (from r met); lesser = λ other less. to other (first.lesser other less) }

module _ (options : Options) (A B : Type 0) (f : A → B) (moment : ℤ) (c : Certificate) (below : List Certificate) where
  pub meets_by : (r : Reason) → MeetsAbove options A moment c below r → MeetsAbove options B moment c below r
  meets_by Repeated met = met
  meets_by Signature met = f met
  meets_by NotYet met = met
  meets_by Expired met = met
  meets_by Issuer met = met
  meets_by NotPermitted met = met
  meets_by Excluded met = met
  meets_by ConstraintForm met = met
  meets_by NotCa met = met
  meets_by PathLength met = met
  meets_by KeyCertSign met = met
  meets_by Policy met = met
  meets_by CriticalUnknown met = met
  meets_by Purpose met = met
  meets_by Empty met = met
  meets_by TooLong met = met
  meets_by NoValidPolicy met = met
  meets_by AnyPolicyMapped met = met
  meets_by NoUserPolicy met = met

-- the first one by the answers to a question that is as strong
pub unmet_by : (options : Options) (A B : Type 0) → A ↔ B → (moment : ℤ) (c : Certificate) (below : List Certificate) (unmet : Option Reason)
    → MatchOption unmet (MeetsEach (MeetsAbove options A moment c below)) (IsFirstUnmet (MeetsAbove options A moment c below))
    → MatchOption unmet (MeetsEach (MeetsAbove options B moment c below)) (IsFirstUnmet (MeetsAbove options B moment c below))
unmet_by options A B f moment c below None all = λ r. meets_by options A B f.0 moment c below r (all r)
unmet_by options A B f moment c below (Some r) first =
    first_of (MeetsAbove options A moment c below) (MeetsAbove options B moment c below) (meets_by options A B f.0 moment c below) (meets_by options B A f.1 moment c below) r first
