-- The numbers of dotted texts.
use Rattle.std.proofs.Common.{◌≡◌, ◌≢◌, ◌<◌, ◌≤◌, ◌+◌, ◌-◌, ◌*◌, ◌++◌, ◌∙◌, ℕ, zero, suc, List, [], ◌∷◌, Option, Some, None, Result, Ok, Err, IfOk, IfNone, length, take, drop, map, get_or, decimal, sym, ap, subst, arith, slice_index}
use Rattle.std.specs.List.{All, flat_map}
use Rattle.std.proofs.lemmas.List.{get_or-map, length-drop, length-map, take_all}
use Rattle.cli_operands.specs.Purpose.{AreOidNumbers, IsDotted, NamesPurpose, IsServedArc, MayBegin, contents_of_arcs, subidentifier_octets}
use Rattle.cli_operands.proofs.Decimals.{same_decimals}

-- a part that is no number: the text is no dotted decimal
pub no_arcs : (parts : List (List ℕ)) (k : ℕ) (part : List ℕ) → (k < length parts) × (part ≡ get_or parts k part) → ((arc : ℕ) → IsServedArc arc → part ≢ decimal arc)
    → (arcs : List ℕ) → All IsServedArc arcs → parts ≡ map decimal arcs → ⊥
no_arcs parts k part at none arcs served is =
    let long : length parts ≡ length arcs = ap length is ∙ length-map arcs decimal in
    let less : k < length arcs = omega (arith, at.0, long) in
    let there : get_or parts k part ≡ decimal (get_or arcs k 0) = ap (λ (ps : List (List ℕ)). get_or ps k part) is ∙ get_or-map decimal arcs k 0 part less in
    none (get_or arcs k 0) (served k 0 less) (at.1 ∙ there)

-- all numbers of an OBJECT IDENTIFIER have 63 bits
pub arcs_are_served : (arcs : List ℕ) → AreOidNumbers arcs → All IsServedArc arcs
arcs_are_served [] are = absurd are
arcs_are_served (first ∷ []) are = absurd are
arcs_are_served (first ∷ second ∷ others) are = λ k d less. each k d less
  where
    each : (k d : ℕ) → k < length (first ∷ second ∷ others) → IsServedArc (get_or (first ∷ second ∷ others) k d)
    each zero d less = omega (arith, are.0.root)
    each (suc zero) d less = omega (arith, are.0.served)
    each (suc (suc k)) d less = are.1 k d (omega (arith, less))

-- numbers with which no OBJECT IDENTIFIER has a text
pub no_purpose : (text arcs : List ℕ) → All IsServedArc arcs → IsDotted text arcs → (AreOidNumbers arcs → ⊥) → (contents : List ℕ) → NamesPurpose text contents → ⊥
no_purpose text arcs served dotted none contents is =
    none (subst AreOidNumbers (same_decimals is.arcs arcs (arcs_are_served is.arcs is.are) served (sym is.dotted ∙ dotted)) is.are)

-- fewer than two
pub few : (arcs : List ℕ) → length arcs < 2 → AreOidNumbers arcs → ⊥
few [] short are = are
few (first ∷ []) short are = are
few (first ∷ second ∷ others) short are = absurd (omega (arith, short))

-- what the code makes of two numbers and those behind them
pub arcs_by : (arcs others contents : List ℕ) (number : ℕ) → 2 ≤ length arcs → All IsServedArc arcs → others ≡ drop 2 arcs
    → MayBegin (slice_index arcs 0) (slice_index arcs 1) × (number ≡ slice_index arcs 0 * 40 + slice_index arcs 1)
    → contents ≡ subidentifier_octets number ++ flat_map subidentifier_octets others → AreOidNumbers arcs × (contents ≡ contents_of_arcs arcs)
arcs_by [] others contents number long served behind begin is = absurd (omega (arith, long))
arcs_by (first ∷ []) others contents number long served behind begin is = absurd (omega (arith, long))
arcs_by (first ∷ second ∷ more) others contents number long served behind begin is = (
  (begin.0, λ k d less. served (suc (suc k)) d (omega (arith, less))),
  is ∙ ap (λ (n : ℕ). subidentifier_octets n ++ flat_map subidentifier_octets others) begin.1
      ∙ ap (λ (xs : List ℕ). subidentifier_octets (first * 40 + second) ++ flat_map subidentifier_octets xs) behind,
)

pub behind_two : (arcs : List ℕ) → take (length arcs - 2) (drop 2 arcs) ≡ drop 2 arcs
behind_two arcs = take_all (length arcs - 2) (drop 2 arcs) (omega (arith, length-drop 2 arcs))

-- what an answer of nothing says
pub none_as : {T E P Q : Type 0} (r : Result (Option T) E) → (P → Q) → IfOk r (λ found. IfNone found P) → IfOk r (λ found. IfNone found Q)
none_as (Ok None) f none = f none
none_as (Ok (Some x)) f none = none
none_as (Err e) f none = none
