-- Why no path to a target is found: the target cannot stand at the end of one, or its paths end somewhere, and nobody at hand can stand above.
use Rattle.std.specs.Prelude.{◌↔◌, ◌⊎◌, ◌<◌, ℕ, ℤ, List, [], ◌∷◌, ◌++◌, Option, Some, None, Contains, MatchOption, length, map, slice_index_or}
use Rattle.std.specs.List.{All}
use Rattle.std.specs.List.Sorted.{IsStrictlyIncreasing}
use Rattle.cert.specs.Certificate.{Certificate}
use Rattle.path_conditions.specs.CertificateConditions.{HasBegun, HasNotExpired, IsCa, MaySignCertificates, NeedsNoPolicyTree, CriticalExtensionsAreKnown, AllowsPurpose}
use Rattle.path.specs.declared.options.Options.{Options}
use Rattle.path.specs.declared.reason.Reason.{Reason}
use Rattle.path.specs.declared.reason.Reason.TheVariants.{Repeated, Signature, NotYet, Expired, Issuer, NotPermitted, Excluded, ConstraintForm, NotCa, PathLength, KeyCertSign, Policy, CriticalUnknown, Purpose, Empty, TooLong, NoValidPolicy, AnyPolicyMapped, NoUserPolicy}
use Rattle.path.specs.Conditions.{ConstrainNoOtherForm, ExcludeNoName, IsNamedByIssuer, IsSignedByIssuer, PermitNames}
use Rattle.path.specs.Query.{Accepts}
use Rattle.path.specs.Reason.{reason_rank}
use Rattle.path_issuers.specs.Search.{Search, HasNoValid, path_down_to}
use Rattle.path_issuers.specs.Factors.{HoldsOfNamed, AllowsLength, Lacks}
use Rattle.path_issuers.specs.Asking.{count_pairs}
use Rattle.path_search.specs.Answer.{HasRightTails}
use Rattle.path_search.specs.Collecting.{IsFurthest}
use Rattle.path_issuers.specs.Links.{anchor_at, certificate_at}
use Rattle.path_search.specs.Walk.{HasRightTarget, IsTail, top_of}
use Rattle.path_search.specs.declared.answer.Budget.{Budget}
use Rattle.path_search.specs.declared.obstacles.Obstacle.{Obstacle}
use Rattle.path_search.specs.declared.diagnosis.Stuck.{Stuck}
use Rattle.path_search.specs.declared.diagnosis.WhyNot.{WhyNot}
use Rattle.path_search.specs.declared.diagnosis.WhyNot.TheVariants as why

-- of the conditions that are not met, this is the one of the least rank
pub record IsFirstUnmet (Meets : Reason → Type 0) (reason : Reason) : Type 0 where
  pub broken : ¬ Meets reason
  pub lesser : (other : Reason) → reason_rank other < reason_rank reason → Meets other

abbrev pub MeetsEach : (Reason → Type 0) → Type 0
MeetsEach Meets = (reason : Reason) → Meets reason

-- that one is found; none, if each is met
abbrev pub FindsUnmet : (Reason → Type 0) → Option Reason → Type 0
FindsUnmet Meets found = MatchOption found (MeetsEach Meets) (IsFirstUnmet Meets)

-- the condition whose breach is the reason, on a certificate alone that stands at the end of a path
abbrev pub MeetsAsTarget : Options → ℤ → Option (List ℕ) → Certificate → Reason → Type 0
MeetsAsTarget options moment purpose c NotYet = HasBegun c moment
MeetsAsTarget options moment purpose c Expired = HasNotExpired c moment
MeetsAsTarget options moment purpose c Policy = NeedsNoPolicyTree c
MeetsAsTarget options moment purpose c CriticalUnknown = CriticalExtensionsAreKnown options.profile c
MeetsAsTarget options moment purpose c Purpose = AllowsPurpose options.profile c purpose
MeetsAsTarget options moment purpose c Repeated = Unit {0}
MeetsAsTarget options moment purpose c Signature = Unit {0}
MeetsAsTarget options moment purpose c Issuer = Unit {0}
MeetsAsTarget options moment purpose c NotPermitted = Unit {0}
MeetsAsTarget options moment purpose c Excluded = Unit {0}
MeetsAsTarget options moment purpose c ConstraintForm = Unit {0}
MeetsAsTarget options moment purpose c NotCa = Unit {0}
MeetsAsTarget options moment purpose c PathLength = Unit {0}
MeetsAsTarget options moment purpose c KeyCertSign = Unit {0}
MeetsAsTarget options moment purpose c Empty = Unit {0}
MeetsAsTarget options moment purpose c TooLong = Unit {0}
MeetsAsTarget options moment purpose c NoValidPolicy = Unit {0}
MeetsAsTarget options moment purpose c AnyPolicyMapped = Unit {0}
MeetsAsTarget options moment purpose c NoUserPolicy = Unit {0}

-- The condition whose breach is the reason, on a certificate above others that are in order down to a target, of which the first one
-- names it as its issuer; `Signed` says that its key accepts the signature of that one. A validation that fails for Repeated, Signature,
-- PathLength or one of the three of name constraints says so of the certificate below (RFC 5280, 6.1.3); here it is said of the one above.
abbrev pub MeetsAbove : Options → Type 0 → ℤ → Certificate → List Certificate → Reason → Type 0
MeetsAbove options Signed moment c below Repeated = Lacks c.octets below
MeetsAbove options Signed moment c below Signature = Signed
MeetsAbove options Signed moment c below NotYet = HasBegun c moment
MeetsAbove options Signed moment c below Expired = HasNotExpired c moment
MeetsAbove options Signed moment c below Issuer = Unit {0}
MeetsAbove options Signed moment c below NotPermitted = HoldsOfNamed (PermitNames c) below
MeetsAbove options Signed moment c below Excluded = HoldsOfNamed (ExcludeNoName c) below
MeetsAbove options Signed moment c below ConstraintForm = HoldsOfNamed (ConstrainNoOtherForm c) below
MeetsAbove options Signed moment c below NotCa = IsCa c
MeetsAbove options Signed moment c below PathLength = AllowsLength c below
MeetsAbove options Signed moment c below KeyCertSign = MaySignCertificates c
MeetsAbove options Signed moment c below Policy = NeedsNoPolicyTree c
MeetsAbove options Signed moment c below CriticalUnknown = CriticalExtensionsAreKnown options.profile c
MeetsAbove options Signed moment c below Purpose = Unit {0}
MeetsAbove options Signed moment c below Empty = Unit {0}
-- a path has at most 128 certificates (a choice of the profile)
MeetsAbove options Signed moment c below TooLong = length below < 128
MeetsAbove options Signed moment c below NoValidPolicy = Unit {0}
MeetsAbove options Signed moment c below AnyPolicyMapped = Unit {0}
MeetsAbove options Signed moment c below NoUserPolicy = Unit {0}

-- the certificate at the top of a tail
abbrev pub top_certificate : Search → List ℕ → Certificate
top_certificate s above = certificate_at s (top_of (length s.bag) above)

-- of these, the certificate at the place has the name of the issuer of another one
pub record IsNamedAmong (certificates : List Certificate) (c : Certificate) (place : ℕ) : Type 0 where
  pub there : place < length certificates
  pub named : IsNamedByIssuer c (slice_index_or certificates place c).subject

-- the anchor has that name, and its key does not accept the signature
pub record IsAnchorInTheWay (accepts : Accepts) (s : Search) (c : Certificate) (anchor : ℕ) : Type 0 where
  pub named : IsNamedAmong s.anchors c anchor
  pub unsigned : ¬ IsSignedByIssuer accepts c (anchor_at s anchor).key_info.value.octets

-- the condition whose breach is the reason, on the certificate at a place of the bag, above a tail
abbrev pub MeetsAboveTail : Accepts → Search → List ℕ → ℕ → Reason → Type 0
MeetsAboveTail accepts s above place =
    MeetsAbove s.options (IsSignedByIssuer accepts (top_certificate s above) (certificate_at s place).key_info.value.octets) s.moment
    (certificate_at s place) (path_down_to s.target s.bag above)

-- these places and no others, in order
pub record AreThePlaces (Is : ℕ → Type 0) (places : List ℕ) : Type 0 where
  pub each : (place : ℕ) → Contains places place → Is place
  pub all : (place : ℕ) → Is place → Contains places place
  pub ascending : IsStrictlyIncreasing places

abbrev pub places_of_obstacles : List Obstacle → List ℕ
places_of_obstacles obstacles = map (λ o. o.place) obstacles

-- for each certificate of the bag that has the name of the issuer of the top, the first condition that it does not meet above the tail
pub record AreObstacles (accepts : Accepts) (s : Search) (above : List ℕ) (obstacles : List Obstacle) : Type 0 where
  pub places : AreThePlaces (IsNamedAmong s.bag (top_certificate s above)) (places_of_obstacles obstacles)
  pub reasons : All (λ o. IsFirstUnmet (MeetsAboveTail accepts s above o.place) o.reason) obstacles

-- the tail that got furthest; who has the name of the issuer of its top, and why none of them can stand above it
pub record IsStuck (accepts : Accepts) (s : Search) (stuck : Stuck) : Type 0 where
  pub furthest : IsFurthest accepts s stuck.above.items
  pub anchors : AreThePlaces (IsAnchorInTheWay accepts s (top_certificate s stuck.above.items)) stuck.anchors.items
  pub bag : AreObstacles accepts s stuck.above.items stuck.bag.items

-- more questions or tails than these were needed
abbrev pub IsSpent : Accepts → Search → Budget → Type 0
IsSpent accepts s budget = (budget.signatures < count_pairs s) ⊎ HasRightTails accepts s budget.steps

-- why no path is found; or one of the two budgets is used up, and the target is right
abbrev pub IsWhyNot : Accepts → Search → Budget → Option WhyNot → Type 0
IsWhyNot accepts s budget None = HasRightTarget s × IsSpent accepts s budget
IsWhyNot accepts s budget (Some (why.Target reason)) = IsFirstUnmet (MeetsAsTarget s.options s.moment s.purpose s.target) reason
IsWhyNot accepts s budget (Some (why.Stuck stuck)) = IsStuck accepts s stuck

-- laws

-- a target is right exactly if it meets all conditions
abbrev pub TargetFactors : Type 0
TargetFactors = (s : Search) → HasRightTarget s ↔ MeetsEach (MeetsAsTarget s.options s.moment s.purpose s.target)

-- of who has the name of the issuer of a tail's top, those that meet all conditions make a longer tail, and no others
abbrev pub TailFactors : Type 0
TailFactors =
    (accepts : Accepts) (s : Search) (above : List ℕ) (place : ℕ) → IsTail accepts s above → IsNamedAmong s.bag (top_certificate s above) place →
    IsTail accepts s (above ++ place ∷ []) ↔ MeetsEach (MeetsAboveTail accepts s above place)

-- if no candidate is valid, each anchor that has the name of the issuer of the top is in the way
abbrev pub NamedAnchorsAreInTheWay : Type 0
NamedAnchorsAreInTheWay =
    (accepts : Accepts) (s : Search) (stuck : Stuck) → IsStuck accepts s stuck → HasNoValid accepts s → (anchor : ℕ) →
    IsNamedAmong s.anchors (top_certificate s stuck.above.items) anchor → Contains stuck.anchors.items anchor
