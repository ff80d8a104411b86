-- The verdict on a path (RFC 5280, 6.1 and 6.3; RFC 6960, 2.2).
use Rattle.std.specs.Prelude.{◌≡◌, ◌↔◌, ℕ, ℤ, List, [], ◌∷◌, ◌++◌, Option, Some, None, map, if◌then◌else◌, Contains}
use Rattle.std.specs.List.{AllByRecursion}
use Rattle.statements_facts.specs.Statement.{Holdings, CrlSlot, at_point}
use Rattle.path.specs.declared.reason.Outcome.{Outcome}
use Rattle.path.specs.declared.reason.Outcome.TheVariants.{Good, Bad}
use Rattle.path.specs.declared.reason.Reason.{Reason}
use Rattle.path.specs.Query.{Query, Accepts}
use Rattle.path.specs.Validity.{IsValidPath, IsFirstFailure, IsOutcome}
use Rattle.statements.specs.Issuer.{identity_of}
use Rattle.relying_agreement.specs.declared.verdict.Verdict.{Verdict}
use Rattle.relying_agreement.specs.declared.verdict.Verdict.TheVariants.{Invalid, Revoked, Unknown, Valid}
use Rattle.relying_agreement.specs.Link.{Link, links_of, slots_under}
use Rattle.relying_agreement.specs.Status.{Evidence, evidence_of, deciding_reason, is_covered_by, IsCovered, IsRevoked, SomeCrlLists, SomeRevokes}

abbrev pub or_revoked : ℕ → Option ℕ → Option (ℕ × ℕ) → Option (ℕ × ℕ)
or_revoked j None later = later
or_revoked j (Some reason) later = Some (j, reason)

-- the first revoked certificate, with the reason
abbrev pub first_revoked : ℤ → List Evidence → Option (ℕ × ℕ)
first_revoked moment [] = None
first_revoked moment (it ∷ more) = or_revoked it.number (deciding_reason moment it) (first_revoked moment more)

-- the first certificate of which no statement speaks
abbrev pub first_uncovered : ℤ → List Evidence → Option ℕ
first_uncovered moment [] = None
first_uncovered moment (it ∷ more) = if is_covered_by moment it then first_uncovered moment more else Some it.number

-- what bears on the certificates of a path, one after the other
abbrev pub evidence_on : Holdings → Query → List Evidence
evidence_on held query = map (evidence_of held) (links_of query)

-- what is said where the path meets all conditions: the first revoked, else the first that is not covered, else that it is valid
abbrev pub verdict_from : Option (ℕ × ℕ) → Option ℕ → Verdict
verdict_from (Some revoked) uncovered = Revoked revoked.0 revoked.1
verdict_from None (Some j) = Unknown j
verdict_from None None = Valid

abbrev pub verdict_by : ℤ → List Evidence → Verdict
verdict_by moment evidence = verdict_from (first_revoked moment evidence) (first_uncovered moment evidence)

-- Invalid with the first failure, and else what the statements that are held say.
abbrev pub verdict_of : Outcome → Query → Holdings → Verdict
verdict_of (Bad j reason) query held = Invalid j reason
verdict_of Good query held = verdict_by query.moment (evidence_on held query)

-- the verdict of who judges signatures so, and holds that
pub record IsVerdict (accepts : Accepts) (query : Query) (held : Holdings) (verdict : Verdict) : Type 0 where
  pub outcome : Outcome
  pub is_outcome : IsOutcome accepts query outcome
  pub verdict_is : verdict ≡ verdict_of outcome query held

-- ---- laws

-- a question has one verdict
abbrev pub VerdictIsOne : Type 0
VerdictIsOne =
    (accepts : Accepts) (query : Query) (held : Holdings) (one other : Verdict) →
    IsVerdict accepts query held one → IsVerdict accepts query held other → one ≡ other

-- invalid exactly where the conditions do not all hold, with the first failure
abbrev pub InvalidExactlyWhere : Type 0
InvalidExactlyWhere =
    (accepts : Accepts) (query : Query) (held : Holdings) (j : ℕ) (reason : Reason) →
    IsVerdict accepts query held (Invalid j reason) ↔ IsFirstFailure accepts query j reason

-- each certificate is covered by what is held, and nothing that counts revokes it
pub record IsClear (held : Holdings) (moment : ℤ) (link : Link) : Type 0 where
  pub covered : IsCovered held moment link
  pub not_revoked : ¬ (SomeRevokes held moment link)

-- The second half: a path is valid exactly where the conditions hold, and each certificate is covered and none revoked.
abbrev pub ValidExactlyWhere : Type 0
ValidExactlyWhere =
    (accepts : Accepts) (query : Query) (held : Holdings) →
    IsVerdict accepts query held Valid
    ↔ (IsValidPath accepts query × AllByRecursion (IsClear held query.moment) (links_of query))

-- A revocation that is held is never hidden: a path is not valid if a list that counts revokes one of its certificates, at whichever of
-- its points the issuer publishes the list, whatever reasons and cRLIssuer the point has.
abbrev pub HeldRevocationCounts : Type 0
HeldRevocationCounts =
    (accepts : Accepts) (query : Query) (held : Holdings) (link : Link) (point : List ℕ) (slot : CrlSlot) →
    Contains (links_of query) link →
    Contains (link.certificate.points.complete ++ link.certificate.points.limited) point →
    Contains (slots_under link.certificate (at_point point (identity_of link.issuer))) slot →
    SomeCrlLists held query.moment link slot →
    ¬ (IsVerdict accepts query held Valid)

-- the first certificate of which it holds: it holds of none before it
pub record IsFirst (Holds : Link → Type 0) (links : List Link) (link : Link) : Type 0 where
  pub before : List Link
  pub after : List Link
  pub is : links ≡ before ++ link ∷ after
  pub here : Holds link
  pub none_before : AllByRecursion (λ earlier. ¬ (Holds earlier)) before

-- certificate j is the first that a statement that counts revokes, and this is why
pub record IsFirstRevoked (query : Query) (held : Holdings) (j reason : ℕ) : Type 0 where
  pub link : Link
  pub first : IsFirst (SomeRevokes held query.moment) (links_of query) link
  pub number : j ≡ link.number
  pub why : IsRevoked held query.moment link reason

-- revoked exactly where the conditions hold, and this is the first revoked certificate
abbrev pub RevokedExactlyWhere : Type 0
RevokedExactlyWhere =
    (accepts : Accepts) (query : Query) (held : Holdings) (j reason : ℕ) →
    IsVerdict accepts query held (Revoked j reason) ↔ (IsValidPath accepts query × IsFirstRevoked query held j reason)

-- certificate j is the first of which no statement speaks, and none is revoked
pub record IsFirstUncovered (query : Query) (held : Holdings) (j : ℕ) : Type 0 where
  pub none_revoked : AllByRecursion (λ link. ¬ (SomeRevokes held query.moment link)) (links_of query)
  pub link : Link
  pub first : IsFirst (λ one. ¬ (IsCovered held query.moment one)) (links_of query) link
  pub number : j ≡ link.number

-- unknown exactly where the conditions hold, none is revoked, and this is the first certificate that is not covered
abbrev pub UnknownExactlyWhere : Type 0
UnknownExactlyWhere =
    (accepts : Accepts) (query : Query) (held : Holdings) (j : ℕ) →
    IsVerdict accepts query held (Unknown j) ↔ (IsValidPath accepts query × IsFirstUncovered query held j)
