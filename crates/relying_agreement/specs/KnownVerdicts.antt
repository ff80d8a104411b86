-- Verdicts that are known: they pin the definitions.
use Rattle.std.specs.Prelude.{◌≡◌, ℕ, ℤ, pos, true, List, [], ◌∷◌, Option, Some, None, if◌then◌else◌}
use Rattle.std.specs.Str.{bytes_eq}
use Rattle.sha1.specs.Sha1.{sha1}
use Rattle.cert.specs.Extensions.{no_extensions}
use Rattle.cert.specs.Certificate.{Certificate}
use Rattle.cert.specs.CertificatePoints.{CertificatePoints}
use Rattle.statements_facts.specs.declared.scope.Scope.{Scope}
use Rattle.statements_facts.specs.declared.scope.Scope.TheVariants.{All, User, Ca}
use Rattle.statements_facts.specs.declared.single.Status.{Status}
use Rattle.statements_facts.specs.declared.single.Status.TheVariants as said
use Rattle.statements_facts.specs.Fact.{Fact}
use Rattle.statements_facts.specs.Statement.{IssuerIdentity, at_point}
use Rattle.path.specs.declared.reason.Outcome.{Outcome}
use Rattle.path.specs.declared.reason.Outcome.TheVariants.{Good, Bad}
use Rattle.path.specs.declared.reason.Reason.TheVariants.{Expired}
use Rattle.path.specs.declared.options.Options.{Options}
use Rattle.path.specs.Options.{stated_options, wide_options}
use Rattle.path.specs.Query.{Query}
use Rattle.statements.specs.Issuer.{identity_of}
use Rattle.relying_agreement.specs.declared.verdict.Verdict.{Verdict}
use Rattle.relying_agreement.specs.declared.verdict.Verdict.TheVariants.{Invalid, Revoked, Unknown, Valid}
use Rattle.relying_agreement.specs.declared.verdict.Comparison.TheVariants.{Differ}
use Rattle.relying_agreement.specs.Verdict.{verdict_of}
use Rattle.relying_agreement.specs.Comparison.{Compares}
use Rattle.relying_agreement.specs.Examples.{plain, starting, accepts_all}

-- 2025-06-15
abbrev pub noon : ℤ
noon = pos 1749945600

-- an authority of that key below an issuer of that name, with that keyUsage; and a user's certificate T, with serial 05
abbrev pub authority : ℕ → ℕ → Option (List ℕ) → Certificate
authority key above usage =
    plain key above 2 (record no_extensions { key_usage = usage; basic_constraints = Some (record { ca = true; path_length = None }) })

abbrev pub user : ℕ → Certificate
user above = plain 84 above 5 no_extensions

-- keyUsage with keyCertSign alone, and with cRLSign too
abbrev pub signs_certificates : Option (List ℕ)
signs_certificates = Some (4 ∷ [])

abbrev pub signs_both : Option (List ℕ)
signs_both = Some (6 ∷ [])

-- the anchor R, 82, whose keyUsage lacks cRLSign, and the authority A, 65
abbrev pub root : Certificate
root = authority 82 82 signs_certificates

abbrev pub asked : Options → ℤ → List Certificate → Query
asked options moment path = record { anchor = root; certificates = path; moment = moment; purpose = None; options = options }

abbrev pub ee : List Certificate
ee = user 82 ∷ []

abbrev pub ca : List Certificate
ca = authority 65 82 None ∷ []

abbrev pub ca_ee : List Certificate
ca_ee = authority 65 82 None ∷ user 65 ∷ []

abbrev pub ca_with_both_ee : List Certificate
ca_with_both_ee = authority 65 82 signs_both ∷ user 65 ∷ []

abbrev pub ca_without_crl_sign_ee : List Certificate
ca_without_crl_sign_ee = authority 65 82 signs_certificates ∷ user 65 ∷ []

-- The name of a point, and users' certificates that have it: at a point without reasons and cRLIssuer, at one with some, and at one of each.
abbrev pub point : List ℕ
point = 0x86 ∷ 1 ∷ 0x61 ∷ []

abbrev pub published_at : CertificatePoints → List Certificate
published_at points = record (user 82) { points = points } ∷ []

abbrev pub complete_ee : List Certificate
complete_ee = published_at (record { complete = point ∷ []; limited = [] })

abbrev pub limited_ee : List Certificate
limited_ee = published_at (record { complete = []; limited = point ∷ [] })

abbrev pub both_ee : List Certificate
both_ee = published_at (record { complete = point ∷ []; limited = point ∷ [] })

abbrev pub lists_05 : Option ℕ → List ℕ → Option ℕ
lists_05 reason serial = if bytes_eq serial (5 ∷ []) then reason else None

-- a list of June 2025 of this issuer and of this scope, which lists serial 05 if a reason is given
abbrev pub list_by : IssuerIdentity → Scope → ℕ → Option ℕ → Fact
list_by issuer scope number reason =
    Fact.OfCrl (record { issuer = issuer; scope = scope })
    (record { number = number; window = record { from = pos 1748736000; until = pos 1751328000 }; reasons = lists_05 reason })

-- of the authority of this key
abbrev pub list : ℕ → Scope → ℕ → Option ℕ → Fact
list key = list_by (identity_of (authority key key None))

abbrev pub of_r : Scope → ℕ → Option ℕ → Fact
of_r = list 82

-- of R at the point
abbrev pub at_the_point : Scope → ℕ → Option ℕ → Fact
at_the_point = list_by (at_point point (identity_of root))

abbrev pub of_a : Scope → ℕ → Option ℕ → Fact
of_a = list 65

-- a response of R on the certificate that it gave this serial number
abbrev pub response_on : ℕ → ℤ → ℤ → Status → Fact
response_on serial from until status =
    Fact.OfResponse (record { issuer = identity_of root; name_hash = sha1 (82 ∷ []); serial = serial ∷ [] })
    (record { times = record { this_update = from; produced_at = from }; window = record { from = from; until = until }; status = status })

abbrev pub expired_good : Fact
expired_good = response_on 5 (pos 1748736000) (pos 1749513600) said.Good

abbrev pub day_of : Status → Fact
day_of status = response_on 5 noon (pos 1750032000) status

abbrev pub verdict_under : Options → Outcome → ℤ → List Certificate → List Fact → Verdict
verdict_under options outcome moment path taken = verdict_of outcome (asked options moment path) (starting accepts_all taken).held

abbrev pub verdict_at : ℤ → List Certificate → List Fact → Verdict
verdict_at = verdict_under stated_options Good

-- the same where points are read
abbrev pub wide_verdict_at : ℤ → List Certificate → List Fact → Verdict
wide_verdict_at = verdict_under wide_options Good

pub record KnownVerdicts : Type 0 where
  -- where a condition fails, nothing else is said
  pub invalid : verdict_under stated_options (Bad 1 Expired) noon ee (of_r All 6 (Some 1) ∷ []) ≡ Invalid 1 Expired
  pub nothing_held : verdict_at noon ee [] ≡ Unknown 1
  -- a list counts from thisUpdate to nextUpdate, and neither before nor after
  pub not_begun : verdict_at (pos 1748735999) ee (of_r All 5 None ∷ []) ≡ Unknown 1
  pub first_second : verdict_at (pos 1748736000) ee (of_r All 5 None ∷ []) ≡ Valid
  pub last_second : verdict_at (pos 1751328000) ee (of_r All 5 None ∷ []) ≡ Valid
  pub expired : verdict_at (pos 1751328001) ee (of_r All 5 None ∷ []) ≡ Unknown 1
  pub revoked : verdict_at noon ee (of_r All 5 None ∷ of_r All 6 (Some 1) ∷ []) ≡ Revoked 1 1
  pub expired_revokes_nothing : verdict_at (pos 1751328001) ee (of_r All 6 (Some 1) ∷ []) ≡ Unknown 1
  -- the newest counts, in whatever order they come, and of two of one number the first
  pub older_later : verdict_at noon ee (of_r All 6 None ∷ of_r All 5 (Some 1) ∷ []) ≡ Valid
  pub first_of_equals : verdict_at noon ee (of_r All 5 None ∷ of_r All 5 (Some 1) ∷ []) ≡ Valid
  -- a response past its end says nothing
  pub response_expired : verdict_at noon ee (expired_good ∷ []) ≡ Unknown 1
  pub response_expired_crl : verdict_at noon ee (expired_good ∷ of_r All 5 None ∷ []) ≡ Valid
  pub response_expired_revoked : verdict_at noon ee (expired_good ∷ of_r All 6 (Some 1) ∷ []) ≡ Revoked 1 1
  pub good_before_its_begin : verdict_at (pos 1749945599) ee (day_of said.Good ∷ []) ≡ Unknown 1
  pub good_to_the_end : verdict_at (pos 1750032000) ee (day_of said.Good ∷ []) ≡ Valid
  pub good_past_the_end : verdict_at (pos 1750032001) ee (day_of said.Good ∷ []) ≡ Unknown 1
  pub unknown_covers_nothing : verdict_at noon ee (day_of said.Unknown ∷ []) ≡ Unknown 1
  pub response_revokes : verdict_at noon ee (day_of (said.Revoked 4) ∷ []) ≡ Revoked 1 4
  pub of_another_serial : verdict_at noon ee (response_on 6 noon (pos 1750032000) said.Good ∷ []) ≡ Unknown 1
  -- scopes
  pub user_list_of_user : verdict_at noon ee (of_r User 5 None ∷ []) ≡ Valid
  pub user_list_of_ca : verdict_at noon ca (of_r User 5 None ∷ []) ≡ Unknown 1
  pub ca_list_of_user : verdict_at noon ee (of_r Ca 5 None ∷ []) ≡ Unknown 1
  pub ca_list_and_all : verdict_at noon ca_ee (of_r Ca 5 None ∷ of_a All 1 None ∷ []) ≡ Valid
  pub ca_list_alone : verdict_at noon ca_ee (of_r Ca 5 None ∷ []) ≡ Unknown 2
  pub numbers_by_scope : verdict_at noon ee (of_r User 7 (Some 1) ∷ of_r All 5 None ∷ []) ≡ Revoked 1 1
  pub ca_not_in_user_list : verdict_at noon ca (of_r User 7 (Some 1) ∷ of_r All 5 None ∷ []) ≡ Valid
  -- the reason of all, then of its kind, then the response's
  pub reason_of_all : verdict_at noon ee (day_of (said.Revoked 5) ∷ of_r User 7 (Some 4) ∷ of_r All 5 (Some 1) ∷ []) ≡ Revoked 1 1
  pub reason_of_kind : verdict_at noon ee (day_of (said.Revoked 5) ∷ of_r User 7 (Some 4) ∷ of_r All 5 None ∷ []) ≡ Revoked 1 4
  pub reason_of_response : verdict_at noon ee (day_of (said.Revoked 5) ∷ of_r User 7 None ∷ []) ≡ Revoked 1 5
  -- the anchor signs lists whatever its keyUsage; an authority whose keyUsage lacks cRLSign does not
  pub with_crl_sign : verdict_at noon ca_with_both_ee (of_r All 5 None ∷ of_a All 1 None ∷ []) ≡ Valid
  pub without_crl_sign : verdict_at noon ca_without_crl_sign_ee (of_r All 5 None ∷ of_a All 1 None ∷ []) ≡ Unknown 2
  -- another key is another issuer
  pub other_key : verdict_at noon ee (of_r All 5 None ∷ list 88 All 9 (Some 1) ∷ []) ≡ Valid
  -- revoked is said before unknown, though it stands lower
  pub revoked_before_unknown : verdict_at noon ca_ee (of_a All 1 (Some 1) ∷ []) ≡ Revoked 2 1
  -- a list at a point without reasons and cRLIssuer counts as a whole one
  pub complete_point_covers : wide_verdict_at noon complete_ee (at_the_point All 5 None ∷ []) ≡ Valid
  pub complete_point_revokes : wide_verdict_at noon complete_ee (at_the_point All 5 (Some 1) ∷ of_r All 5 None ∷ []) ≡ Revoked 1 1
  -- one at another point of the certificate revokes it, and covers nothing
  pub limited_point_revokes : wide_verdict_at noon limited_ee (at_the_point All 5 (Some 1) ∷ []) ≡ Revoked 1 1
  pub limited_point_covers_nothing : wide_verdict_at noon limited_ee (at_the_point All 5 None ∷ []) ≡ Unknown 1
  pub limited_point_beside_whole : wide_verdict_at noon limited_ee (at_the_point All 5 None ∷ of_r All 5 None ∷ []) ≡ Valid
  pub whole_does_not_hide : wide_verdict_at noon limited_ee (at_the_point All 5 (Some 1) ∷ of_r All 5 None ∷ []) ≡ Revoked 1 1
  pub good_does_not_hide : wide_verdict_at noon limited_ee (at_the_point User 5 (Some 1) ∷ day_of said.Good ∷ []) ≡ Revoked 1 1
  -- what no longer counts, or is of CAs, or of another point says nothing of it
  pub limited_point_expired : wide_verdict_at (pos 1751328001) limited_ee (at_the_point All 5 (Some 1) ∷ []) ≡ Unknown 1
  pub limited_point_of_cas : wide_verdict_at noon limited_ee (at_the_point Ca 5 (Some 1) ∷ of_r All 5 None ∷ []) ≡ Valid
  pub no_point_of_it : wide_verdict_at noon ee (at_the_point All 5 (Some 1) ∷ of_r All 5 None ∷ []) ≡ Valid
  -- the reason of whole lists, then of those at limited points, then of the response
  pub reason_of_whole : wide_verdict_at noon limited_ee (at_the_point All 5 (Some 1) ∷ of_r User 5 (Some 4) ∷ []) ≡ Revoked 1 4
  pub reason_at_limited_point : wide_verdict_at noon limited_ee (day_of (said.Revoked 5) ∷ at_the_point All 5 (Some 1) ∷ []) ≡ Revoked 1 1
  -- a name that both kinds of points have counts as a complete one
  pub name_of_both : wide_verdict_at noon both_ee (at_the_point All 5 None ∷ []) ≡ Valid
  pub name_of_both_revokes : wide_verdict_at noon both_ee (at_the_point All 5 (Some 1) ∷ []) ≡ Revoked 1 1

-- The certificate that a comparison names is the first of which something else is held, and need not be the one whose status differs.
abbrev pub NamesFirstDifference : Type 0
NamesFirstDifference =
    let one = of_r All 5 None ∷ of_a All 1 None ∷ [] in
    let other = of_r All 6 None ∷ of_a All 2 (Some 1) ∷ [] in
    Compares (verdict_at noon ca_ee one) (verdict_at noon ca_ee other) (starting accepts_all one).held (starting accepts_all other).held (asked stated_options noon ca_ee)
    (Differ Valid (Revoked 2 1) 1)

-- It is also the first of which something else is held at a limited point.
abbrev pub NamesDifferenceAtLimitedPoint : Type 0
NamesDifferenceAtLimitedPoint =
    let one = of_r All 5 None ∷ at_the_point All 5 None ∷ [] in
    let other = of_r All 5 None ∷ at_the_point All 6 (Some 1) ∷ [] in
    Compares (wide_verdict_at noon limited_ee one) (wide_verdict_at noon limited_ee other) (starting accepts_all one).held (starting accepts_all other).held
    (asked wide_options noon limited_ee) (Differ Valid (Revoked 1 1) 1)
