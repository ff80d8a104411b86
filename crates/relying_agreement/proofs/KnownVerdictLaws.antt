-- The known verdicts, by computing.
use Rattle.std.proofs.Common.{◌==◌, Bool, true, false, List, [], ◌∷◌, Option, Some, refl, ap, true≢false}
use Rattle.sha1.specs.Sha1.{sha1}
use Rattle.names.specs.NameKey.{name_key}
use Rattle.cert.specs.Part.{contents}
use Rattle.relying_agreement.specs.declared.verdict.Verdict.{Verdict}
use Rattle.relying_agreement.specs.declared.verdict.Verdict.TheVariants.{Valid}
use Rattle.relying_agreement.specs.Status.{Answers}
use Rattle.statements_facts.specs.Statement.{CrlAnswer}
use Rattle.relying_agreement.specs.KnownVerdicts.{KnownVerdicts, NamesDifferenceAtLimitedPoint, NamesFirstDifference}
use Rattle.relying_agreement.proofs.ExampleLaws.{itself}

pub known_verdicts : KnownVerdicts
unfolding name_key contents
known_verdicts = record {
  invalid = refl;
  nothing_held = refl;
  not_begun = refl;
  first_second = refl;
  last_second = refl;
  expired = refl;
  revoked = refl;
  expired_revokes_nothing = refl;
  older_later = refl;
  first_of_equals = refl;
  response_expired = rw (itself (sha1 (82 ∷ []))) refl;
  response_expired_crl = rw (itself (sha1 (82 ∷ []))) refl;
  response_expired_revoked = refl;
  good_before_its_begin = rw (itself (sha1 (82 ∷ []))) refl;
  good_to_the_end = rw (itself (sha1 (82 ∷ []))) refl;
  good_past_the_end = rw (itself (sha1 (82 ∷ []))) refl;
  unknown_covers_nothing = rw (itself (sha1 (82 ∷ []))) refl;
  response_revokes = rw (itself (sha1 (82 ∷ []))) refl;
  of_another_serial = rw (itself (sha1 (82 ∷ []))) refl;
  user_list_of_user = refl;
  user_list_of_ca = refl;
  ca_list_of_user = refl;
  ca_list_and_all = refl;
  ca_list_alone = refl;
  numbers_by_scope = refl;
  ca_not_in_user_list = refl;
  reason_of_all = refl;
  reason_of_kind = refl;
  reason_of_response = rw (itself (sha1 (82 ∷ []))) refl;
  with_crl_sign = refl;
  without_crl_sign = refl;
  other_key = refl;
  revoked_before_unknown = refl;
  complete_point_covers = refl;
  complete_point_revokes = refl;
  limited_point_revokes = refl;
  limited_point_covers_nothing = refl;
  limited_point_beside_whole = refl;
  whole_does_not_hide = refl;
  good_does_not_hide = refl;
  limited_point_expired = refl;
  limited_point_of_cas = refl;
  no_point_of_it = refl;
  reason_of_whole = refl;
  reason_at_limited_point = refl;
  name_of_both = refl;
  name_of_both_revokes = refl;
}

abbrev is_valid : Verdict → Bool
is_valid Valid = true
is_valid other = false

abbrev begins_with_five : List (Option CrlAnswer) → Bool
begins_with_five (Some crl ∷ crls) = crl.number == 5
begins_with_five crls = false

pub names_first_difference : NamesFirstDifference
unfolding name_key contents
names_first_difference = (
  refl,
  refl,
  λ same. true≢false (ap is_valid same),
  record { before = []; link = _; after = _; is = refl; number = refl; same_before = tt; differs = λ same. true≢false (ap (λ (a : Answers). begins_with_five a.lists) same) },
)

pub names_difference_at_limited_point : NamesDifferenceAtLimitedPoint
unfolding name_key contents
names_difference_at_limited_point = (
  refl,
  refl,
  λ same. true≢false (ap is_valid same),
  record { before = []; link = _; after = _; is = refl; number = refl; same_before = tt; differs = λ same. true≢false (ap (λ (a : Answers). begins_with_five a.limited) same) },
)
