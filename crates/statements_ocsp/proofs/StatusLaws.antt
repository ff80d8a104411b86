-- The walks of times and of a status find what the standard calls one, and nothing else.
use Rattle.std.proofs.Common.{◌≡◌, ◌≢◌, ◌==◌, ◌≤◌, ℕ, ℤ, Bool, true, false, not, nat_lt, List, [], ◌∷◌, Option, Some, None, Result, Ok, Err, if◌then◌else◌, ◌++◌, append-nil, arith, refl, sym, ap, ◌∙◌, subst, eq-eqb}
use Rattle.std.proofs.lemmas.Bool.{and_parts, and_from, ltb-true, lt-ltb, eqb-true}
use Rattle.asn.specs.Place.{Place, tag, body, is_empty}
use Rattle.asn.specs.Members.{Members, members, begins}
use Rattle.asn.specs.Walk.{or_fault, check_that, is_a, optional, seconds, next_or, ended}
use Rattle.asn.proofs.Laws.{bind_ok, ok_is, check_ok, check_again, is_a_ok, is_a_again, next_or_ok, next_or_again, ended_ok, ended_again, seconds_ok, seconds_are, TakesOptional, optional_is, optional_there, optional_absent}
use Rattle.statements_parts.specs.Parts.{statement_component, is_reason}
use Rattle.statements_parts.proofs.Laws.{component_ok, component_again}
use Rattle.statements_parts.specs.declared.fault.StatementRule.{StatementRule}
use Rattle.statements_parts.specs.declared.fault.StatementRule.TheVariants.{Layout, BadReason}
use Rattle.statements_ocsp.specs.declared.cert_status.CertStatus.{CertStatus}
use Rattle.statements_ocsp.specs.declared.cert_status.CertStatus.TheVariants.{Good, Revoked, Unknown}
use Rattle.statements_ocsp.specs.GeneralizedTime.{generalized_time}
use Rattle.statements_ocsp.specs.CertificateStatus.{reason_of_contents, reason, reason_of, revocation_reason, revoked_info, null, status_at, cert_status}
use Rattle.statements_ocsp.specs.SingleForms.{IsGeneralizedTimeAt, IsReason, IsOptionalReason, IsRevokedInfo, IsCertStatus}

-- the next value is there, and is that
pub record TakesValue (Is : Place → Type 0) (left others : Members) : Type 0 where
  pub value : Place
  pub values : left.values ≡ value ∷ others.values
  pub is : Is value

pub moment_ok : (left : Members) (x : ℤ × Members) → generalized_time left ≡ Ok x → TakesValue (λ value. IsGeneralizedTimeAt value x.0) left x.1
unfolding generalized_time
moment_ok left x e =
    let found = component_ok 0x18 (seconds Layout) left x e in
    record {
      value = found.value;
      values = found.took.values;
      is = record { generalized = found.took.tag_is; is_time = seconds_ok Layout found.value x.0 found.read_is };
    }

pub moment_again : (left : Members) (value : Place) (others : List Place) (moment : ℤ) → left.values ≡ value ∷ others → IsGeneralizedTimeAt value moment → generalized_time left ≡ Ok (moment, record { values = others; end = left.end })
unfolding generalized_time
moment_again left value others moment e is = component_again 0x18 (seconds Layout) left value others moment e is.generalized (seconds_are Layout value moment is.is_time)

-- reasons
some_where : (b : Bool) (code found : ℕ) → (if b then Some code else None) ≡ Some found → (b ≡ true) × (code ≡ found)
some_where true code found e = (refl, cc)
some_where false code found e = absurd cc

differs : (n m : ℕ) → not (n == m) ≡ true → n ≢ m
differs n m e same = let yes = eq-eqb n m same in let both : not true ≡ true = ap not (sym yes) ∙ e in absurd cc

is_other : (b : Bool) (n m : ℕ) → (n == m) ≡ b → n ≢ m → not b ≡ true
is_other true n m e differ = absurd (differ (eqb-true n m e))
is_other false n m e differ = refl

some_is : {A F : Type 0} (o : Option A) (fault : F) (at : ℕ) (x : A) → or_fault o fault at ≡ Ok x → o ≡ Some x
some_is None fault at x e = absurd cc
some_is (Some y) fault at x e = ap (λ z. Some z) (ok_is y x e)

of_code : (code found : ℕ) → reason_of_contents (code ∷ []) ≡ Some found → (code ≡ found) × (code ≤ 10) × (code ≢ 7) × (code ≢ 8)
of_code code found e =
    let chosen = some_where _ code found e in
    let served = and_parts (is_reason code) (not (code == 8)) chosen.0 in
    let used = and_parts (nat_lt code 11) (not (code == 7)) served.0 in
    let low = ltb-true code 11 used.0 in
    (chosen.1, omega arith, differs code 7 used.1, differs code 8 served.1)

in_contents : (value : Place) (contents : List ℕ) (found : ℕ) → body value ≡ contents → tag value ≡ 0x0A → reason_of_contents contents ≡ Some found → IsReason value found
in_contents value [] found b t e = absurd cc
in_contents value (code ∷ other ∷ octets) found b t e = absurd cc
in_contents value (code ∷ []) found b t e =
    let is = of_code code found e in
    subst (IsReason value) is.0 record { enumerated = t; contents = b; most = is.1; used = is.2; stays = is.3 }

reason_ok : (value : Place) (code : ℕ) → tag value ≡ 0x0A → reason value ≡ Ok code → IsReason value code
unfolding reason
reason_ok value code t e = in_contents value (body value) code refl t (some_is (reason_of_contents (body value)) BadReason value.at code e)

code_again : (code : ℕ) → code ≤ 10 → code ≢ 7 → code ≢ 8 → reason_of_contents (code ∷ []) ≡ Some code
code_again code most used stays =
    let low = lt-ltb code 11 (omega arith) in
    let served = and_from (nat_lt code 11) (not (code == 7)) low (is_other (code == 7) code 7 refl used) in
    let both = and_from (is_reason code) (not (code == 8)) served (is_other (code == 8) code 8 refl stays) in
    ap (λ b. if b then Some code else None) both

reason_again : (value : Place) (code : ℕ) → IsReason value code → reason value ≡ Ok code
unfolding reason
reason_again value code is = ap (λ o. or_fault o BadReason value.at) (ap reason_of_contents is.contents ∙ code_again code is.most is.used is.stays)

record TakesReason (left : Members) (code : ℕ) (others : Members) : Type 0 where
  tagged : List Place
  values : left.values ≡ tagged ++ others.values
  is : IsOptionalReason tagged code

of_reason : (left : Members) (found : Option Place) (others : Members) (x : ℕ × Members) → TakesOptional 0xA0 left found others → reason_of found others ≡ Ok x → TakesReason left x.0 x.1
of_reason left None others x took e =
    let P : ℕ × Members → Type 0 = λ y. TakesReason left y.0 y.1 in
    subst P (ok_is {E = StatementRule × ℕ} (0, others) x e)
    record { tagged = []; values = sym (ap (λ (m : Members). m.values) took.0); is = refl }
of_reason left (Some explicit) others x took e =
    let code = bind_ok {A = ℕ × Members} (statement_component 0x0A reason (members explicit)) _ x e in
    let one = bind_ok {A = Unit {0}} (ended Layout code.0.1) _ x code.2 in
    let inner = component_ok 0x0A reason (members explicit) code.0 code.1 in
    let P : ℕ × Members → Type 0 = λ y. TakesReason left y.0 y.1 in
    subst P (ok_is {E = StatementRule × ℕ} (code.0.0, others) x one.2) record {
      tagged = explicit ∷ [];
      values = took.values;
      is = (
        inner.value,
        record { explicit = took.tag_is; members_are = inner.took.values ∙ ap (◌∷◌ inner.value) (ended_ok _ _ _ one.1) },
        reason_ok inner.value code.0.0 inner.took.tag_is inner.read_is,
      );
    }

optional_reason_ok : (left : Members) (x : ℕ × Members) → revocation_reason left ≡ Ok x → TakesReason left x.0 x.1
unfolding revocation_reason
optional_reason_ok left x e = of_reason left (optional 0xA0 left).0 (optional 0xA0 left).1 x (optional_is 0xA0 left) e

begins_none : (identifier : ℕ) (left : Members) → left.values ≡ [] → begins identifier left ≡ false
unfolding begins
begins_none identifier left none = rw none refl

optional_reason_again : (left : Members) (tagged : List Place) (code : ℕ) → left.values ≡ tagged → IsOptionalReason tagged code → (x : Members) × (revocation_reason left ≡ Ok (code, x)) × (x.values ≡ [])
unfolding revocation_reason
optional_reason_again left [] code e is = (left, rw (optional_absent 0xA0 left (begins_none 0xA0 left e), is) refl, e)
optional_reason_again left (explicit ∷ []) code e (inside, is_tagged, is) = (
  record { values = []; end = left.end },
  rw (
    optional_there 0xA0 left explicit [] e is_tagged.explicit,
    component_again 0x0A reason (members explicit) inside [] code is_tagged.members_are is.enumerated (reason_again inside code is),
    ended_again Layout (record { values = []; end = (members explicit).end }) refl,
  ) refl,
  refl,
)
optional_reason_again left (explicit ∷ other ∷ tagged) code e is = absurd is

-- revoked
revoked_ok : (value : Place) (status : CertStatus) → revoked_info value ≡ Ok status → IsCertStatus value status
unfolding revoked_info
revoked_ok value status e =
    let revoked = bind_ok {A = Unit {0}} (is_a 0xA1 Layout value) _ status e in
    let moment = bind_ok {A = ℤ × Members} (generalized_time (members value)) _ status revoked.2 in
    let code = bind_ok {A = ℕ × Members} (revocation_reason moment.0.1) _ status moment.2 in
    let done = bind_ok {A = Unit {0}} (ended Layout code.0.1) _ status code.2 in
    let first = moment_ok (members value) moment.0 moment.1 in
    let second = optional_reason_ok moment.0.1 code.0 code.1 in
    subst (IsCertStatus value) (ok_is {E = StatementRule × ℕ} (Revoked code.0.0) status done.2) record {
      time = first.value;
      reasons = second.tagged;
      seconds = moment.0.0;
      revoked = is_a_ok _ _ _ _ revoked.1;
      members_are = first.values ∙ ap (◌∷◌ first.value) (second.values ∙ ap (◌++◌ second.tagged) (ended_ok _ _ _ done.1) ∙ append-nil second.tagged);
      time_is = first.is;
      reason_is = second.is;
    }

revoked_again : (value : Place) (code : ℕ) → IsRevokedInfo value code → revoked_info value ≡ Ok (Revoked code)
unfolding revoked_info
revoked_again value code is =
    let behind : Members = record { values = is.reasons; end = (members value).end } in
    let reason = optional_reason_again behind is.reasons code refl is.reason_is in
    rw (
      is_a_again 0xA1 Layout value is.revoked,
      moment_again (members value) is.time is.reasons is.seconds is.members_are is.time_is,
      reason.1,
      ended_again Layout reason.0 reason.2,
    ) refl

-- good and unknown
empty_is : (octets : List ℕ) → is_empty octets ≡ true → octets ≡ []
empty_is [] e = refl
empty_is (octet ∷ octets) e = absurd cc

null_ok : (said status : CertStatus) (value : Place) → null said value ≡ Ok status → (body value ≡ []) × (said ≡ status)
unfolding null
null_ok said status value e =
    let empty = bind_ok {A = Unit {0}} (check_that (is_empty (body value)) Layout value.at) _ status e in
    (empty_is (body value) (check_ok _ _ _ _ empty.1), ok_is {E = StatementRule × ℕ} said status empty.2)

null_again : (said : CertStatus) (value : Place) → body value ≡ [] → null said value ≡ Ok said
unfolding null
null_again said value none = rw (check_again (is_empty (body value)) Layout value.at (ap is_empty none)) refl

abbrev chosen_status : Bool → Bool → Bool → Place → Result CertStatus (StatementRule × ℕ)
chosen_status good revoked unknown value =
    if good then null Good value
    else (if revoked then revoked_info value
    else (if unknown then null Unknown value else Err (Layout, value.at)))

status_by : (good revoked unknown : Bool) (value : Place) (status : CertStatus) → (tag value == 0x80) ≡ good → (tag value == 0xA1) ≡ revoked → (tag value == 0x82) ≡ unknown → chosen_status good revoked unknown value ≡ Ok status → IsCertStatus value status
status_by true revoked unknown value status g r u e =
    let found = null_ok Good status value e in
    subst (IsCertStatus value) found.1 (eqb-true (tag value) 0x80 g, found.0)
status_by false true unknown value status g r u e = revoked_ok value status e
status_by false false true value status g r u e =
    let found = null_ok Unknown status value e in
    subst (IsCertStatus value) found.1 (eqb-true (tag value) 0x82 u, found.0)
status_by false false false value status g r u e = absurd cc

status_at_ok : (value : Place) (status : CertStatus) → status_at value ≡ Ok status → IsCertStatus value status
unfolding status_at
status_at_ok value status e = status_by (tag value == 0x80) (tag value == 0xA1) (tag value == 0x82) value status refl refl refl e

status_at_again : (value : Place) (status : CertStatus) → IsCertStatus value status → status_at value ≡ Ok status
unfolding status_at
status_at_again value Good is = rw is.0 (null_again Good value is.1)
status_at_again value (Revoked code) is = rw is.revoked (revoked_again value code is)
status_at_again value Unknown is = rw is.0 (null_again Unknown value is.1)

pub status_ok : (left : Members) (x : CertStatus × Members) → cert_status left ≡ Ok x → TakesValue (λ value. IsCertStatus value x.0) left x.1
unfolding cert_status
status_ok left x e =
    let value = bind_ok {A = Place × Members} (next_or Layout left) _ x e in
    let status = bind_ok {A = CertStatus} (status_at value.0.0) _ x value.2 in
    let next = next_or_ok Layout left value.0 value.1 in
    let P : CertStatus × Members → Type 0 = λ y. TakesValue (λ value. IsCertStatus value y.0) left y.1 in
    subst P (ok_is {E = StatementRule × ℕ} (status.0, value.0.1) x status.2)
    record { value = value.0.0; values = next.values; is = status_at_ok value.0.0 status.0 status.1 }

pub status_again : (left : Members) (value : Place) (others : List Place) (status : CertStatus) → left.values ≡ value ∷ others → IsCertStatus value status → cert_status left ≡ Ok (status, record { values = others; end = left.end })
unfolding cert_status
status_again left value others status e is = rw (next_or_again Layout left value others e, status_at_again value status is) refl
