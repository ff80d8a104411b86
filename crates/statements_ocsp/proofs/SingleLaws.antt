-- The walk of a single response finds what the standard calls one, and nothing else; and so do the walks of a list of them.
use Rattle.std.proofs.Common.{◌≡◌, ◌<◌, ◌≤◌, ◌+◌, ℕ, ℤ, false, List, [], ◌∷◌, ◌++◌, append-nil, length, nat_lt, Option, Some, None, Ok, arith, refl, sym, ap, ◌∙◌, subst}
use Rattle.std.specs.List.{AllZip}
use Rattle.std.proofs.lemmas.Bool.{ltb-true, lt-ltb}
use Rattle.asn.specs.Place.{Place, tag}
use Rattle.asn.specs.Members.{Members, members, begins}
use Rattle.asn.specs.Walk.{is_a, required, optional, ended, check_that}
use Rattle.asn.proofs.Laws.{bind_ok, ok_is, check_ok, check_again, is_a_ok, is_a_again, required_ok, required_again, ended_ok, ended_again, TakesOptional, optional_is, optional_there, optional_absent}
use Rattle.cert.specs.AlgorithmIdentifier.{AlgorithmIdentifier, algorithm_identifier}
use Rattle.cert.proofs.Laws.{is_algorithm, algorithm_is}
use Rattle.statements_parts.specs.Parts.{statement_component, next_in_statement, serial_in_statement}
use Rattle.statements_parts.proofs.Laws.{next_read_ok, next_read_again, component_ok, component_again, serial_ok, serial_again}
use Rattle.statements_parts.specs.declared.fault.StatementRule.{StatementRule}
use Rattle.statements_parts.specs.declared.fault.StatementRule.TheVariants.{Layout, TooManySingles}
use Rattle.statements_ocsp.specs.declared.cert_status.CertStatus.{CertStatus}
use Rattle.statements_ocsp.specs.CertificateId.{CertId, cert_id}
use Rattle.statements_ocsp.specs.GeneralizedTime.{generalized_time}
use Rattle.statements_ocsp.specs.CertificateStatus.{cert_status}
use Rattle.statements_ocsp.specs.ResponseExtensions.{optional_response_extensions}
use Rattle.statements_ocsp.specs.Single.{SingleResponse, next_update_of, next_update, single_fields, single, single_after, singles}
use Rattle.statements_ocsp.specs.SingleForms.{IsGeneralizedTimeAt, IsCertId, IsCertStatus, IsNextUpdate, AreUncriticalExtensions, IsSingleResponse, SingleResponseIsExact}
use Rattle.statements_ocsp.proofs.ListOfExtensions.{extensions_ok, extensions_again}
use Rattle.statements_ocsp.proofs.StatusLaws.{moment_ok, moment_again, status_ok, status_again}

-- members, from the values that the steps took
pub in_order : (all first second third : List Place) (a b c : Place) → all ≡ a ∷ first → first ≡ b ∷ second → second ≡ c ∷ third → all ≡ a ∷ b ∷ c ∷ third
in_order all first second third a b c e f g = e ∙ ap (◌∷◌ a) (f ∙ ap (◌∷◌ b) g)

pub last_in_order : (third fourth behind : List Place) (d : Place) → third ≡ d ∷ fourth → fourth ≡ behind → third ≡ d ∷ behind
last_in_order third fourth behind d e f = e ∙ ap (◌∷◌ d) f

pub at_the_end : (left tagged others : List Place) → left ≡ tagged ++ others → others ≡ [] → left ≡ tagged
at_the_end left tagged others e none = e ∙ ap (◌++◌ tagged) none ∙ append-nil tagged

-- the certificate
is_id : (value : Place) (fields : CertId) → cert_id value ≡ Ok fields → IsCertId value fields
unfolding cert_id
is_id value fields e =
    let sequence = bind_ok {A = Unit {0}} (is_a 0x30 Layout value) _ fields e in
    let algorithm = bind_ok {A = AlgorithmIdentifier × Members} (next_in_statement (algorithm_identifier Layout) (members value)) _ fields sequence.2 in
    let name_hash = bind_ok {A = Place × Members} (required 0x04 Layout algorithm.0.1) _ fields algorithm.2 in
    let key_hash = bind_ok {A = Place × Members} (required 0x04 Layout name_hash.0.1) _ fields name_hash.2 in
    let serial = bind_ok {A = List ℕ × Members} (statement_component 0x02 serial_in_statement key_hash.0.1) _ fields key_hash.2 in
    let done = bind_ok {A = Unit {0}} (ended Layout serial.0.1) _ fields serial.2 in
    let first = next_read_ok (algorithm_identifier Layout) (members value) algorithm.0 algorithm.1 in
    let second = required_ok _ _ _ _ name_hash.1 in
    let third = required_ok _ _ _ _ key_hash.1 in
    let fourth = component_ok 0x02 serial_in_statement key_hash.0.1 serial.0 serial.1 in
    let last = last_in_order key_hash.0.1.values serial.0.1.values [] fourth.value fourth.took.values (ended_ok _ _ _ done.1) in
    subst (IsCertId value) (ok_is {E = StatementRule × ℕ} _ fields done.2) record {
      algorithm = first.value;
      name_hash = name_hash.0.0;
      key_hash = key_hash.0.0;
      serial = fourth.value;
      hash = algorithm.0.0;
      sequence = is_a_ok _ _ _ _ sequence.1;
      members_are = in_order (members value).values algorithm.0.1.values name_hash.0.1.values (fourth.value ∷ []) first.value name_hash.0.0 key_hash.0.0 first.took.values second.values (last_in_order name_hash.0.1.values key_hash.0.1.values (fourth.value ∷ []) key_hash.0.0 third.values last);
      algorithm_is = is_algorithm Layout first.value algorithm.0.0 first.read_is;
      name_hash_string = second.tag_is;
      key_hash_string = third.tag_is;
      serial_is = serial_ok fourth.value serial.0.0 fourth.took.tag_is fourth.read_is;
      hash_algorithm = refl;
      issuer_name_hash = refl;
      issuer_key_hash = refl;
    }

id_is : (value : Place) (fields : CertId) → IsCertId value fields → cert_id value ≡ Ok fields
unfolding cert_id
id_is value fields is =
    let next : List Place → Members = λ values. record { values = values; end = (members value).end } in
    let after_algorithm = is.name_hash ∷ is.key_hash ∷ is.serial ∷ [] in
    rw (
      is_a_again 0x30 Layout value is.sequence,
      next_read_again (algorithm_identifier Layout) (members value) is.algorithm after_algorithm is.hash is.members_are (algorithm_is Layout is.algorithm is.hash is.algorithm_is),
      required_again 0x04 Layout (next after_algorithm) is.name_hash (is.key_hash ∷ is.serial ∷ []) refl is.name_hash_string,
      required_again 0x04 Layout (next (is.key_hash ∷ is.serial ∷ [])) is.key_hash (is.serial ∷ []) refl is.key_hash_string,
      component_again 0x02 serial_in_statement (next (is.serial ∷ [])) is.serial [] fields.serial refl is.serial_is.integer (serial_again is.serial fields.serial is.serial_is),
      ended_again Layout (next []) refl,
      ← is.hash_algorithm,
      ← is.issuer_name_hash,
      ← is.issuer_key_hash,
    ) refl

-- nextUpdate
record TakesNextUpdate (left : Members) (moment : Option ℤ) (others : Members) : Type 0 where
  tagged : List Place
  values : left.values ≡ tagged ++ others.values
  is : IsNextUpdate tagged moment

of_next : (left : Members) (found : Option Place) (others : Members) (x : Option ℤ × Members) → TakesOptional 0xA0 left found others → next_update_of found others ≡ Ok x → TakesNextUpdate left x.0 x.1
of_next left None others x took e =
    let P : Option ℤ × Members → Type 0 = λ y. TakesNextUpdate left y.0 y.1 in
    subst P (ok_is {E = StatementRule × ℕ} (None, others) x e)
    record { tagged = []; values = sym (ap (λ (m : Members). m.values) took.0); is = tt }
of_next left (Some explicit) others x took e =
    let moment = bind_ok {A = ℤ × Members} (generalized_time (members explicit)) _ x e in
    let one = bind_ok {A = Unit {0}} (ended Layout moment.0.1) _ x moment.2 in
    let inner = moment_ok (members explicit) moment.0 moment.1 in
    let P : Option ℤ × Members → Type 0 = λ y. TakesNextUpdate left y.0 y.1 in
    subst P (ok_is {E = StatementRule × ℕ} (Some moment.0.0, others) x one.2) record {
      tagged = explicit ∷ [];
      values = took.values;
      is = (
        inner.value,
        record { explicit = took.tag_is; members_are = inner.values ∙ ap (◌∷◌ inner.value) (ended_ok _ _ _ one.1) },
        inner.is,
      );
    }

next_ok : (left : Members) (x : Option ℤ × Members) → next_update left ≡ Ok x → TakesNextUpdate left x.0 x.1
unfolding next_update
next_ok left x e = of_next left (optional 0xA0 left).0 (optional 0xA0 left).1 x (optional_is 0xA0 left) e

-- the tag of the extensions is another
no_update : (left : Members) (tagged : List Place) → left.values ≡ tagged → AreUncriticalExtensions tagged → begins 0xA0 left ≡ false
unfolding begins
no_update left [] e are = rw e refl
no_update left (explicit ∷ []) e (list, is_tagged, is) = rw (e, is_tagged.explicit) refl
no_update left (explicit ∷ other ∷ tagged) e are = absurd are

next_again : (left : Members) (tagged behind : List Place) (moment : Option ℤ) → left.values ≡ tagged ++ behind → IsNextUpdate tagged moment → AreUncriticalExtensions behind → (x : Members) × (next_update left ≡ Ok (moment, x)) × (x.values ≡ behind)
unfolding next_update
next_again left [] behind None e is are = (left, rw (optional_absent 0xA0 left (no_update left behind e are)) refl, e)
next_again left [] behind (Some moment) e is are = absurd is
next_again left (explicit ∷ []) behind None e is are = absurd is
next_again left (explicit ∷ []) behind (Some moment) e (inside, is_tagged, is) are = (
  record { values = behind; end = left.end },
  rw (
    optional_there 0xA0 left explicit behind e is_tagged.explicit,
    moment_again (members explicit) inside [] moment is_tagged.members_are is,
    ended_again Layout (record { values = []; end = (members explicit).end }) refl,
  ) refl,
  refl,
)
next_again left (explicit ∷ other ∷ tagged) behind moment e is are = absurd is

-- the components up to nextUpdate
record TakesFields (value : Place) (fields : SingleResponse) (others : Members) : Type 0 where
  id : Place
  status : Place
  this_update : Place
  next_updates : List Place
  sequence : tag value ≡ 0x30
  values : (members value).values ≡ id ∷ status ∷ this_update ∷ next_updates ++ others.values
  id_is : IsCertId id fields.id
  status_is : IsCertStatus status fields.status
  this_update_is : IsGeneralizedTimeAt this_update fields.this_update
  next_update_is : IsNextUpdate next_updates fields.next_update

abbrev fields_from : CertId × Members → CertStatus × Members → ℤ × Members → Option ℤ × Members → SingleResponse × Members
fields_from id status this next = (record { id = id.0; status = status.0; this_update = this.0; next_update = next.0 }, next.1)

fields_ok : (value : Place) (x : SingleResponse × Members) → single_fields value ≡ Ok x → TakesFields value x.0 x.1
unfolding single_fields
fields_ok value x e =
    let sequence = bind_ok {A = Unit {0}} (is_a 0x30 Layout value) _ x e in
    let id = bind_ok {A = CertId × Members} (next_in_statement cert_id (members value)) _ x sequence.2 in
    let status = bind_ok {A = CertStatus × Members} (cert_status id.0.1) _ x id.2 in
    let this = bind_ok {A = ℤ × Members} (generalized_time status.0.1) _ x status.2 in
    let next = bind_ok {A = Option ℤ × Members} (next_update this.0.1) _ x this.2 in
    let first = next_read_ok cert_id (members value) id.0 id.1 in
    let second = status_ok id.0.1 status.0 status.1 in
    let third = moment_ok status.0.1 this.0 this.1 in
    let fourth = next_ok this.0.1 next.0 next.1 in
    let P : SingleResponse × Members → Type 0 = λ y. TakesFields value y.0 y.1 in
    let found = fields_from id.0 status.0 this.0 next.0 in
    subst P {x = found} (ok_is {E = StatementRule × ℕ} found x next.2) record {
      id = first.value;
      status = second.value;
      this_update = third.value;
      next_updates = fourth.tagged;
      sequence = is_a_ok _ _ _ _ sequence.1;
      values = in_order (members value).values id.0.1.values status.0.1.values (fourth.tagged ++ next.0.1.values) first.value second.value third.value first.took.values second.values (last_in_order status.0.1.values this.0.1.values (fourth.tagged ++ next.0.1.values) third.value third.values fourth.values);
      id_is = is_id first.value id.0.0 first.read_is;
      status_is = second.is;
      this_update_is = third.is;
      next_update_is = fourth.is;
    }

fields_again : (value : Place) (fields : SingleResponse) → (is : IsSingleResponse value fields) → (x : Members) × (single_fields value ≡ Ok (fields, x)) × (x.values ≡ is.extensions)
unfolding single_fields
fields_again value fields is =
    let next : List Place → Members = λ values. record { values = values; end = (members value).end } in
    let after_this = is.next_updates ++ is.extensions in
    let behind = next_again (next after_this) is.next_updates is.extensions fields.next_update refl is.next_update_is is.extensions_are in (
      behind.0,
      rw (
        is_a_again 0x30 Layout value is.sequence,
        next_read_again cert_id (members value) is.id (is.status ∷ is.this_update ∷ after_this) fields.id is.members_are (id_is is.id fields.id is.id_is),
        status_again (next (is.status ∷ is.this_update ∷ after_this)) is.status (is.this_update ∷ after_this) fields.status refl is.status_is,
        moment_again (next (is.this_update ∷ after_this)) is.this_update after_this fields.this_update refl is.this_update_is,
        behind.1,
      ) refl,
      behind.2,
    )

pub is_single : (value : Place) (fields : SingleResponse) → single value ≡ Ok fields → IsSingleResponse value fields
unfolding single
is_single value fields e =
    let read = bind_ok {A = SingleResponse × Members} (single_fields value) _ fields e in
    let left = bind_ok {A = Members} (optional_response_extensions read.0.1) _ fields read.2 in
    let done = bind_ok {A = Unit {0}} (ended Layout left.0) _ fields left.2 in
    let first = fields_ok value read.0 read.1 in
    let second = extensions_ok read.0.1 left.0 left.1 in
    let behind = at_the_end read.0.1.values second.tagged left.0.values second.values (ended_ok _ _ _ done.1) in
    subst (IsSingleResponse value) (ok_is {E = StatementRule × ℕ} read.0.0 fields done.2) record {
      id = first.id;
      status = first.status;
      this_update = first.this_update;
      next_updates = first.next_updates;
      extensions = second.tagged;
      sequence = first.sequence;
      members_are = first.values ∙ ap (λ vs. first.id ∷ first.status ∷ first.this_update ∷ first.next_updates ++ vs) behind;
      id_is = first.id_is;
      status_is = first.status_is;
      this_update_is = first.this_update_is;
      next_update_is = first.next_update_is;
      extensions_are = second.are;
    }

pub single_is : (value : Place) (fields : SingleResponse) → IsSingleResponse value fields → single value ≡ Ok fields
unfolding single
single_is value fields is =
    let read = fields_again value fields is in
    let left = extensions_again read.0 is.extensions read.2 is.extensions_are in
    rw (read.1, left.1, ended_again Layout left.0 left.2) refl

pub single_is_exact : SingleResponseIsExact
single_is_exact value fields = (is_single value fields, single_is value fields)

-- a list of them, with so many before it
record AreSingles (before : ℕ) (values : List Place) (list : List SingleResponse) : Type 0 where
  each : AllZip IsSingleResponse values list
  few : before ≤ 256 → before + length list ≤ 256

behind_ok : (before : ℕ) (value : Place) (fields : SingleResponse) → single_after before value ≡ Ok fields → (before < 256) × IsSingleResponse value fields
unfolding single_after
behind_ok before value fields e =
    let sequence = bind_ok {A = Unit {0}} (is_a 0x30 Layout value) _ fields e in
    let served = bind_ok {A = Unit {0}} (check_that (nat_lt before 256) TooManySingles value.at) _ fields sequence.2 in
    (ltb-true before 256 (check_ok _ _ _ _ served.1), is_single value fields served.2)

behind_again : (before : ℕ) (value : Place) (fields : SingleResponse) → before < 256 → IsSingleResponse value fields → single_after before value ≡ Ok fields
unfolding single_after
behind_again before value fields room is =
    rw (is_a_again 0x30 Layout value is.sequence, check_again (nat_lt before 256) TooManySingles value.at (lt-ltb before 256 room), single_is value fields is) refl

singles_ok : (before : ℕ) (values : List Place) (list : List SingleResponse) → singles before values ≡ Ok list → AreSingles before values list
singles_ok before [] list e =
    subst (AreSingles before []) (ok_is {E = StatementRule × ℕ} [] list e) record { each = tt; few = λ room. omega arith }
singles_ok before (value ∷ values) list e =
    let first = bind_ok {A = SingleResponse} (single_after before value) _ list e in
    let others = bind_ok {A = List SingleResponse} (singles (before + 1) values) _ list first.2 in
    let one = behind_ok before value first.0 first.1 in
    let rest = singles_ok (before + 1) values others.0 others.1 in
    let room = one.0 in
    let few = rest.few (omega arith) in
    subst (AreSingles before (value ∷ values)) (ok_is {E = StatementRule × ℕ} (first.0 ∷ others.0) list others.2) record {
      each = (one.1, rest.each);
      few = λ below. omega arith;
    }

singles_again : (before : ℕ) (values : List Place) (list : List SingleResponse) → AllZip IsSingleResponse values list → before + length list ≤ 256 → singles before values ≡ Ok list
singles_again before [] [] each few = refl
singles_again before [] (one ∷ list) each few = absurd each
singles_again before (value ∷ values) [] each few = absurd each
singles_again before (value ∷ values) (one ∷ list) each few =
    rw (behind_again before value one (omega arith) each.0, singles_again (before + 1) values list each.1 (omega arith)) refl

-- a whole list
pub all_ok : (values : List Place) (list : List SingleResponse) → singles 0 values ≡ Ok list → AllZip IsSingleResponse values list × (length list ≤ 256)
all_ok values list e =
    let are = singles_ok 0 values list e in
    let few = are.few (omega arith) in
    (are.each, omega arith)

pub all_again : (values : List Place) (list : List SingleResponse) → AllZip IsSingleResponse values list → length list ≤ 256 → singles 0 values ≡ Ok list
all_again values list each few = singles_again 0 values list each (omega arith)
