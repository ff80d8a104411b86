-- The walk of a response finds what the standard calls one, and nothing else.
use Rattle.std.proofs.Common.{◌≡◌, ◌==◌, ℕ, ℤ, Bool, true, false, List, [], ◌∷◌, ◌++◌, Option, Some, None, Ok, if◌then◌else◌, refl, sym, ap, ◌∙◌, subst}
use Rattle.std.specs.Str.{bytes_eq}
use Rattle.std.specs.List.{AllByRecursion}
use Rattle.std.proofs.lemmas.Bool.{eqb-true}
use Rattle.std.proofs.lemmas.Slice.Eq.{bytes_eq-Decides}
use Rattle.asn.specs.DerLaws.{AreOctets}
use Rattle.asn.specs.Part.{IsWhole}
use Rattle.asn.specs.Place.{Place, tag, body, body_place}
use Rattle.asn.specs.Members.{Members, members, begins}
use Rattle.asn.specs.Walk.{is_a, required, optional, next_or, or_fault, ended, check_that}
use Rattle.asn.specs.Outermost.{nested, outermost}
use Rattle.asn.proofs.Laws.{bind_ok, ok_is, check_ok, check_again, is_a_ok, is_a_again, required_ok, required_again, next_or_ok, next_or_again, ended_ok, ended_again, TakesOptional, optional_is, optional_there, optional_absent, outermost_ok, outermost_again, members_octets, body_octets}
use Rattle.names.specs.GeneralLayout.{NameContents}
use Rattle.cert.specs.AlgorithmIdentifier.{AlgorithmIdentifier, algorithm_identifier}
use Rattle.cert.specs.BitString.{BitString}
use Rattle.cert.specs.CertificateForms.{IsSignature}
use Rattle.cert.proofs.Laws.{is_algorithm, algorithm_is}
use Rattle.statements_parts.specs.Fault.{as_statement_der}
use Rattle.statements_parts.specs.Parts.{statement_component, next_in_statement, name_in_statement, signature_in_statement}
use Rattle.statements_parts.proofs.Laws.{as_der_ok, contained_ok, contained_again, next_read_ok, next_read_again, component_ok, component_again, name_ok, name_again, signature_ok, signature_again}
use Rattle.statements_parts.specs.declared.fault.StatementRule.{StatementRule}
use Rattle.statements_parts.specs.declared.fault.StatementRule.TheVariants.{Layout, NotSuccessful, ResponseType}
use Rattle.statements_ocsp.specs.GeneralizedTime.{generalized_time}
use Rattle.statements_ocsp.specs.ResponseExtensions.{optional_response_extensions}
use Rattle.statements_ocsp.specs.Responder.{Responder, by_name, by_key, named_responder, keyed_responder, responder_at, responder}
use Rattle.statements_ocsp.specs.Single.{SingleResponse}
use Rattle.statements_ocsp.specs.OcspResponse.{ResponseData, all_singles, response_data, certs_of, certs, OcspResponse, Signed, signature_part, response_with, basic_response, contained_response, id_basic, basic_type, response_bytes, explicit_bytes, one_octet, successful, ocsp_response_at, ocsp_response}
use Rattle.statements_ocsp.specs.SingleForms.{IsTagged}
use Rattle.statements_ocsp.specs.ResponseForms.{IsResponderId, IsResponseData, AreCerts, IsBasicResponse, AreResponseBytes, IsOcspResponseAt, OcspResponseIsExact, OcspResponseIsUnique}
use Rattle.statements_ocsp.proofs.ListOfExtensions.{extensions_ok, extensions_again}
use Rattle.statements_ocsp.proofs.StatusLaws.{TakesValue, moment_ok, moment_again}
use Rattle.statements_ocsp.proofs.SingleLaws.{in_order, last_in_order, at_the_end, all_ok, all_again}

-- the responder
named_ok : (value : Place) (found : Responder) → named_responder value ≡ Ok found → IsResponderId value found
unfolding named_responder
named_ok value found e =
    let named = bind_ok {A = Unit {0}} (is_a 0xA1 Layout value) _ found e in
    let name = bind_ok {A = NameContents × Members} (statement_component 0x30 name_in_statement (members value)) _ found named.2 in
    let one = bind_ok {A = Unit {0}} (ended Layout name.0.1) _ found name.2 in
    let inner = component_ok 0x30 name_in_statement (members value) name.0 name.1 in
    subst (IsResponderId value) (ok_is {E = StatementRule × ℕ} (by_name name.0.0) found one.2) (
      inner.value,
      record { explicit = is_a_ok _ _ _ _ named.1; members_are = inner.took.values ∙ ap (◌∷◌ inner.value) (ended_ok _ _ _ one.1) },
      name_ok inner.value name.0.0 inner.read_is,
    )

keyed_ok : (value : Place) (found : Responder) → keyed_responder value ≡ Ok found → IsResponderId value found
unfolding keyed_responder
keyed_ok value found e =
    let keyed = bind_ok {A = Unit {0}} (is_a 0xA2 Layout value) _ found e in
    let hash = bind_ok {A = Place × Members} (required 0x04 Layout (members value)) _ found keyed.2 in
    let one = bind_ok {A = Unit {0}} (ended Layout hash.0.1) _ found hash.2 in
    let inner = required_ok _ _ _ _ hash.1 in
    subst (IsResponderId value) (ok_is {E = StatementRule × ℕ} (by_key (body hash.0.0)) found one.2) (
      hash.0.0,
      record { explicit = is_a_ok _ _ _ _ keyed.1; members_are = inner.values ∙ ap (◌∷◌ hash.0.0) (ended_ok _ _ _ one.1) },
      inner.tag_is,
      refl,
    )

responder_by : (b : Bool) (value : Place) (found : Responder) → (if b then named_responder value else keyed_responder value) ≡ Ok found → IsResponderId value found
responder_by true value found e = named_ok value found e
responder_by false value found e = keyed_ok value found e

responder_at_ok : (value : Place) (found : Responder) → responder_at value ≡ Ok found → IsResponderId value found
unfolding responder_at
responder_at_ok value found e = responder_by (tag value == 0xA1) value found e

named_again : (value : Place) (name : NameContents) → IsResponderId value (by_name name) → named_responder value ≡ Ok (by_name name)
unfolding named_responder
named_again value name (one, is_tagged, is) =
    rw (
      is_a_again 0xA1 Layout value is_tagged.explicit,
      component_again 0x30 name_in_statement (members value) one [] name is_tagged.members_are is.is_name.sequence (name_again one name is),
      ended_again Layout (record { values = []; end = (members value).end }) refl,
    ) refl

keyed_again : (value : Place) (hash : List ℕ) → IsResponderId value (by_key hash) → keyed_responder value ≡ Ok (by_key hash)
unfolding keyed_responder
keyed_again value hash (one, is_tagged, octet_string, is) =
    rw (
      is_a_again 0xA2 Layout value is_tagged.explicit,
      required_again 0x04 Layout (members value) one [] is_tagged.members_are octet_string,
      ended_again Layout (record { values = []; end = (members value).end }) refl,
      ← is,
    ) refl

responder_at_again : (value : Place) (found : Responder) → IsResponderId value found → responder_at value ≡ Ok found
unfolding responder_at
responder_at_again value (by_name name) is = rw is.1.explicit (named_again value name is)
responder_at_again value (by_key hash) is = rw is.1.explicit (keyed_again value hash is)

responder_ok : (left : Members) (x : Responder × Members) → responder left ≡ Ok x → TakesValue (λ value. IsResponderId value x.0) left x.1
unfolding responder
responder_ok left x e =
    let value = bind_ok {A = Place × Members} (next_or Layout left) _ x e in
    let found = bind_ok {A = Responder} (responder_at value.0.0) _ x value.2 in
    let next = next_or_ok Layout left value.0 value.1 in
    let P : Responder × Members → Type 0 = λ y. TakesValue (λ value. IsResponderId value y.0) left y.1 in
    subst P (ok_is {E = StatementRule × ℕ} (found.0, value.0.1) x found.2)
    record { value = value.0.0; values = next.values; is = responder_at_ok value.0.0 found.0 found.1 }

responder_again : (left : Members) (value : Place) (others : List Place) (found : Responder) → left.values ≡ value ∷ others → IsResponderId value found → responder left ≡ Ok (found, record { values = others; end = left.end })
unfolding responder
responder_again left value others found e is = rw (next_or_again Layout left value others e, responder_at_again value found is) refl

-- the signed part
data_from : Responder → ℤ → List SingleResponse → ResponseData
data_from responder produced_at responses = record { responder = responder; produced_at = produced_at; responses = responses }

is_data : (value : Place) (fields : ResponseData) → response_data value ≡ Ok fields → IsResponseData value fields
unfolding response_data data_from
is_data value fields e =
    let sequence = bind_ok {A = Unit {0}} (is_a 0x30 Layout value) _ fields e in
    let who = bind_ok {A = Responder × Members} (responder (members value)) _ fields sequence.2 in
    let moment = bind_ok {A = ℤ × Members} (generalized_time who.0.1) _ fields who.2 in
    let list = bind_ok {A = List SingleResponse × Members} (statement_component 0x30 all_singles moment.0.1) _ fields moment.2 in
    let left = bind_ok {A = Members} (optional_response_extensions list.0.1) _ fields list.2 in
    let done = bind_ok {A = Unit {0}} (ended Layout left.0) _ fields left.2 in
    let first = responder_ok (members value) who.0 who.1 in
    let second = moment_ok who.0.1 moment.0 moment.1 in
    let third = component_ok 0x30 all_singles moment.0.1 list.0 list.1 in
    let fourth = extensions_ok list.0.1 left.0 left.1 in
    let all = all_ok (members third.value).values list.0.0 third.read_is in
    let behind = at_the_end list.0.1.values fourth.tagged left.0.values fourth.values (ended_ok _ _ _ done.1) in
    let found = data_from who.0.0 moment.0.0 list.0.0 in
    subst (IsResponseData value) {x = found} (ok_is {E = StatementRule × ℕ} found fields done.2) record {
      responder = first.value;
      produced_at = second.value;
      responses = third.value;
      extensions = fourth.tagged;
      sequence = is_a_ok _ _ _ _ sequence.1;
      members_are = in_order (members value).values who.0.1.values moment.0.1.values fourth.tagged first.value second.value third.value first.values second.values (last_in_order moment.0.1.values list.0.1.values fourth.tagged third.value third.took.values behind);
      responder_is = first.is;
      produced_at_is = second.is;
      responses_sequence = third.took.tag_is;
      responses_are = all.0;
      few = all.1;
      extensions_are = fourth.are;
    }

data_is : (value : Place) (fields : ResponseData) → IsResponseData value fields → response_data value ≡ Ok fields
unfolding response_data
data_is value fields is =
    let next : List Place → Members = λ values. record { values = values; end = (members value).end } in
    let left = extensions_again (next is.extensions) is.extensions refl is.extensions_are in
    rw (
      is_a_again 0x30 Layout value is.sequence,
      responder_again (members value) is.responder (is.produced_at ∷ is.responses ∷ is.extensions) fields.responder is.members_are is.responder_is,
      moment_again (next (is.produced_at ∷ is.responses ∷ is.extensions)) is.produced_at (is.responses ∷ is.extensions) fields.produced_at refl is.produced_at_is,
      component_again 0x30 all_singles (next (is.responses ∷ is.extensions)) is.responses is.extensions fields.responses refl is.responses_sequence (all_again (members is.responses).values fields.responses is.responses_are is.few),
      left.1,
      ended_again Layout left.0 left.2,
    ) refl

-- certs
record TakesCerts (left : Members) (found : List Place) (others : Members) : Type 0 where
  tagged : List Place
  values : left.values ≡ tagged ++ others.values
  are : AreCerts tagged found

of_certs : (left : Members) (found : Option Place) (others : Members) (x : List Place × Members) → TakesOptional 0xA0 left found others → certs_of found others ≡ Ok x → TakesCerts left x.0 x.1
of_certs left None others x took e =
    let P : List Place × Members → Type 0 = λ y. TakesCerts left y.0 y.1 in
    subst P (ok_is {E = StatementRule × ℕ} ([], others) x e)
    record { tagged = []; values = sym (ap (λ (m : Members). m.values) took.0); are = refl }
of_certs left (Some explicit) others x took e =
    let list = bind_ok {A = Place × Members} (required 0x30 Layout (members explicit)) _ x e in
    let one = bind_ok {A = Unit {0}} (ended Layout list.0.1) _ x list.2 in
    let inner = required_ok _ _ _ _ list.1 in
    let P : List Place × Members → Type 0 = λ y. TakesCerts left y.0 y.1 in
    subst P (ok_is {E = StatementRule × ℕ} ((members list.0.0).values, others) x one.2) record {
      tagged = explicit ∷ [];
      values = took.values;
      are = (
        list.0.0,
        record { explicit = took.tag_is; members_are = inner.values ∙ ap (◌∷◌ list.0.0) (ended_ok _ _ _ one.1) },
        inner.tag_is,
        refl,
      );
    }

certs_ok : (left : Members) (x : List Place × Members) → certs left ≡ Ok x → TakesCerts left x.0 x.1
unfolding certs
certs_ok left x e = of_certs left (optional 0xA0 left).0 (optional 0xA0 left).1 x (optional_is 0xA0 left) e

begins_none : (identifier : ℕ) (left : Members) → left.values ≡ [] → begins identifier left ≡ false
unfolding begins
begins_none identifier left none = rw none refl

certs_again : (left : Members) (tagged : List Place) (found : List Place) → left.values ≡ tagged → AreCerts tagged found → (x : Members) × (certs left ≡ Ok (found, x)) × (x.values ≡ [])
unfolding certs
certs_again left [] found e are = (left, rw (optional_absent 0xA0 left (begins_none 0xA0 left e), are) refl, e)
certs_again left (explicit ∷ []) found e (list, is_tagged, sequence, are) = (
  record { values = []; end = left.end },
  rw (
    optional_there 0xA0 left explicit [] e is_tagged.explicit,
    required_again 0x30 Layout (members explicit) list [] is_tagged.members_are sequence,
    ended_again Layout (record { values = []; end = (members explicit).end }) refl,
    are,
  ) refl,
  refl,
)
certs_again left (explicit ∷ other ∷ tagged) found e are = absurd are

-- what stands behind the signed part
record TakesSigned (left : Members) (found : Signed) : Type 0 where
  algorithm : Place
  tagged : List Place
  values : left.values ≡ algorithm ∷ found.signature.value ∷ tagged
  algorithm_is : algorithm_identifier Layout algorithm ≡ Ok found.algorithm
  signature_is : IsSignature found.signature.value found.signature.octets
  certs_are : AreCerts tagged found.certs

abbrev signed_from : AlgorithmIdentifier → BitString → List Place → Signed
signed_from algorithm signature certs = record { algorithm = algorithm; signature = signature; certs = certs }

signed_ok : (left : Members) (found : Signed) → signature_part left ≡ Ok found → TakesSigned left found
unfolding signature_part
signed_ok left found e =
    let algorithm = bind_ok {A = AlgorithmIdentifier × Members} (next_in_statement (algorithm_identifier Layout) left) _ found e in
    let signature = bind_ok {A = BitString × Members} (statement_component 0x03 signature_in_statement algorithm.0.1) _ found algorithm.2 in
    let given = bind_ok {A = List Place × Members} (certs signature.0.1) _ found signature.2 in
    let done = bind_ok {A = Unit {0}} (ended Layout given.0.1) _ found given.2 in
    let first = next_read_ok (algorithm_identifier Layout) left algorithm.0 algorithm.1 in
    let second = component_ok 0x03 signature_in_statement algorithm.0.1 signature.0 signature.1 in
    let third = certs_ok signature.0.1 given.0 given.1 in
    let behind = at_the_end signature.0.1.values third.tagged given.0.1.values third.values (ended_ok _ _ _ done.1) in
    let read = signature_ok second.value signature.0.0 second.took.tag_is second.read_is in
    let values = first.took.values ∙ ap (◌∷◌ first.value) (last_in_order algorithm.0.1.values signature.0.1.values third.tagged second.value second.took.values behind) in
    subst (TakesSigned left) (ok_is {E = StatementRule × ℕ} (signed_from algorithm.0.0 signature.0.0 given.0.0) found done.2) record {
      algorithm = first.value;
      tagged = third.tagged;
      values = values ∙ ap (λ (v : Place). first.value ∷ v ∷ third.tagged) read.0;
      algorithm_is = first.read_is;
      signature_is = read.1;
      certs_are = third.are;
    }

-- the basic response
is_basic : (value : Place) (fields : OcspResponse) → basic_response value ≡ Ok fields → IsBasicResponse value fields
unfolding basic_response
is_basic value fields e =
    let sequence = bind_ok {A = Unit {0}} (is_a 0x30 Layout value) _ fields e in
    let signed = bind_ok {A = Place × Members} (next_or Layout (members value)) _ fields sequence.2 in
    let tbs = bind_ok {A = ResponseData} (response_data signed.0.0) _ fields signed.2 in
    let behind = bind_ok {A = Signed} (signature_part signed.0.1) _ fields tbs.2 in
    let first = next_or_ok _ _ _ signed.1 in
    let second = signed_ok signed.0.1 behind.0 behind.1 in
    let found = response_with signed.0.0 tbs.0 behind.0 in
    subst (IsBasicResponse value) {x = found} (ok_is {E = StatementRule × ℕ} found fields behind.2) record {
      signed = signed.0.0;
      algorithm = second.algorithm;
      certs = second.tagged;
      tbs = tbs.0;
      behind = behind.0;
      sequence = is_a_ok _ _ _ _ sequence.1;
      members_are = first.values ∙ ap (◌∷◌ signed.0.0) second.values;
      signed_is = is_data signed.0.0 tbs.0 tbs.1;
      algorithm_is = is_algorithm Layout second.algorithm behind.0.algorithm second.algorithm_is;
      signature_is = second.signature_is;
      certs_are = second.certs_are;
      fields_are = refl;
    }

signed_again : (value : Place) (fields : OcspResponse) (left : Members) → (is : IsBasicResponse value fields) → left.values ≡ is.algorithm ∷ is.behind.signature.value ∷ is.certs → signature_part left ≡ Ok is.behind
unfolding signature_part
signed_again value fields left is e =
    let next : List Place → Members = λ values. record { values = values; end = left.end } in
    let given = certs_again (next is.certs) is.certs is.behind.certs refl is.certs_are in
    rw (
      next_read_again (algorithm_identifier Layout) left is.algorithm (is.behind.signature.value ∷ is.certs) is.behind.algorithm e (algorithm_is Layout is.algorithm is.behind.algorithm is.algorithm_is),
      component_again 0x03 signature_in_statement (next (is.behind.signature.value ∷ is.certs)) is.behind.signature.value is.certs is.behind.signature refl is.signature_is.bit_string (signature_again is.behind.signature is.signature_is),
      given.1,
      ended_again Layout given.0 given.2,
    ) refl

basic_is : (value : Place) (fields : OcspResponse) → IsBasicResponse value fields → basic_response value ≡ Ok fields
unfolding basic_response
basic_is value fields is =
    let behind : Members = record { values = is.algorithm ∷ is.behind.signature.value ∷ is.certs; end = (members value).end } in
    rw (
      is_a_again 0x30 Layout value is.sequence,
      next_or_again Layout (members value) is.signed behind.values is.members_are,
      data_is is.signed is.tbs is.signed_is,
      signed_again value fields behind is refl,
      is.fields_are,
    ) refl

-- the bytes
abbrev Octets : Place → Type 0
Octets value = AreOctets value.octets

type_ok : (left x : Members) → basic_type left ≡ Ok x → TakesValue (λ kind. (tag kind ≡ 0x06) × (body kind ≡ id_basic)) left x
unfolding basic_type
type_ok left x e =
    let kind = bind_ok {A = Place × Members} (required 0x06 Layout left) _ x e in
    let basic = bind_ok {A = Unit {0}} (check_that (bytes_eq (body kind.0.0) id_basic) ResponseType kind.0.0.at) _ x kind.2 in
    let first = required_ok _ _ _ _ kind.1 in
    let P : Members → Type 0 = λ m. TakesValue (λ kind. (tag kind ≡ 0x06) × (body kind ≡ id_basic)) left m in
    subst P (ok_is {E = StatementRule × ℕ} kind.0.1 x basic.2)
    record { value = kind.0.0; values = first.values; is = (first.tag_is, (bytes_eq-Decides (body kind.0.0) id_basic).0 (check_ok _ _ _ _ basic.1)) }

type_again : (left : Members) (kind : Place) (others : List Place) → left.values ≡ kind ∷ others → tag kind ≡ 0x06 → body kind ≡ id_basic → basic_type left ≡ Ok (record { values = others; end = left.end })
unfolding basic_type
type_again left kind others e t is =
    rw (required_again 0x06 Layout left kind others e t, check_again (bytes_eq (body kind) id_basic) ResponseType kind.at ((bytes_eq-Decides (body kind) id_basic).1 is)) refl

contained_is : (value : Place) (fields : OcspResponse) → AreOctets value.octets → contained_response value ≡ Ok fields → IsWhole (body value) × IsBasicResponse (body_place value) fields
unfolding contained_response
contained_is value fields fits e =
    let found = bind_ok {A = Place} (as_statement_der (nested value)) (λ inner. basic_response inner) fields e in
    let whole = contained_ok value found.0 (body_octets value fits) found.1 in
    (whole.1, is_basic (body_place value) fields (subst (λ v. basic_response v ≡ Ok fields) whole.0 found.2))

are_bytes : (value : Place) (fields : OcspResponse) → AreOctets value.octets → response_bytes value ≡ Ok fields → AreResponseBytes value fields
unfolding response_bytes
are_bytes value fields fits e =
    let sequence = bind_ok {A = Unit {0}} (is_a 0x30 Layout value) _ fields e in
    let left = bind_ok {A = Members} (basic_type (members value)) _ fields sequence.2 in
    let response = bind_ok {A = OcspResponse × Members} (statement_component 0x04 contained_response left.0) _ fields left.2 in
    let done = bind_ok {A = Unit {0}} (ended Layout response.0.1) _ fields response.2 in
    let first = type_ok (members value) left.0 left.1 in
    let second = component_ok 0x04 contained_response left.0 response.0 response.1 in
    let values = first.values ∙ ap (◌∷◌ first.value) (last_in_order left.0.values response.0.1.values [] second.value second.took.values (ended_ok _ _ _ done.1)) in
    let response_fits = (subst (AllByRecursion Octets) values (members_octets value fits)).1.0 in
    let contained = contained_is second.value response.0.0 response_fits second.read_is in
    subst (AreResponseBytes value) (ok_is {E = StatementRule × ℕ} response.0.0 fields done.2) record {
      kind = first.value;
      response = second.value;
      basic = contained.0.0;
      sequence = is_a_ok _ _ _ _ sequence.1;
      members_are = values;
      identifier = first.is.0;
      kind_is = first.is.1;
      octet_string = second.took.tag_is;
      der = contained.0.1;
      basic_is = contained.1;
    }

contained_back : (value : Place) (fields : OcspResponse) → IsWhole (body value) → IsBasicResponse (body_place value) fields → contained_response value ≡ Ok fields
unfolding contained_response
contained_back value fields whole is = rw (contained_again value whole) (basic_is (body_place value) fields is)

bytes_are : (value : Place) (fields : OcspResponse) → AreResponseBytes value fields → response_bytes value ≡ Ok fields
unfolding response_bytes
bytes_are value fields is =
    let next : List Place → Members = λ values. record { values = values; end = (members value).end } in
    rw (
      is_a_again 0x30 Layout value is.sequence,
      type_again (members value) is.kind (is.response ∷ []) is.members_are is.identifier is.kind_is,
      component_again 0x04 contained_response (next (is.response ∷ [])) is.response [] fields refl is.octet_string (contained_back is.response fields (is.basic, is.der) is.basic_is),
      ended_again Layout (next []) refl,
    ) refl

-- the status
one_is : (octets : List ℕ) (code : ℕ) → one_octet octets ≡ Some code → octets ≡ code ∷ []
one_is [] code e = absurd cc
one_is (octet ∷ []) code e = let same : octet ≡ code = cc in ap (λ (n : ℕ). n ∷ []) same
one_is (octet ∷ other ∷ octets) code e = absurd cc

some_is : {A F : Type 0} (o : Option A) (fault : F) (at : ℕ) (x : A) → or_fault o fault at ≡ Ok x → o ≡ Some x
some_is None fault at x e = absurd cc
some_is (Some y) fault at x e = ap (λ z. Some z) (ok_is y x e)

successful_ok : (value : Place) (u : Unit {0}) → successful value ≡ Ok u → body value ≡ 0 ∷ []
unfolding successful
successful_ok value u e =
    let code = bind_ok {A = ℕ} (or_fault (one_octet (body value)) Layout value.at) _ u e in
    one_is (body value) code.0 (some_is (one_octet (body value)) Layout value.at code.0 code.1) ∙ ap (λ (n : ℕ). n ∷ []) (eqb-true code.0 0 (check_ok _ _ _ _ code.2))

successful_again : (value : Place) → body value ≡ 0 ∷ [] → successful value ≡ Ok tt
unfolding successful
successful_again value is = rw is (check_again (0 == 0) (NotSuccessful 0) value.at refl)

-- the whole response
explicit_ok : (value : Place) (fields : OcspResponse) → AreOctets value.octets → explicit_bytes value ≡ Ok fields → (bytes : Place) × IsTagged 0xA0 value bytes × AreResponseBytes bytes fields
unfolding explicit_bytes
explicit_ok value fields fits e =
    let tagged = bind_ok {A = Unit {0}} (is_a 0xA0 Layout value) _ fields e in
    let response = bind_ok {A = OcspResponse × Members} (next_in_statement response_bytes (members value)) _ fields tagged.2 in
    let one = bind_ok {A = Unit {0}} (ended Layout response.0.1) _ fields response.2 in
    let inner = next_read_ok response_bytes (members value) response.0 response.1 in
    let bytes_fit = (subst (AllByRecursion Octets) inner.took.values (members_octets value fits)).0 in (
      inner.value,
      record { explicit = is_a_ok _ _ _ _ tagged.1; members_are = inner.took.values ∙ ap (◌∷◌ inner.value) (ended_ok _ _ _ one.1) },
      subst (AreResponseBytes inner.value) (ok_is {E = StatementRule × ℕ} response.0.0 fields one.2) (are_bytes inner.value response.0.0 bytes_fit inner.read_is),
    )

explicit_again : (value bytes : Place) (fields : OcspResponse) → IsTagged 0xA0 value bytes → AreResponseBytes bytes fields → explicit_bytes value ≡ Ok fields
unfolding explicit_bytes
explicit_again value bytes fields is_tagged is =
    rw (
      is_a_again 0xA0 Layout value is_tagged.explicit,
      next_read_again response_bytes (members value) bytes [] fields is_tagged.members_are (bytes_are bytes fields is),
      ended_again Layout (record { values = []; end = (members value).end }) refl,
    ) refl

is_response_at : (value : Place) (fields : OcspResponse) → AreOctets value.octets → ocsp_response_at value ≡ Ok fields → IsOcspResponseAt value fields
unfolding ocsp_response_at
is_response_at value fields fits e =
    let sequence = bind_ok {A = Unit {0}} (is_a 0x30 Layout value) _ fields e in
    let status = bind_ok {A = Unit {0} × Members} (statement_component 0x0A successful (members value)) _ fields sequence.2 in
    let response = bind_ok {A = OcspResponse × Members} (next_in_statement explicit_bytes status.0.1) _ fields status.2 in
    let done = bind_ok {A = Unit {0}} (ended Layout response.0.1) _ fields response.2 in
    let first = component_ok 0x0A successful (members value) status.0 status.1 in
    let second = next_read_ok explicit_bytes status.0.1 response.0 response.1 in
    let values = first.took.values ∙ ap (◌∷◌ first.value) (last_in_order status.0.1.values response.0.1.values [] second.value second.took.values (ended_ok _ _ _ done.1)) in
    let explicit_fits = (subst (AllByRecursion Octets) values (members_octets value fits)).1.0 in
    let bytes = explicit_ok second.value response.0.0 explicit_fits second.read_is in
    subst (IsOcspResponseAt value) (ok_is {E = StatementRule × ℕ} response.0.0 fields done.2) record {
      status = first.value;
      explicit = second.value;
      bytes = bytes.0;
      sequence = is_a_ok _ _ _ _ sequence.1;
      members_are = values;
      enumerated = first.took.tag_is;
      successful = successful_ok first.value status.0.0 first.read_is;
      tagged = bytes.1;
      bytes_are = bytes.2;
    }

response_at_is : (value : Place) (fields : OcspResponse) → IsOcspResponseAt value fields → ocsp_response_at value ≡ Ok fields
unfolding ocsp_response_at
response_at_is value fields is =
    let next : List Place → Members = λ values. record { values = values; end = (members value).end } in
    rw (
      is_a_again 0x30 Layout value is.sequence,
      component_again 0x0A successful (members value) is.status (is.explicit ∷ []) tt is.members_are is.enumerated (successful_again is.status is.successful),
      next_read_again explicit_bytes (next (is.explicit ∷ [])) is.explicit [] fields refl (explicit_again is.explicit is.bytes fields is.tagged is.bytes_are),
      ended_again Layout (next []) refl,
    ) refl

pub response_is_exact : OcspResponseIsExact
unfolding ocsp_response
response_is_exact octets fields fits = (
  λ e.
      let value = bind_ok {A = Place} (as_statement_der (outermost octets)) (λ value. ocsp_response_at value) fields e in
      let whole = outermost_ok octets value.0 fits (as_der_ok (outermost octets) value.0 value.1) in
      let at = subst (λ v. ocsp_response_at v ≡ Ok fields) whole.0 value.2 in
      record { value = whole.1.0; der = whole.1.1; layout = is_response_at (record { octets = octets; at = 0 }) fields fits at },
  λ is. rw (outermost_again octets (is.value, is.der)) (response_at_is (record { octets = octets; at = 0 }) fields is.layout),
)

pub response_is_unique : OcspResponseIsUnique
response_is_unique octets one other fits is also =
    ok_is {E = StatementRule × ℕ} one other (sym ((response_is_exact octets one fits).1 is) ∙ (response_is_exact octets other fits).1 also)
