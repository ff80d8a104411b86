-- Statements are read and believed exactly where the standards say so.
use Rattle.std.proofs.Common.{◌≡◌, ℕ, Bool, true, false, List, [], ◌∷◌, map, Result, Ok, Err, inl, inr, if◌then◌else◌, refl, sym, ap, ◌∙◌}
use Rattle.asn.specs.DerLaws.{AreOctets}
use Rattle.asn.specs.Outermost.{outermost}
use Rattle.asn.specs.Members.{begins}
use Rattle.asn.specs.Place.{Place}
use Rattle.asn.specs.Walk.{◌>>=◌}
use Rattle.asn.proofs.Laws.{bind_ok, outermost_again}
use Rattle.cert.specs.Certificate.{Certificate}
use Rattle.statements_facts.specs.declared.profile.Profile.{Profile}
use Rattle.statements_facts.specs.declared.profile.Profile.TheVariants.{Stated, Wide}
use Rattle.statements_crl.specs.CertificateList.{CertificateList, certificate_list_at_under, certificate_list_under}
use Rattle.statements_crl.specs.ListForms.{IsCertificateList, IsCertificateListUnder, IsCertificateListAtUnder}
use Rattle.statements_crl.proofs.Laws.{list_is_exact_under, stated_is_wide, stated_lists_are_whole}
use Rattle.statements_ocsp.specs.Kind.{is_response}
use Rattle.statements_ocsp.specs.OcspResponse.{OcspResponse, ocsp_response, ocsp_response_at}
use Rattle.statements_ocsp.specs.ResponseForms.{IsOcspResponse, IsOcspResponseAt}
use Rattle.statements_ocsp.proofs.Laws.{response_is_exact}
use Rattle.statements_parts.specs.Fault.{as_statement_der}
use Rattle.statements_parts.specs.declared.fault.StatementRule.{StatementRule}
use Rattle.statements_facts.specs.Fact.{Fact, list_facts}
use Rattle.statements_facts.specs.Statement.{kept_for}
use Rattle.statements.specs.CrlFact.{fact_of_list, crl_facts, slot_of}
use Rattle.statements.specs.Genuine.{Accepts, ◌then◌, as_refused}
use Rattle.statements.specs.Issuer.{identity_of}
use Rattle.statements.specs.OcspFact.{fact_with, response_said}
use Rattle.statements.specs.Statement.{Statement, StatementIsExact, StatementIsExactUnder, IsStatementUnder, StatedStatementsAreReadWide, in_wide, IsGenuine, IsGenuineUnder, GenuineStatementsAreFacts, GenuineStatementsAreFactsUnder, genuine_statement_under, statement_at_under, statement_under, statement_said}
use Rattle.statements.proofs.Genuineness.{then_ok, said_is, was_read, list_says, says_list}
use Rattle.statements.proofs.Responses.{response_says, says_response}

abbrev whole : List ℕ → Place
whole octets = record { octets = octets; at = 0 }

-- the kind of what is a list, and of what is a response
list_kind : (profile : Profile) (value : Place) (list : CertificateList) → IsCertificateListAtUnder profile value list → is_response value ≡ false
unfolding is_response begins
list_kind profile value list is = rw (is.members_are, is.signed_is.sequence, is.sequence) refl

response_kind : (value : Place) (response : OcspResponse) → IsOcspResponseAt value response → is_response value ≡ true
unfolding is_response begins
response_kind value response is = rw (is.members_are, is.enumerated, is.sequence) refl

-- a value of one kind is read so
reads_list : (profile : Profile) (value : Place) (list : CertificateList) → statement_at_under profile value ≡ Ok (Statement.OfList list) → certificate_list_at_under profile value ≡ Ok list
unfolding statement_at_under
reads_list profile value list e = by (is_response value) (ocsp_response_at value) (certificate_list_at_under profile value) e where
  by : (b : Bool) (response : Result OcspResponse (StatementRule × ℕ)) (found : Result CertificateList (StatementRule × ℕ))
      → (if b then (response >>= λ response. Ok (Statement.OfResponse profile response)) else (found >>= λ list. Ok (Statement.OfList list))) ≡ Ok (Statement.OfList list)
      → found ≡ Ok list
  by true (Ok response) found e = absurd cc
  by true (Err fault) found e = absurd cc
  by false response (Ok found) e = cc
  by false response (Err fault) e = absurd cc

reads_response : (profile own : Profile) (value : Place) (response : OcspResponse) → statement_at_under profile value ≡ Ok (Statement.OfResponse own response) → (own ≡ profile) × (ocsp_response_at value ≡ Ok response)
unfolding statement_at_under
reads_response profile own value response e = by (is_response value) (ocsp_response_at value) (certificate_list_at_under profile value) e where
  by : (b : Bool) (found : Result OcspResponse (StatementRule × ℕ)) (list : Result CertificateList (StatementRule × ℕ))
      → (if b then (found >>= λ response. Ok (Statement.OfResponse profile response)) else (list >>= λ list. Ok (Statement.OfList list))) ≡ Ok (Statement.OfResponse own response)
      → (own ≡ profile) × (found ≡ Ok response)
  by true (Ok found) list e = (cc, cc)
  by true (Err fault) list e = absurd cc
  by false found (Ok list) e = absurd cc
  by false found (Err fault) e = absurd cc

list_read : (profile : Profile) (octets : List ℕ) (list : CertificateList) → AreOctets octets → statement_under profile octets ≡ Ok (Statement.OfList list) → IsCertificateListUnder profile octets list
unfolding statement_under certificate_list_under
list_read profile octets list fits e =
    let value = bind_ok {A = Place} (as_statement_der (outermost octets)) (λ value. statement_at_under profile value) (Statement.OfList list) e in
    (list_is_exact_under profile octets list fits).0 (rw value.1 (reads_list profile value.0 list value.2))

response_read : (profile own : Profile) (octets : List ℕ) (response : OcspResponse) → AreOctets octets → statement_under profile octets ≡ Ok (Statement.OfResponse own response) → (own ≡ profile) × IsOcspResponse octets response
unfolding statement_under ocsp_response
response_read profile own octets response fits e =
    let value = bind_ok {A = Place} (as_statement_der (outermost octets)) (λ value. statement_at_under profile value) (Statement.OfResponse own response) e in
    let reads = reads_response profile own value.0 response value.2 in
    (reads.0, (response_is_exact octets response fits).0 (rw value.1 reads.1))

read_list : (profile : Profile) (octets : List ℕ) (list : CertificateList) → AreOctets octets → IsCertificateListUnder profile octets list → statement_under profile octets ≡ Ok (Statement.OfList list)
unfolding statement_under statement_at_under certificate_list_under
read_list profile octets list fits is =
    let value = outermost_again octets (is.value, is.der) in
    let read : certificate_list_at_under profile (whole octets) ≡ Ok list = (let all = (list_is_exact_under profile octets list fits).1 is in rw value at all) in
    rw (value, list_kind profile (whole octets) list is.layout, read) refl

read_response : (profile : Profile) (octets : List ℕ) (response : OcspResponse) → AreOctets octets → IsOcspResponse octets response → statement_under profile octets ≡ Ok (Statement.OfResponse profile response)
unfolding statement_under statement_at_under ocsp_response
read_response profile octets response fits is =
    let value = outermost_again octets (is.value, is.der) in
    let read : ocsp_response_at (whole octets) ≡ Ok response = (let all = (response_is_exact octets response fits).1 is in rw value at all) in
    rw (value, response_kind (whole octets) response is.layout, read) refl

read_back : (profile own : Profile) (octets : List ℕ) (response : OcspResponse) → AreOctets octets → (own ≡ profile) × IsOcspResponse octets response → statement_under profile octets ≡ Ok (Statement.OfResponse own response)
read_back profile own octets response fits is = rw is.0 (read_response profile octets response fits is.1)

pub statement_is_exact_under : (profile : Profile) → StatementIsExactUnder profile
statement_is_exact_under profile octets (Statement.OfList list) fits = (list_read profile octets list fits, read_list profile octets list fits)
statement_is_exact_under profile octets (Statement.OfResponse own response) fits = (response_read profile own octets response fits, read_back profile own octets response fits)

pub statement_is_exact : StatementIsExact
statement_is_exact octets (Statement.OfList list) fits = (list_read Stated octets list fits, read_list Stated octets list fits)
statement_is_exact octets (Statement.OfResponse own response) fits = (response_read Stated own octets response fits, read_back Stated own octets response fits)

wide_is : (octets : List ℕ) (read : Statement) → IsStatementUnder Stated octets read → IsStatementUnder Wide octets (in_wide read)
wide_is octets (Statement.OfList list) is = stated_is_wide octets list is
wide_is octets (Statement.OfResponse own response) is = (refl, is.1)

pub stated_statements_are_read_wide : StatedStatementsAreReadWide
stated_statements_are_read_wide octets read fits e =
    (statement_is_exact_under Wide octets (in_wide read) fits).1 (wide_is octets read ((statement_is_exact_under Stated octets read fits).0 e))

-- ---- what is genuine

module _ (profile : Profile) (accepts : Accepts) (issuer : Certificate) (octets : List ℕ) (facts : List Fact) (fits : AreOctets octets) where
  is_said : (read : Statement) → statement_under profile octets ≡ Ok read → statement_said accepts issuer read ≡ Ok facts → IsGenuineUnder profile accepts issuer octets facts
  is_said (Statement.OfList list) read said =
      let says = list_says accepts issuer list facts said in
      inl record { list = list; is_list = list_read profile octets list fits read; named = says.named; signed = says.signed; facts_are = says.facts_are }
  is_said (Statement.OfResponse own response) read said =
      let is = response_read profile own octets response fits read in
      let said = rw is.0 at said in
      let told = then_ok (response_said profile accepts issuer response) (λ singles. Ok (map (fact_with (identity_of issuer)) singles)) facts said in
      let says = response_says profile accepts issuer response told.0 told.1 in
      inr (told.0, record { response = response; is_response = is.1; signer = says.signer; is_signer = says.is_signer; singles_are = says.singles_are; some = says.some }, sym (said_is (map (fact_with (identity_of issuer)) told.0) facts told.2))

  is_genuine : genuine_statement_under profile accepts issuer octets ≡ Ok facts → IsGenuineUnder profile accepts issuer octets facts
  unfolding genuine_statement_under
  is_genuine e =
      let read = then_ok (as_refused (statement_under profile octets)) (λ read. statement_said accepts issuer read) facts e in
      is_said read.0 (was_read (statement_under profile octets) read.0 read.1) read.2

  genuine_is : IsGenuineUnder profile accepts issuer octets facts → genuine_statement_under profile accepts issuer octets ≡ Ok facts
  unfolding genuine_statement_under
  genuine_is (inl is) =
      let said = says_list accepts issuer is.list facts record { named = is.named; signed = is.signed; facts_are = is.facts_are } in
      rw (read_list profile octets is.list fits is.is_list, said) refl
  genuine_is (inr (singles, is, facts_are)) =
      let said = says_response profile accepts issuer is.response singles record { signer = is.signer; is_signer = is.is_signer; singles_are = is.singles_are; some = is.some } in
      rw (read_response profile octets is.response fits is.is_response, said, facts_are) refl

pub statements_are_facts_under : (profile : Profile) → GenuineStatementsAreFactsUnder profile
statements_are_facts_under profile accepts issuer octets facts fits = (is_genuine profile accepts issuer octets facts fits, genuine_is profile accepts issuer octets facts fits)

-- ---- and in the stated profile, where lists are whole

module _ (accepts : Accepts) (issuer : Certificate) (octets : List ℕ) (facts : List Fact) (fits : AreOctets octets) where
  is_whole : (list : CertificateList) → IsCertificateList octets list → list.points ≡ []
  is_whole list is = stated_lists_are_whole octets list fits ((list_is_exact_under Stated octets list fits).1 is)

  one_fact : (list : CertificateList) → IsCertificateList octets list → crl_facts issuer list ≡ Fact.OfCrl (slot_of issuer list) (fact_of_list list) ∷ []
  one_fact list is = ap (λ points. list_facts list.scope (fact_of_list list) (kept_for points (identity_of issuer))) (is_whole list is)

  stated_is : IsGenuineUnder Stated accepts issuer octets facts → IsGenuine accepts issuer octets facts
  stated_is (inl is) = inl (
    slot_of issuer is.list,
    fact_of_list is.list,
    record { list = is.list; is_list = is.is_list; named = is.named; signed = is.signed; slot_is = refl; fact_is = refl },
    is.facts_are ∙ one_fact is.list is.is_list,
  )
  stated_is (inr is) = inr is

  is_stated : IsGenuine accepts issuer octets facts → IsGenuineUnder Stated accepts issuer octets facts
  is_stated (inl (slot, fact, is, facts_are)) = inl record {
    list = is.list;
    is_list = is.is_list;
    named = is.named;
    signed = is.signed;
    facts_are = rw (facts_are, is.slot_is, is.fact_is) (sym (one_fact is.list is.is_list));
  }
  is_stated (inr is) = inr is

pub statements_are_facts : GenuineStatementsAreFacts
statements_are_facts accepts issuer octets facts fits =
    let under = statements_are_facts_under Stated accepts issuer octets facts fits in
    (λ e. stated_is accepts issuer octets facts fits (under.0 e), λ is. under.1 (is_stated accepts issuer octets facts fits is))
