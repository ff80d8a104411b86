-- The certificates of a query and of a search, and the numbers of a path.
use Rattle.std.proofs.Common.{◌≡◌, ◌+◌, ◌-◌, ◌<◌, ◌^◌, ℕ, zero, suc, List, [], ◌∷◌, ◌++◌, Ok, Err, IsOk}
use Rattle.std.proofs.Common.{length, map, take, drop, get_or, reverse, refl, sym, ap, ◌∙◌, subst, inl, inr, arith, append_assoc}
use Rattle.std.specs.List.{AllByRecursion}
use Rattle.std.proofs.lemmas.List.{get_or-reverse, length-append, length-map, length-reverse, map-append, take_more}
use Rattle.cert.specs.declared.fault.CertFault.{CertFault}
use Rattle.cert.specs.declared.fault.CertFault.TheVariants as cert
use Rattle.cert.specs.declared.certificate.Certificate as of_cert
use Rattle.path.specs.InProfile.{certificate_in}
use Rattle.path.specs.ProfileReading.{IsFirstRefusedIn, IsPathRefused}
use Rattle.statements_facts.specs.declared.profile.Profile.{Profile}
use Rattle.statements_facts.specs.declared.profile.Profile.TheVariants.{Stated}
use Rattle.capi_values.specs.Refusal.{IsFirstRefused, TellsCertFault, TellsRefusedOf, certificate_refused}
use Rattle.cert.specs.Certificate.{Certificate, seen_certificate}
use Rattle.cert.specs.Fault.{FailsUnlessFull}
use Rattle.asn.specs.DerLaws.{AreOctets}
use Rattle.path.specs.Query.{Accepts}
use Rattle.path_issuers.specs.Search.{Search}
use Rattle.statements.specs.Statement.{Statement}
use Rattle.relying_agreement.specs.declared.verdict.Verdict.TheVariants.{Valid, Invalid, Revoked, Unknown}
use Rattle.relying_search.specs.Finding.{Finding, HeldFor, IsFinding}
use Rattle.relying_search.specs.declared.finding.FindingBudget.{FindingBudget}
use Rattle.relying_questions.specs.Places.{certificates_of}
use Rattle.relying_texts.specs.Reading.{AreStatementsReadUnder}
use Rattle.capi_values.specs.Finding.{HasNumbers, HavePlaces}
use Rattle.capi_values.specs.Searching.{IsSearchRead, IsSearchReadWith, search_certificates}
use Rattle.capi_values.specs.Texts.{AreAllOctets, AreCertificates, Reading, all_read, all_seen}
use Rattle.capi_values.specs.Texts.{octets_of_texts, options_of, profile_of, purpose_if_any, query_certificates, readings, readings_under}
use Rattle.capi_values.specs.declared.texts.Text.{Text}
use Rattle.capi_values.specs.declared.refusal.Refusal.{Refusal}
use Rattle.capi_values.specs.declared.searching.SearchOfTexts.{SearchOfTexts}
use Rattle.capi_values.specs.declared.texts.QueryOfTexts.{QueryOfTexts}
use Rattle.capi_values.proofs.Fitting.{next_left}

-- ---- the first that is refused

pub tells_refused : (all : List Reading) (index : ℕ) (fault : CertFault) (told : Refusal) → IsFirstRefused all index fault → TellsCertFault index fault told
    → TellsRefusedOf all told
tells_refused all index (cert.Refused rule offset) told first is =
    let both = subst (λ (it : Refusal). IsFirstRefused all it.index (cert.Refused rule it.offset) × (it ≡ certificate_refused rule it.index it.offset))
    (sym is) (first, refl) in
    inl (rule, both.0, both.1)
tells_refused all index cert.Memory told first is = inr is

-- one that is read stands before
behind_one : (first : Reading) (all : List Reading) (j : ℕ) (fault : CertFault) → IsOk first → IsFirstRefused all j fault
    → IsFirstRefused (first ∷ all) (suc j) fault
behind_one (Ok c) all j fault ok rest = record {
  before = c ∷ rest.before;
  refused = rest.refused;
  behind = rest.behind;
  all_are = ap (λ (them : List Reading). Ok c ∷ them) rest.all_are;
  number_is = ap suc rest.number_is;
  fault_is = rest.fault_is;
}
behind_one (Err e) all j fault ok rest = absurd cc

of_path : (profile : Profile) (texts : List (List ℕ)) (i : ℕ) (fault : CertFault) → IsPathRefused profile texts i fault
    → IsFirstRefused (readings_under profile texts) i fault
of_path profile [] i fault is = absurd (omega (arith, is.within))
of_path profile (text ∷ texts) zero fault is = record {
  before = [];
  refused = certificate_in profile text;
  behind = readings_under profile texts;
  all_are = refl;
  number_is = refl;
  fault_is = is.refused;
}
of_path profile (text ∷ texts) (suc i) fault is =
    behind_one (certificate_in profile text) (readings_under profile texts) i fault (is.before 0 (omega arith))
    (of_path profile texts i fault record {
      within = omega (arith, is.within);
      refused = is.refused;
      before = λ k below. is.before (suc k) (omega (arith, below));
    })

-- a certificate that a query refuses
pub query_refused : (query : QueryOfTexts) (j : ℕ) (fault : CertFault)
    → IsFirstRefusedIn (profile_of query.wide) query.anchor.octets.now (octets_of_texts query.path.now) j fault
    → IsFirstRefused (readings (query_certificates query)) j fault
query_refused query j fault (inl (none, fails)) =
    subst (λ (n : ℕ). IsFirstRefused (readings (query_certificates query)) n fault) (sym none) record {
      before = [];
      refused = certificate_in Stated query.anchor.octets.now;
      behind = readings_under (profile_of query.wide) (octets_of_texts query.path.now);
      all_are = refl;
      number_is = refl;
      fault_is = fails;
    }
query_refused query j fault (inr (i, number, ok, is)) =
    let later : j ≡ suc i = omega (arith, number) in
    let profile = profile_of query.wide in
    let path = octets_of_texts query.path.now in
    subst (λ (n : ℕ). IsFirstRefused (readings (query_certificates query)) n fault) (sym later)
    (behind_one (certificate_in Stated query.anchor.octets.now) (readings_under profile path) i fault ok (of_path profile path i fault is))

-- what stands behind does not matter
pub with_more : (all more whole : List Reading) (told : Refusal) → all ++ more ≡ whole → TellsRefusedOf all told → TellsRefusedOf whole told
with_more all more whole told are (inl (rule, first, is)) =
    inl (
      rule,
      record {
        before = first.before;
        refused = first.refused;
        behind = first.behind ++ more;
        all_are =
            sym are ∙ ap (λ (front : List Reading). front ++ more) first.all_are
            ∙ append_assoc (all_read first.before) (first.refused ∷ first.behind) more;
        number_is = first.number_is;
        fault_is = first.fault_is;
      },
      is,
    )
with_more all more whole told are (inr is) = inr is

-- ---- certificates that are added one at a time

seen_more : (old : List of_cert.Certificate) (one : of_cert.Certificate) → all_seen (old ++ one ∷ []) ≡ all_seen old ++ Ok (seen_certificate one) ∷ []
seen_more [] one = refl
seen_more (first ∷ old) one = ap (λ (more : List Reading). Ok (seen_certificate first) ∷ more) (seen_more old one)

pub one_read : (profile : Profile) (old new : List of_cert.Certificate) (one : of_cert.Certificate) (texts : List Text) (whole : List Reading) (i : ℕ)
    (d : Text) → i < length texts
    → certificate_in profile (get_or texts i d).octets.now ≡ Ok (seen_certificate one) → new ≡ old ++ one ∷ []
    → all_seen old ++ readings_under profile (octets_of_texts (drop i texts)) ≡ whole
    → all_seen new ++ readings_under profile (octets_of_texts (drop (i + 1) texts)) ≡ whole
one_read profile old new one texts whole i d below reads grown so_far =
    let left = readings_under profile (octets_of_texts (drop (i + 1) texts)) in
    ap (λ them. all_seen them ++ left) grown
    ∙ ap (λ (front : List Reading). front ++ left) (seen_more old one)
    ∙ append_assoc (all_seen old) (Ok (seen_certificate one) ∷ []) left
    ∙ ap (λ (it : Reading). all_seen old ++ (it ∷ left)) (sym reads)
    ∙ ap (λ rest. all_seen old ++ readings_under profile (octets_of_texts rest)) (sym (next_left texts i d below))
    ∙ so_far

pub one_refused : (profile : Profile) (old : List of_cert.Certificate) (texts : List Text) (whole : List Reading) (i : ℕ) (d : Text) (fault : CertFault)
    → i < length texts
    → FailsUnlessFull fault (certificate_in profile (get_or texts i d).octets.now)
    → all_seen old ++ readings_under profile (octets_of_texts (drop i texts)) ≡ whole → IsFirstRefused whole (length old) fault
one_refused profile old texts whole i d fault below fails so_far = record {
  before = map seen_certificate old;
  refused = certificate_in profile (get_or texts i d).octets.now;
  behind = readings_under profile (octets_of_texts (drop (i + 1) texts));
  all_are = sym so_far ∙ ap (λ rest. all_seen old ++ readings_under profile (octets_of_texts rest)) (next_left texts i d below);
  number_is = sym (length-map old seen_certificate);
  fault_is = fails;
}

-- those from a place on fit if those behind it do
pub one_fits : (texts : List Text) (i : ℕ) (d : Text) → i < length texts → AreOctets (get_or texts i d).octets.now
    → AreAllOctets (octets_of_texts (drop (i + 1) texts)) → AreAllOctets (octets_of_texts (drop i texts))
one_fits texts i d below here later = subst (λ them. AreAllOctets (octets_of_texts them)) (sym (next_left texts i d below)) (here, later)

-- the certificates of a search, in three steps
pub in_order : (old anchors : List Reading) (target : Reading) (bag : List Reading) → old ++ anchors ++ target ∷ [] ++ bag ≡ old ++ (anchors ++ target ∷ bag)
in_order old anchors target bag = append_assoc (old ++ anchors) (target ∷ []) bag ∙ append_assoc old anchors (target ∷ bag)

pub all_fit : (anchors others : List (List ℕ)) → AreAllOctets anchors → AreAllOctets others → AreAllOctets (anchors ++ others)
all_fit [] others first rest = rest
all_fit (text ∷ anchors) others first rest = (first.0, all_fit anchors others first.1 rest)

-- ---- numbers

-- what holds of each place holds of the one with an index
pub have_at : (P : ℕ → Type 0) (places : List ℕ) (i d : ℕ) → AllByRecursion P places → i < length places → P (get_or places i d)
have_at P [] i d all below = absurd (omega (arith, below))
have_at P (place ∷ places) zero d all below = all.0
have_at P (place ∷ places) (suc i) d all below = have_at P places i d all.1 (omega (arith, below))

-- one place more, from the last on
pub one_up : (f : ℕ → ℕ) (first : ℕ) (places numbers new : List ℕ) (i d : ℕ) → i < length places → numbers ≡ first ∷ map f (take i (reverse places))
    → new ≡ numbers ++ f (get_or places (length places - 1 - i) d) ∷ [] → new ≡ first ∷ map f (take (i + 1) (reverse places))
one_up f first places numbers new i d below so_far grown =
    let count : length (reverse places) ≡ length places = length-reverse places in
    grown
    ∙ ap (λ front. front ++ f (get_or places (length places - 1 - i) d) ∷ []) so_far
    ∙ ap (λ it. first ∷ (map f (take i (reverse places)) ++ f it ∷ [])) (sym (get_or-reverse places i d below))
    ∙ ap (λ more. first ∷ more) (sym (map-append f (take i (reverse places)) (get_or (reverse places) i d ∷ [])))
    ∙ ap (λ it. first ∷ map f it) (sym (take_more (reverse places) i d (omega (arith, below, count))))

-- ---- what is found

pub places_fit : (anchors count : ℕ) (places : List ℕ) → anchors + 1 + count < 2 ^ 64 → AllByRecursion (λ place. place < count) places → HavePlaces anchors places
places_fit anchors count [] room there = tt
places_fit anchors count (place ∷ places) room there = (omega (arith, room, there.0), places_fit anchors count places room there.1)

-- the certificates of a path that is found have numbers
pub numbers_fit : (accepts : Accepts) (held : HeldFor) (s : Search) (budget : FindingBudget) (finding : Finding) (anchors : ℕ) → IsFinding accepts held s budget finding → anchors + 1 + length s.bag < 2 ^ 64 → HasNumbers anchors finding
numbers_fit accepts held s budget (Finding.Found c Valid) anchors is room = places_fit anchors (length s.bag) c.above room is.clear.candidate.above
numbers_fit accepts held s budget (Finding.Found c (Invalid j reason)) anchors is room = places_fit anchors (length s.bag) c.above room is.has.candidate.above
numbers_fit accepts held s budget (Finding.Found c (Revoked j reason)) anchors is room = places_fit anchors (length s.bag) c.above room is.has.candidate.above
numbers_fit accepts held s budget (Finding.Found c (Unknown j)) anchors is room = places_fit anchors (length s.bag) c.above room is.has.candidate.above
numbers_fit accepts held s budget Finding.NotFound anchors is room = tt
numbers_fit accepts held s budget Finding.GaveUp anchors is room = tt

-- how many certificates there are
pub count_certificates : (s : Search) (certificates : List Certificate) → certificates_of s ≡ certificates → length certificates ≡ length s.anchors + 1 + length s.bag
count_certificates s certificates are = omega (arith, ap length are, length-append s.anchors (s.target ∷ s.bag))

pub search_is : (search : SearchOfTexts) (read : Search) (certificates : List Certificate) → AreCertificates (search_certificates search) certificates
    → certificates_of read ≡ certificates
    → length read.anchors ≡ length search.anchors.now → read.moment ≡ search.moment → read.purpose ≡ purpose_if_any search.purpose.octets.now
    → read.options ≡ options_of search.wide → IsSearchRead search read
search_is search read certificates are same anchors moment purpose options = record {
  certificates_are = record { certificates = subst (AreCertificates (search_certificates search)) (sym same) are; anchors = anchors };
  moment = moment;
  purpose = purpose;
  options = options;
}

pub search_read : (search : SearchOfTexts) (statements : List Text) (read : Search) (certificates : List Certificate) (these : List Statement)
    → AreCertificates (search_certificates search) certificates → certificates_of read ≡ certificates
    → length read.anchors ≡ length search.anchors.now → read.moment ≡ search.moment → read.purpose ≡ purpose_if_any search.purpose.octets.now
    → read.options ≡ options_of search.wide → AreStatementsReadUnder (profile_of search.wide) (octets_of_texts statements) these → IsSearchReadWith search statements read these
search_read search statements read certificates these are same anchors moment purpose options said = record {
  search_is = search_is search read certificates are same anchors moment purpose options;
  statements_are = said;
}
