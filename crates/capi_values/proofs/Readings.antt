-- What several texts are read as.
use Rattle.std.proofs.Common.{◌≡◌, ◌<◌, ◌≤◌, ◌++◌, ℕ, ℤ, zero, suc, List, [], ◌∷◌, length}
use Rattle.std.proofs.Common.{map, take, drop, Option, Result, Ok, Err, refl, ap, ◌∙◌, arith, subst}
use Rattle.std.specs.Prelude.{slice_index_or}
use Rattle.std.proofs.lemmas.List.{take_all, take-append-le}
use Rattle.cert.specs.Certificate.{Certificate, certificate}
use Rattle.cert.specs.declared.fault.CertRule.{CertRule}
use Rattle.cert.specs.declared.fault.CertFault.{CertFault}
use Rattle.path.specs.Query.{Query}
use Rattle.path.specs.ProfileReading.{AreReadIn, IsFirstRefusedIn}
use Rattle.path.specs.ProfileReading as reading
use Rattle.path.specs.declared.options.Options.{Options}
use Rattle.statements_facts.specs.declared.profile.Profile.{Profile}
use Rattle.capi_values.specs.Texts.{AreCertificates, IsQueryRead, Reading, all_read, octets_of_texts, options_of, profile_of, purpose_if_any, query_certificates}
use Rattle.capi_values.specs.declared.texts.QueryOfTexts.{QueryOfTexts}

-- texts that were read have one reading
pub one_reading : {X Y E : Type 0} (read : X → Result Y E) (texts : List X) (one other : List Y) → map read texts ≡ map (λ y. Ok y) one → map read texts ≡ map (λ y. Ok y) other → one ≡ other
one_reading read [] [] [] p q = refl
one_reading read [] [] (z ∷ other) p q = absurd (omega (arith, ap length q))
one_reading read [] (y ∷ one) other p q = absurd (omega (arith, ap length p))
one_reading read (text ∷ texts) [] other p q = absurd (omega (arith, ap length p))
one_reading read (text ∷ texts) (y ∷ one) [] p q = absurd (omega (arith, ap length q))
one_reading read (text ∷ texts) (y ∷ one) (z ∷ other) p q =
    let first : y ≡ z = cc in
    let here : map read texts ≡ map (λ y. Ok y) one = cc in
    let there : map read texts ≡ map (λ y. Ok y) other = cc in
    ap (λ it. it ∷ one) first ∙ ap (λ rest. z ∷ rest) (one_reading read texts one other here there)

-- and none of them is refused
pub none_refused : {X Y E : Type 0} (read : X → Result Y E) (texts : List X) (these : List Y) (d : X) (i : ℕ) (fault : E) → map read texts ≡ map (λ y. Ok y) these → i < length texts → read (slice_index_or texts i d) ≡ Err fault → ⊥
none_refused read [] these d i fault p below is = absurd (omega (arith, below))
none_refused read (text ∷ texts) [] d i fault p below is = absurd (omega (arith, ap length p))
none_refused read (text ∷ texts) (y ∷ these) d zero fault p below is =
    let first : read text ≡ Ok y = cc in
    cc
none_refused read (text ∷ texts) (y ∷ these) d (suc i) fault p below is =
    let rest : map read texts ≡ map (λ y. Ok y) these = cc in
    none_refused read texts these d i fault rest (omega (arith, below)) is

-- ---- certificates

-- what was read of values that are those of a query
pub asked : (query : QueryOfTexts) (options : Options) (anchor : List ℕ) (texts : List (List ℕ)) (moment : ℤ) (purpose : Option (List ℕ)) (read : Query)
    → options ≡ options_of query.wide → anchor ≡ query.anchor.octets.now → texts ≡ octets_of_texts query.path.now → moment ≡ query.moment
    → purpose ≡ purpose_if_any query.purpose.octets.now → reading.IsQueryRead options anchor texts moment purpose read → IsQueryRead query read
asked query options anchor texts moment purpose read options_are anchor_is texts_are moment_is purpose_is is = record {
  anchor_is = subst (λ octets. certificate octets ≡ Ok read.anchor) anchor_is is.anchor_is;
  path_is =
      subst (λ (it : Options). AreReadIn it.profile (octets_of_texts query.path.now) read.certificates) options_are
      (subst (λ them. AreReadIn options.profile them read.certificates) texts_are is.path_is);
  moment_is = is.moment_is ∙ moment_is;
  purpose_is = is.purpose_is ∙ purpose_is;
  options_is = is.options_is ∙ options_are;
}

-- and what is refused
pub refused_of : (query : QueryOfTexts) (profile : Profile) (anchor : List ℕ) (texts : List (List ℕ)) (j : ℕ) (fault : CertFault)
    → profile ≡ profile_of query.wide
    → anchor ≡ query.anchor.octets.now → texts ≡ octets_of_texts query.path.now → IsFirstRefusedIn profile anchor texts j fault
    → IsFirstRefusedIn (profile_of query.wide) query.anchor.octets.now (octets_of_texts query.path.now) j fault
refused_of query profile anchor texts j fault profile_is anchor_is texts_are is =
    subst (λ (it : Profile). IsFirstRefusedIn it query.anchor.octets.now (octets_of_texts query.path.now) j fault) profile_is
    (subst (λ (it : List ℕ). IsFirstRefusedIn profile it (octets_of_texts query.path.now) j fault) anchor_is
    (subst (λ them. IsFirstRefusedIn profile anchor them j fault) texts_are is))

pub query_read : (query : QueryOfTexts) (read : Query) → IsQueryRead query read → AreCertificates (query_certificates query) (read.anchor ∷ read.certificates)
query_read query read is = λ k. is.anchor_is k ∷ is.path_is k

-- readings are of one list of certificates
pub read_once : (one other : List Certificate) → all_read one ≡ all_read other → one ≡ other
read_once [] [] same = refl
read_once [] (z ∷ other) same = absurd (omega (arith, ap length same))
read_once (y ∷ one) [] same = absurd (omega (arith, ap length same))
read_once (y ∷ one) (z ∷ other) same =
    let first : y ≡ z = cc in
    let rest : all_read one ≡ all_read other = cc in
    ap (λ it. it ∷ one) first ∙ ap (λ more. z ∷ more) (read_once one other rest)

-- and none of them is a refusal
pub none_is_refused : (these before : List Certificate) (refused : Reading) (behind : List Reading) (fault : CertRule × ℕ)
    → all_read these ≡ all_read before ++ refused ∷ behind → refused ≡ Err fault → ⊥
none_is_refused [] [] refused behind fault are is = absurd (omega (arith, ap length are))
none_is_refused [] (x ∷ before) refused behind fault are is = absurd (omega (arith, ap length are))
none_is_refused (y ∷ these) [] refused behind fault are is = cc
none_is_refused (y ∷ these) (x ∷ before) refused behind fault are is =
    let rest : all_read these ≡ all_read before ++ refused ∷ behind = cc in
    none_is_refused these before refused behind fault rest is

-- ---- arrays

-- an array in which there was room for all holds them at its begin
pub all_written : {X : Type 0} (these old new : List X) (count : ℕ) → new ≡ take (length old) these ++ drop (length these) old → count ≡ length these → count ≤ length old → take count new ≡ these
all_written these old new count written is room =
    ap (take count) (written ∙ ap (λ front. front ++ drop (length these) old) (take_all (length old) these (omega (arith, is, room))))
    ∙ take-append-le count these (drop (length these) old) (omega (arith, is))
    ∙ take_all count these (omega (arith, is))
