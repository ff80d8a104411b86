-- What responses say in the two profiles.
use Rattle.std.proofs.Common.{arith, ◌≡◌, ◌≢◌, ℕ, ℤ, Bool, true, false, List, [], ◌∷◌, map, filter, Contains, Option, Some, None, option_map, Result, Ok, refl, sym, ap, ◌∙◌, subst}
use Rattle.std.specs.List.{filter_map, cons_option, AllByRecursion}
use Rattle.std.specs.Option.{option_or}
use Rattle.std.proofs.lemmas.List.Elements.{Contains-append_right}
use Rattle.cert.specs.Certificate.{Certificate}
use Rattle.statements_facts.specs.declared.profile.Profile.TheVariants.{Stated, Wide}
use Rattle.statements_facts.specs.Single.{SingleFact, some_singles}
use Rattle.statements_parts.specs.declared.fault.StatementFault.{StatementFault}
use Rattle.statements_ocsp.specs.CertificateId.{CertId}
use Rattle.statements_ocsp.specs.OcspResponse.{OcspResponse}
use Rattle.statements_ocsp.specs.Single.{SingleResponse}
use Rattle.statements.specs.CertificateIds.{named_in, named_by_sha256, hashes_of}
use Rattle.statements.specs.Genuine.{Accepts}
use Rattle.statements.specs.OcspFact.{single_fact, single_said, singles_of, speaks_for, stated_fact, signer_or_fault, or_nothing, response_said, StatedIdsAreBySha1, WideResponsesSayMore}
use Rattle.statements.specs.Responder.{Signer, signer_of}
use Rattle.statements.proofs.Genuineness.{then_ok}
use Rattle.statements.proofs.Responses.{were_some, are_some}

-- ---- the stated profile

stated_each : (issuer : Certificate) (signer : Signer) (at : ℤ) (responses : List SingleResponse)
    → filter_map (single_said Stated issuer signer at) responses ≡ map (stated_fact signer at) (filter (speaks_for issuer) responses)
stated_each issuer signer at [] = refl
stated_each issuer signer at (x ∷ xs) = by (stated_each issuer signer at xs) (speaks_for issuer x) refl where
  by : filter_map (single_said Stated issuer signer at) xs ≡ map (stated_fact signer at) (filter (speaks_for issuer) xs)
      → (b : Bool) → speaks_for issuer x ≡ b
      → filter_map (single_said Stated issuer signer at) (x ∷ xs) ≡ map (stated_fact signer at) (filter (speaks_for issuer) (x ∷ xs))
  by rest true e = rw e (ap (λ more. stated_fact signer at x ∷ more) rest)
  by rest false e = rw e rest

pub stated_ids_are_by_sha1 : StatedIdsAreBySha1
stated_ids_are_by_sha1 issuer response signer = stated_each issuer signer response.produced_at response.responses

-- ---- the wide one

named_too : (issuer : Certificate) (id : CertId) (name : List ℕ) → named_in Stated issuer id ≡ Some name → named_in Wide issuer id ≡ Some name
named_too issuer id name e = ap (λ found. option_or found (named_by_sha256 (hashes_of issuer) id)) e

said_too : (issuer : Certificate) (signer : Signer) (at : ℤ) (x : SingleResponse) (fact : SingleFact)
    → single_said Stated issuer signer at x ≡ Some fact → single_said Wide issuer signer at x ≡ Some fact
said_too issuer signer at x fact e = by (named_in Stated issuer x.id) refl where
  by : (found : Option (List ℕ)) → named_in Stated issuer x.id ≡ found → single_said Wide issuer signer at x ≡ Some fact
  by None is = (let none = sym (ap (option_map (single_fact signer at x)) is) ∙ e in absurd cc)
  by (Some name) is =
      ap (option_map (single_fact signer at x)) (named_too issuer x.id name is) ∙ sym (ap (option_map (single_fact signer at x)) is) ∙ e

module _ {X Y : Type 0} (some more : X → Option Y) (too : (x : X) (y : Y) → some x ≡ Some y → more x ≡ Some y) where
  behind : (found : Option Y) (all : List Y) (y : Y) → Contains all y → Contains (cons_option found all) y
  behind None all y there = there
  behind (Some first) all y there = Contains-append_right (first ∷ []) all y there

  all_behind : (found : Option Y) (all ys : List Y) → AllByRecursion (Contains all) ys → AllByRecursion (Contains (cons_option found all)) ys
  all_behind found all [] there = tt
  all_behind found all (y ∷ ys) there = (behind found all y there.0, all_behind found all ys there.1)

  at_head : (all : List Y) (y : Y) → Contains (y ∷ all) y
  at_head all y = (0, omega arith, refl)

  each_too : (xs : List X) → AllByRecursion (Contains (filter_map more xs)) (filter_map some xs)
  each_too [] = tt
  each_too (x ∷ xs) = by (each_too xs) (some x) refl where
    by : AllByRecursion (Contains (filter_map more xs)) (filter_map some xs)
        → (found : Option Y) → some x ≡ found → AllByRecursion (Contains (filter_map more (x ∷ xs))) (filter_map some (x ∷ xs))
    by rest None is = rw is (all_behind (more x) (filter_map more xs) (filter_map some xs) rest)
    by rest (Some y) is =
        let head : Contains (filter_map more (x ∷ xs)) y = rw (too x y is) (at_head (filter_map more xs) y) in
        rw is (head, all_behind (more x) (filter_map more xs) (filter_map some xs) rest)

some_too : (all singles : List SingleFact) → singles ≢ [] → AllByRecursion (Contains all) singles → all ≢ []
some_too all [] some too = absurd (some refl)
some_too [] (single ∷ singles) some too = (let there = too.0 in absurd (omega (arith, there.1)))
some_too (one ∷ all) (single ∷ singles) some too = λ none. absurd cc

module _ (accepts : Accepts) (issuer : Certificate) (response : OcspResponse) where
  abbrev SaysMore : List SingleFact → Type 0
  SaysMore singles = (all : List SingleFact) × (response_said Wide accepts issuer response ≡ Ok all) × AllByRecursion (Contains all) singles

  signed_says_more : (signer : Signer) → signer_or_fault (signer_of accepts issuer response) ≡ Ok signer → singles_of Stated issuer response signer ≢ []
      → SaysMore (singles_of Stated issuer response signer)
  signed_says_more signer found some =
      let all = singles_of Wide issuer response signer in
      let too = each_too (single_said Stated issuer signer response.produced_at) (single_said Wide issuer signer response.produced_at)
      (said_too issuer signer response.produced_at) response.responses in
      (all, rw found (are_some all (some_too all (singles_of Stated issuer response signer) some too)), too)

pub wide_responses_say_more : WideResponsesSayMore
wide_responses_say_more accepts issuer response singles e =
    let ends : Signer → Result (List SingleFact) StatementFault = λ signer. or_nothing (some_singles (singles_of Stated issuer response signer)) in
    let signer = then_ok (signer_or_fault (signer_of accepts issuer response)) ends singles e in
    let said = were_some (singles_of Stated issuer response signer.0) singles signer.2 in
    let some = rw said.0 at said.1 in
    subst (SaysMore accepts issuer response) (sym said.0) (signed_says_more accepts issuer response signer.0 signer.1 some)
