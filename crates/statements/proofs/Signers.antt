-- The tests of signers decide the relations, and the signer that is found is the one.
use Rattle.std.proofs.Common.{◌≡◌, ℕ, suc, Bool, true, false, not, ◌&&◌, ◌==◌, List, [], ◌∷◌, ◌++◌, length, get_or, Option, Some, None, option_map, Contains, refl, sym, ap, ◌∙◌, subst, arith}
use Rattle.std.specs.List.{find, list_any, AllByRecursion}
use Rattle.std.proofs.lemmas.Bool.{eqb-true}
use Rattle.std.proofs.lemmas.List.Folds.{list_any_at}
use Rattle.std.proofs.lemmas.Slice.Eq.{bytes_eq-Decides}
use Rattle.names.specs.DistinguishedName.{matching}
use Rattle.names.proofs.Laws.{matching_is_exact}
use Rattle.cert.specs.Certificate.{Certificate}
use Rattle.statements_ocsp.specs.Certificates.{certificates_in}
use Rattle.statements_ocsp.specs.OcspResponse.{OcspResponse}
use Rattle.statements_ocsp.specs.Responder.{Responder, by_name, by_key}
use Rattle.statements.specs.Genuine.{Accepts}
use Rattle.statements.specs.Responder.{IsNamedBy, IsAuthorizedResponder, IsSigner, SignsItself, Signer, the_issuer, delegate, key_hash, signs, ocsp_signing, is_named_by, is_signing, is_issued, may_respond, is_responder, signs_itself, delegate_of, signer_of, SignersAreFound}

both : (a b : Bool) → (a && b) ≡ true → (a ≡ true) × (b ≡ true)
both true true e = (refl, refl)
both true false e = absurd cc
both false b e = absurd cc

negated : (b : Bool) → not b ≡ true → b ≡ false
negated true e = absurd cc
negated false e = refl

named_0 : (responder : Responder) (c : Certificate) → is_named_by responder c ≡ true → IsNamedBy responder c
named_0 (by_name name) c e = (matching_is_exact name.rdns c.subject.rdns).0 e
named_0 (by_key hash) c e = (bytes_eq-Decides hash (key_hash c)).0 e

named_1 : (responder : Responder) (c : Certificate) → IsNamedBy responder c → is_named_by responder c ≡ true
named_1 (by_name name) c is = (matching_is_exact name.rdns c.subject.rdns).1 is
named_1 (by_key hash) c is = (bytes_eq-Decides hash (key_hash c)).1 is

lists_0 : (purposes : List (List ℕ)) → list_any is_signing purposes ≡ true → Contains purposes ocsp_signing
lists_0 [] e = absurd cc
lists_0 (x ∷ xs) e = by (lists_0 xs) (is_signing x) refl e where
  by : (list_any is_signing xs ≡ true → Contains xs ocsp_signing) → (b : Bool) → is_signing x ≡ b → list_any is_signing (x ∷ xs) ≡ true → Contains (x ∷ xs) ocsp_signing
  by rest true same e = (0, omega arith, (bytes_eq-Decides x ocsp_signing).0 same)
  by rest false other e = let e = rw other at e in let behind = rest e in (suc behind.0, omega (arith, behind.1), behind.2)

lists_1 : (purposes : List (List ℕ)) → Contains purposes ocsp_signing → list_any is_signing purposes ≡ true
lists_1 purposes (i, within, is) = list_any_at is_signing purposes i ocsp_signing within ((bytes_eq-Decides (get_or purposes i ocsp_signing) ocsp_signing).1 is)

ltb_zero : (n : ℕ) → (suc n == 0) ≡ true → ⊥
ltb_zero n e = let same = eqb-true (suc n) 0 e in omega (arith, same)

empty_0 : (xs : List (List ℕ)) → (length xs == 0) ≡ true → xs ≡ []
empty_0 [] e = refl
empty_0 (x ∷ xs) e = absurd (ltb_zero (length xs) e)

empty_1 : (xs : List (List ℕ)) → xs ≡ [] → (length xs == 0) ≡ true
empty_1 xs e = rw e refl

module _ (accepts : Accepts) (issuer : Certificate) (response : OcspResponse) where
  authorized_0 : (c : Certificate) → is_responder accepts issuer response c ≡ true → IsAuthorizedResponder accepts issuer response c
  unfolding is_responder
  authorized_0 c e =
      let named = both (is_named_by response.responder c) (is_issued accepts issuer c && (may_respond c && signs accepts response c)) e in
      let issued = both (is_issued accepts issuer c) (may_respond c && signs accepts response c) named.1 in
      let by = both (matching c.issuer.rdns issuer.subject.rdns) (accepts c.algorithm.value.octets issuer.key_info.value.octets c.tbs.octets c.signature.octets) issued.0 in
      let may = both (may_respond c) (signs accepts response c) issued.1 in
      let purpose = both (list_any is_signing c.extensions.purposes) (c.extensions.no_check && (not c.extensions.needs_policy_processing && length c.extensions.unrecognised == 0)) may.0 in
      let check = both c.extensions.no_check (not c.extensions.needs_policy_processing && length c.extensions.unrecognised == 0) purpose.1 in
      let known = both (not c.extensions.needs_policy_processing) (length c.extensions.unrecognised == 0) check.1 in
      record {
        named = named_0 response.responder c named.0;
        issued = (matching_is_exact c.issuer.rdns issuer.subject.rdns).0 by.0;
        signed = by.1;
        purpose = lists_0 c.extensions.purposes purpose.0;
        no_check = check.0;
        no_policy = negated c.extensions.needs_policy_processing known.0;
        known = empty_0 c.extensions.unrecognised known.1;
        signs_it = may.1;
      }

  authorized_1 : (c : Certificate) → IsAuthorizedResponder accepts issuer response c → is_responder accepts issuer response c ≡ true
  unfolding is_responder
  authorized_1 c is =
      let signed : accepts c.algorithm.value.octets issuer.key_info.value.octets c.tbs.octets c.signature.octets ≡ true = is.signed in
      let signs_it : signs accepts response c ≡ true = is.signs_it in
      rw (named_1 response.responder c is.named, (matching_is_exact c.issuer.rdns issuer.subject.rdns).1 is.issued, signed, lists_1 c.extensions.purposes is.purpose, is.no_check, is.no_policy, empty_1 c.extensions.unrecognised is.known, signs_it) refl

  not_authorized : (c : Certificate) → is_responder accepts issuer response c ≡ false → ¬ IsAuthorizedResponder accepts issuer response c
  not_authorized c e is = let both_ways : true ≡ false = sym (authorized_1 c is) ∙ e in absurd cc

  not_responder : (c : Certificate) → ¬ IsAuthorizedResponder accepts issuer response c → is_responder accepts issuer response c ≡ false
  not_responder c isnt = by (is_responder accepts issuer response c) refl where
    by : (b : Bool) → is_responder accepts issuer response c ≡ b → is_responder accepts issuer response c ≡ false
    by true e = absurd (isnt (authorized_0 c e))
    by false e = e

  itself_0 : signs_itself accepts issuer response ≡ true → SignsItself accepts issuer response
  unfolding signs_itself
  itself_0 e =
      let parts = both (is_named_by response.responder issuer) (signs accepts response issuer) e in
      (named_0 response.responder issuer parts.0, parts.1)

  itself_1 : SignsItself accepts issuer response → signs_itself accepts issuer response ≡ true
  unfolding signs_itself
  itself_1 is = let signed : signs accepts response issuer ≡ true = is.1 in rw (named_1 response.responder issuer is.0, signed) refl

  -- ---- the first of the certificates

  abbrev pub First : List Certificate → Certificate → Type 0
  First cs c =
      (before : List Certificate) × (after : List Certificate) × (cs ≡ before ++ c ∷ after)
      × IsAuthorizedResponder accepts issuer response c
      × AllByRecursion (λ other. ¬ IsAuthorizedResponder accepts issuer response other) before

  first_0 : (cs : List Certificate) (c : Certificate) → find (is_responder accepts issuer response) cs ≡ Some c → First cs c
  first_0 [] c e = absurd cc
  first_0 (x ∷ xs) c e = by (first_0 xs c) (is_responder accepts issuer response x) refl where
    by : (find (is_responder accepts issuer response) xs ≡ Some c → First xs c) → (b : Bool) → is_responder accepts issuer response x ≡ b → First (x ∷ xs) c
    by rest true is =
        let e = rw is at e in
        let same : x ≡ c = cc in
        ([], xs, ap (λ y. y ∷ xs) same, authorized_0 c (ap (is_responder accepts issuer response) (sym same) ∙ is), tt)
    by rest false isnt =
        let e = rw isnt at e in
        let behind = rest e in
        (x ∷ behind.0, behind.1, ap (λ ys. x ∷ ys) behind.2, behind.3, (not_authorized x isnt, behind.4))

  first_1 : (before after : List Certificate) (c : Certificate) → IsAuthorizedResponder accepts issuer response c → AllByRecursion (λ other. ¬ IsAuthorizedResponder accepts issuer response other) before → find (is_responder accepts issuer response) (before ++ c ∷ after) ≡ Some c
  first_1 [] after c is none = rw (authorized_1 c is) refl
  first_1 (x ∷ before) after c is none = rw (not_responder x none.0) (first_1 before after c is none.1)

  -- ---- the signer

  signer_0 : (signer : Signer) → signer_of accepts issuer response ≡ Some signer → IsSigner accepts issuer response signer
  unfolding delegate_of
  signer_0 signer e = by (signs_itself accepts issuer response) refl where
    by_delegate : signs_itself accepts issuer response ≡ false → (o : Option Certificate) → find (is_responder accepts issuer response) (certificates_in response) ≡ o → option_map (λ c. delegate c) o ≡ Some signer → IsSigner accepts issuer response signer
    by_delegate isnt None found e = absurd cc
    by_delegate isnt (Some c) found e =
        let first = first_0 (certificates_in response) c found in
        let same : delegate c ≡ signer = cc in
        let no : ¬ SignsItself accepts issuer response = λ is. (let both_ways : true ≡ false = sym (itself_1 is) ∙ isnt in absurd cc) in
        subst (IsSigner accepts issuer response) same (no, first.0, first.1, first.2, first.3, first.4)

    by : (b : Bool) → signs_itself accepts issuer response ≡ b → IsSigner accepts issuer response signer
    by true is =
        let e = rw is at e in
        let same : the_issuer ≡ signer = cc in
        subst (IsSigner accepts issuer response) same (itself_0 is)
    by false isnt =
        let e = rw isnt at e in
        by_delegate isnt (find (is_responder accepts issuer response) (certificates_in response)) refl e

  signer_1 : (signer : Signer) → IsSigner accepts issuer response signer → signer_of accepts issuer response ≡ Some signer
  unfolding delegate_of
  signer_1 the_issuer is = rw (itself_1 is) refl
  signer_1 (delegate c) (isnt, before, after, are, is, none) = by (signs_itself accepts issuer response) refl where
    by : (b : Bool) → signs_itself accepts issuer response ≡ b → signer_of accepts issuer response ≡ Some (delegate c)
    by true e = absurd (isnt (itself_0 e))
    by false e = rw (e, are, first_1 before after c is none) refl

pub signers_are_found : SignersAreFound
signers_are_found = record { found = signer_0; only = signer_1 }
