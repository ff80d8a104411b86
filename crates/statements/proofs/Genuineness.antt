-- What a list is answered with, by the checks in their order.
use Rattle.std.proofs.Common.{◌≡◌, ℕ, Bool, true, false, List, [], ◌∷◌, map, Result, Ok, Err, refl, sym, ap, ◌∙◌}
use denote.Ref.{Bor}
use Rattle.names.specs.DistinguishedName.{matching}
use Rattle.names.proofs.Laws.{matching_is_exact}
use Rattle.cert.specs.Certificate.{Certificate}
use Rattle.statements_crl.specs.CertificateList.{CertificateList}
use Rattle.statements_parts.specs.declared.fault.StatementRule.{StatementRule}
use Rattle.statements_parts.specs.declared.fault.StatementFault.{StatementFault}
use Rattle.statements_parts.specs.declared.fault.StatementFault.TheVariants.{Refused, OtherIssuer, BadSignature, NoSigner, NothingForIssuer, Memory}
use Rattle.statements_facts.specs.declared.fact.CrlFacts.{CrlFacts}
use Rattle.statements_facts.specs.Fact.{Fact, crl_fact, crl_issuers, facts_in_list, list_facts}
use Rattle.statements_facts.specs.Statement.{IssuerIdentity, at_point, kept_for}
use Rattle.statements.specs.Genuine.{Accepts, ◌then◌, as_refused, or_else, RefusesUnlessFull, OnFull}
use Rattle.statements.specs.CrlFact.{IsNamed, crl_facts, list_said, of_issuer, is_signed, issuers_of, fact_of_list}

pub then_ok : {A B : Type 0} (r : Result A StatementFault) (f : A → Result B StatementFault) (y : B) → (r then f) ≡ Ok y → (x : A) × (r ≡ Ok x) × (f x ≡ Ok y)
then_ok (Ok x) f y e = (x, refl, e)
then_ok (Err fault) f y e = absurd cc

pub said_is : {A : Type 0} (x y : A) → Path (Result A StatementFault) (Ok x) (Ok y) → x ≡ y
said_is x y e = cc

pub was_read : {A : Type 0} (r : Result A (StatementRule × ℕ)) (x : A) → as_refused r ≡ Ok x → r ≡ Ok x
was_read (Ok y) x e = cc
was_read (Err fault) x e = absurd cc

holds : (b : Bool) (fault : StatementFault) → or_else b fault ≡ Ok tt → b ≡ true
holds true fault e = refl
holds false fault e = absurd cc

pub is_of_issuer : (accepts : Accepts) (issuer : Certificate) (list : CertificateList) → of_issuer accepts issuer list ≡ Ok tt → (matching list.issuer.rdns issuer.subject.rdns ≡ true) × (is_signed accepts issuer list ≡ true)
unfolding of_issuer
is_of_issuer accepts issuer list e =
    let named = then_ok (or_else (matching list.issuer.rdns issuer.subject.rdns) OtherIssuer) (λ named. or_else (is_signed accepts issuer list) BadSignature) tt e in
    (holds (matching list.issuer.rdns issuer.subject.rdns) OtherIssuer named.1, holds (is_signed accepts issuer list) BadSignature named.2)

pub of_issuer_is : (accepts : Accepts) (issuer : Certificate) (list : CertificateList) → matching list.issuer.rdns issuer.subject.rdns ≡ true → is_signed accepts issuer list ≡ true → of_issuer accepts issuer list ≡ Ok tt
unfolding of_issuer
of_issuer_is accepts issuer list named signed = rw (named, signed) refl

-- what a list says is what it says of its issuer
pub record SaysOfIssuer (accepts : Accepts) (issuer : Certificate) (list : CertificateList) (facts : List Fact) : Type 0 where
  pub named : IsNamed issuer list
  pub signed : is_signed accepts issuer list ≡ true
  pub facts_are : facts ≡ crl_facts issuer list

module _ (accepts : Accepts) (issuer : Certificate) (list : CertificateList) (facts : List Fact) where
  pub list_says : list_said accepts issuer list ≡ Ok facts → SaysOfIssuer accepts issuer list facts
  list_says e =
      let is = then_ok (of_issuer accepts issuer list) (λ is. Ok (crl_facts issuer list)) facts e in
      let checked = is_of_issuer accepts issuer list is.1 in
      record {
        named = (matching_is_exact list.issuer.rdns issuer.subject.rdns).0 checked.0;
        signed = checked.1;
        facts_are = sym (said_is (crl_facts issuer list) facts is.2);
      }

  pub says_list : SaysOfIssuer accepts issuer list facts → list_said accepts issuer list ≡ Ok facts
  says_list is =
      let named = (matching_is_exact list.issuer.rdns issuer.subject.rdns).1 is.named in
      rw (of_issuer_is accepts issuer list named is.signed, is.facts_are) refl

-- ---- what the code answers

pub issuer_refused : (accepts : Accepts) (issuer : Certificate) (list : CertificateList) (fault : StatementFault) → of_issuer accepts issuer list ≡ Err fault → RefusesUnlessFull fault (list_said accepts issuer list)
issuer_refused accepts issuer list (Refused rule at) fails = rw fails refl
issuer_refused accepts issuer list OtherIssuer fails = rw fails refl
issuer_refused accepts issuer list BadSignature fails = rw fails refl
issuer_refused accepts issuer list NoSigner fails = rw fails refl
issuer_refused accepts issuer list NothingForIssuer fails = rw fails refl
issuer_refused accepts issuer list Memory fails = tt

pub no_memory_for_the_issuer : (accepts : Accepts) (issuer : Certificate) (list : CertificateList) (fault : StatementFault) (P : Type 0) → of_issuer accepts issuer list ≡ Err fault → OnFull {X = List Fact} (Err fault) P
unfolding of_issuer
no_memory_for_the_issuer accepts issuer list (Refused rule at) P e = tt
no_memory_for_the_issuer accepts issuer list OtherIssuer P e = tt
no_memory_for_the_issuer accepts issuer list BadSignature P e = tt
no_memory_for_the_issuer accepts issuer list NoSigner P e = tt
no_memory_for_the_issuer accepts issuer list NothingForIssuer P e = tt
no_memory_for_the_issuer accepts issuer list Memory P e = absurd (by (matching list.issuer.rdns issuer.subject.rdns) (is_signed accepts issuer list) e) where
  by : (named signed : Bool) → (or_else named OtherIssuer then λ done. or_else signed BadSignature) ≡ Err Memory → ⊥
  by true true e = absurd cc
  by true false e = absurd cc
  by false signed e = absurd cc

pub list_believed : (accepts : Accepts) (issuer : Certificate) (list : CertificateList) (facts : CrlFacts) → of_issuer accepts issuer list ≡ Ok tt → facts.scope ≡ list.scope → crl_issuers facts ≡ issuers_of issuer list → crl_fact facts ≡ fact_of_list list
    → list_said accepts issuer list ≡ Ok (facts_in_list facts)
list_believed accepts issuer list facts is scope_is issuers_are fact_is =
    rw is (ap (λ (said : List Fact). Ok said)
    (sym (ap (λ scope. list_facts scope (crl_fact facts) (crl_issuers facts)) scope_is
    ∙ ap (λ fact. list_facts list.scope fact (crl_issuers facts)) fact_is
    ∙ ap (list_facts list.scope (fact_of_list list)) issuers_are)))

-- ---- for whom a list is kept

at_each : (others : List (Bor (List ℕ))) (issuer : IssuerIdentity) → map (λ (point : Bor (List ℕ)). at_point point.now issuer) others ≡ map (λ name. at_point name issuer) (map (λ (point : Bor (List ℕ)). point.now) others)
at_each [] issuer = refl
at_each (point ∷ others) issuer = ap (λ more. at_point point.now issuer ∷ more) (at_each others issuer)

pub kept_for_each : (slices : List (Bor (List ℕ))) (points : List (List ℕ)) (first : Bor (List ℕ)) (others : List (Bor (List ℕ))) (own issuer at_first : IssuerIdentity) (at_others : List IssuerIdentity)
    → map (λ (point : Bor (List ℕ)). point.now) slices ≡ points → slices ≡ first ∷ others → own ≡ issuer → at_first ≡ at_point first.now own → at_others ≡ map (λ (point : Bor (List ℕ)). at_point point.now own) others
    → at_first ∷ at_others ≡ kept_for points issuer
kept_for_each slices points first others own issuer at_first at_others are some is first_is others_are =
    (λ k. first_is k ∷ others_are k)
    ∙ ap (λ i. at_point first.now i ∷ map (λ (point : Bor (List ℕ)). at_point point.now i) others) is
    ∙ ap (λ more. at_point first.now issuer ∷ more) (at_each others issuer)
    ∙ ap (λ ps. kept_for ps issuer) (sym (ap (map (λ (point : Bor (List ℕ)). point.now)) some) ∙ are)
