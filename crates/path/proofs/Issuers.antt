-- The name and the key that are held are those of the issuer of the next certificate.
use Rattle.std.proofs.Common.{◌≡◌, ◌↔◌, ◌+◌, ◌-◌, ℕ, List, Bool, Option, arith, sym, ap, subst, ◌∙◌, IsTrue}
use Rattle.names.specs.GeneralLayout.{NameContents}
use Rattle.names.specs.DistinguishedName.{NamesMatch}
use Rattle.cert.specs.Certificate.{Certificate}
use Rattle.path_conditions.specs.declared.form_set.FormSet.{FormSet}
use Rattle.path_conditions.specs.Constraints.{Constraints}
use Rattle.path.specs.Query.{Accepts, certificate_numbered}
use Rattle.path.specs.Conditions.{IsNamedByIssuer, IsSignedByIssuer}
use Rattle.path.specs.State.{Progress}
use Rattle.path.specs.Keeping.{Represents}

module _ {V : Type 0} {v w : Progress V} (e : v ≡ w) (issuer : NameContents) (key : List ℕ) (room : Option ℕ) (held : Constraints) (forms : FormSet) (is : Represents v.query v.done issuer key room held forms) where
  before : w.done + 1 - 1 ≡ w.done
  before = omega arith

  name_is : issuer.rdns ≡ (certificate_numbered w.query (w.done + 1 - 1)).subject.rdns
  name_is =
      ap (λ (n : NameContents). n.rdns) is.issuer_is
      ∙ (ap (λ (p : Progress V). (certificate_numbered p.query p.done).subject.rdns) e
      ∙ ap (λ (k : ℕ). (certificate_numbered w.query k).subject.rdns) (sym before))

  key_is : key ≡ (certificate_numbered w.query (w.done + 1 - 1)).key_info.value.octets
  key_is =
      is.key_is
      ∙ (ap (λ (p : Progress V). (certificate_numbered p.query p.done).key_info.value.octets) e
      ∙ ap (λ (k : ℕ). (certificate_numbered w.query k).key_info.value.octets) (sym before))

  pub named : (answer : Bool) (c : Certificate) → c ≡ certificate_numbered w.query (w.done + 1) → IsTrue answer ↔ NamesMatch c.issuer.rdns issuer.rdns
      → IsTrue answer ↔ IsNamedByIssuer (certificate_numbered w.query (w.done + 1)) (certificate_numbered w.query (w.done + 1 - 1)).subject
  named answer c here says =
      subst (λ (d : Certificate). IsTrue answer ↔ NamesMatch d.issuer.rdns (certificate_numbered w.query (w.done + 1 - 1)).subject.rdns) here
      (subst (λ names. IsTrue answer ↔ NamesMatch c.issuer.rdns names) name_is says)

  pub signed : (accepts : V → Accepts) (answer : Bool) (c : Certificate) (octets : List ℕ) → c ≡ certificate_numbered w.query (w.done + 1) → octets ≡ c.signature.octets
      → answer ≡ accepts v.verifier c.algorithm.value.octets key c.tbs.octets octets
      → IsTrue answer ↔ IsSignedByIssuer (accepts w.verifier) (certificate_numbered w.query (w.done + 1)) (certificate_numbered w.query (w.done + 1 - 1)).key_info.value.octets
  signed accepts answer c octets here same judged = (λ t. sym says ∙ t, λ t. says ∙ t)
    where
      says : answer ≡ accepts w.verifier (certificate_numbered w.query (w.done + 1)).algorithm.value.octets (certificate_numbered w.query (w.done + 1 - 1)).key_info.value.octets
          (certificate_numbered w.query (w.done + 1)).tbs.octets (certificate_numbered w.query (w.done + 1)).signature.octets
      says =
          judged
          ∙ (ap (λ (signature : List ℕ). accepts v.verifier c.algorithm.value.octets key c.tbs.octets signature) same
          ∙ (ap (λ (p : Progress V). accepts p.verifier c.algorithm.value.octets key c.tbs.octets c.signature.octets) e
          ∙ (ap (λ (k : List ℕ). accepts w.verifier c.algorithm.value.octets k c.tbs.octets c.signature.octets) key_is
          ∙ ap (λ (d : Certificate). accepts w.verifier d.algorithm.value.octets (certificate_numbered w.query (w.done + 1 - 1)).key_info.value.octets d.tbs.octets d.signature.octets) here)))
