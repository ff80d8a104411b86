-- What is found of a certificate in a store.
use Rattle.std.specs.Prelude.{◌≡◌, ℕ, List, [], ◌∷◌, ◌++◌, map, Option, option_map}
use Rattle.std.specs.Borrow.{Bor}
use Rattle.std.specs.List.{flat_map}
use Rattle.sha1.specs.Sha1.{sha1}
use Rattle.asn.specs.Place.{body}
use Rattle.cert.specs.Certificate.{Certificate}
use Rattle.statements_facts.specs.Statement.{IssuerIdentity, CrlAnswer, Holdings, at_point}
use Rattle.statements_facts.specs.Answer.{seen_ocsp}
use Rattle.statements_facts.specs.declared.answer.CrlAnswer as listed
use Rattle.std.specs.Global.{Vec}
use Rattle.path.specs.Query.{Query}
use Rattle.relying_agreement.specs.Link.{Link, slots_under}
use Rattle.relying_agreement.specs.Status.{list_held, may_sign_crls}
use Rattle.relying_agreement.specs.Verdict.{evidence_on}
use Rattle.relying_agreement.specs.declared.verdict.Comparison.{Comparison}
use Rattle.statements_facts.specs.declared.answer.Answers.{Answers}
use Rattle.relying_verdicts.specs.Difference.{ComparesEvidence}
use Rattle.relying_verdicts.specs.declared.looking.ListsAtPoints.{ListsAtPoints}
use Rattle.relying_search.specs.View.{seen_evidence, seen_lists}
use Rattle.relying_search.specs.declared.evidence.Evidence as known

-- both lists of an issuer, in the order of their slots
abbrev pub lists_in : Answers → List (Option CrlAnswer)
lists_in answers = seen_lists (answers.all ∷ answers.own ∷ [])

abbrev pub lists_held_under : Holdings → Certificate → IssuerIdentity → List (Option CrlAnswer)
lists_held_under held certificate issuer = map (list_held held (body certificate.serial)) (slots_under certificate issuer)

-- both lists and the response, as they speak of a certificate
pub record AreAnswersOn (issuer : IssuerIdentity) (certificate : Certificate) (held : Holdings) (answers : Answers) : Type 0 where
  pub lists : lists_in answers ≡ lists_held_under held certificate issuer
  pub ocsp :
      option_map seen_ocsp answers.ocsp
      ≡ held.ocsp (record { issuer = issuer; name_hash = sha1 certificate.issuer.octets; serial = body certificate.serial })

-- the lists that the issuer publishes at these points, as they speak of a certificate
abbrev pub AreListsAt : IssuerIdentity → Certificate → List (List ℕ) → Holdings → List (Option listed.CrlAnswer) → Type 0
AreListsAt issuer certificate points held lists =
    seen_lists lists ≡ flat_map (λ point. lists_held_under held certificate (at_point point issuer)) points

abbrev pub AreFoundAt : IssuerIdentity → Certificate → List (Bor (List ℕ)) → Holdings → Vec (Option listed.CrlAnswer) → Type 0
AreFoundAt issuer certificate points held lists =
    AreListsAt issuer certificate (map (λ (point : Bor (List ℕ)). point.now) points) held lists.items

-- those at its complete points, and those at its limited ones
pub record AreListsAtPoints (issuer : IssuerIdentity) (certificate : Certificate) (held : Holdings) (found : ListsAtPoints) : Type 0 where
  pub complete : AreListsAt issuer certificate certificate.points.complete held found.complete.items
  pub limited : AreListsAt issuer certificate certificate.points.limited held found.limited.items

-- what bears on a certificate: what both lists say, and then those at its points, and the response
abbrev pub IsAssembled : Link → Answers → ListsAtPoints → known.Evidence → Type 0
IsAssembled link answers at_points it =
    seen_evidence it
    ≡ (record {
      number = link.number;
      may_sign_crls = may_sign_crls link;
      answers = record {
        lists = lists_in answers ++ seen_lists at_points.complete.items;
        limited = seen_lists at_points.limited.items;
        ocsp = option_map seen_ocsp answers.ocsp;
      };
    })

-- what a comparison says of the evidence on a path in two stores
abbrev pub ComparesHeld : Query → Holdings → Holdings → Comparison → Type 0
ComparesHeld query one other = ComparesEvidence query.moment (evidence_on one query) (evidence_on other query)
