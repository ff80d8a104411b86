-- What bears on a certificate, by what was found in its slots.
use Rattle.std.proofs.Common.{◌≡◌, ℕ, Bool, List, [], ◌∷◌, ◌++◌, map, Option, None, option_map, filter_map, sym, ap, ◌∙◌, append-nil, append_assoc}
use Rattle.std.specs.List.{flat_map}
use Rattle.std.proofs.lemmas.List.{map-append}
use Rattle.asn.specs.Place.{body}
use Rattle.statements_facts.specs.Fact.{Fact}
use Rattle.statements_facts.specs.Statement.{IssuerIdentity, CrlSlot, CrlAnswer, OcspFact, answer_for, at_point}
use Rattle.statements_facts.specs.Answer.{seen_crl}
use Rattle.statements_facts.specs.declared.answer.CrlAnswer as listed
use Rattle.statements_facts.specs.Coming.{crl_for, ocsp_for}
use Rattle.statements_facts.proofs.Laws.{crls_keep_newest, responses_keep_newest}
use Rattle.statements.specs.Issuer.{identity_of}
use Rattle.relying_agreement.specs.Link.{Link, complete_slots_of, limited_slots_of, links_of, ocsp_slot_for, slots_under}
use Rattle.relying_agreement.proofs.Laws.{place_by_place, point_by_point}
use Rattle.relying_agreement.specs.Status.{Evidence, evidence_of, may_sign_crls, list_held}
use Rattle.relying_agreement.specs.Verdict.{verdict_by}
use Rattle.relying_agreement.specs.declared.verdict.Verdict.{Verdict}
use Rattle.path.specs.Query.{Query, Accepts}
use Rattle.cert.specs.Certificate.{Certificate}
use Rattle.statements.specs.Statement.{Statement}
use Rattle.relying_texts.specs.Texts.{facts_told, evidence_told}
use Rattle.relying_search.specs.View.{seen_lists}
use Rattle.relying_texts.specs.Told.{complete_lists_told, limited_lists_told, list_told, response_told}
use Rattle.relying_texts.specs.View.{held_of}

-- the newest of the facts of a slot is what is held there
told_is_held : (facts : List Fact) (serial : List ℕ) (slot : CrlSlot) → list_told facts serial slot ≡ list_held (held_of facts) serial slot
told_is_held facts serial slot = ap (option_map (answer_for serial)) (crls_keep_newest.held None (filter_map (crl_for slot) facts))

-- no octets behind the key of the issuer's name: it is the issuer itself
anywhere : (issuer : IssuerIdentity) → at_point [] issuer ≡ issuer
anywhere issuer = λ i. record { name = append-nil issuer.name i; key_info = issuer.key_info }

complete_are : (facts : List Fact) (link : Link)
    → complete_lists_told facts link ≡ map (list_held (held_of facts) (body link.certificate.serial)) (complete_slots_of link)
complete_are facts link =
    let serial = body link.certificate.serial in
    let issuer = identity_of link.issuer in
    (λ i. map (λ slot. told_is_held facts serial slot i) (slots_under link.certificate (anywhere issuer i))
    ++ flat_map (λ point. map (λ slot. told_is_held facts serial slot i) (slots_under link.certificate (at_point point issuer))) link.certificate.points.complete)
    ∙ sym (place_by_place (list_held (held_of facts) serial) issuer link.certificate)

limited_are : (facts : List Fact) (link : Link)
    → limited_lists_told facts link ≡ map (list_held (held_of facts) (body link.certificate.serial)) (limited_slots_of link)
limited_are facts link =
    let serial = body link.certificate.serial in
    let issuer = identity_of link.issuer in
    (λ i. flat_map (λ point. map (λ slot. told_is_held facts serial slot i) (slots_under link.certificate (at_point point issuer))) link.certificate.points.limited)
    ∙ sym (point_by_point (list_held (held_of facts) serial) link.certificate.points.limited issuer link.certificate)

pub bears : (facts : List Fact) (link : Link) (may : Bool) (lists limited : List (Option CrlAnswer)) (ocsp : Option OcspFact)
    → may ≡ may_sign_crls link → lists ≡ complete_lists_told facts link → limited ≡ limited_lists_told facts link → ocsp ≡ response_told facts link
    → ◌≡◌ {A = Evidence} (record { number = link.number; may_sign_crls = may; answers = record { lists = lists; limited = limited; ocsp = ocsp } }) (evidence_of (held_of facts) link)
bears facts link may lists limited ocsp may_is lists_told_are limited_told_are ocsp_is =
    let lists_held = lists_told_are ∙ complete_are facts link in
    let limited_held = limited_told_are ∙ limited_are facts link in
    let response_held : ocsp ≡ (held_of facts).ocsp (ocsp_slot_for link) = ocsp_is ∙ responses_keep_newest.held None (filter_map (ocsp_for (ocsp_slot_for link)) facts) in
    λ i. record { number = link.number; may_sign_crls = may_is i; answers = record { lists = lists_held i; limited = limited_held i; ocsp = response_held i } }

-- the verdict by what was gathered is that by what the statements tell
pub decided : (accepts : Accepts) (query : Query) (statements : List Statement) (facts : List Fact) (links : List Link) (issuers : List Certificate) (verdict : Verdict)
    → facts ≡ facts_told accepts issuers statements → issuers ≡ map (λ (link : Link). link.issuer) links → links ≡ links_of query
    → verdict ≡ verdict_by query.moment (map (evidence_of (held_of facts)) links)
    → verdict ≡ verdict_by query.moment (evidence_told accepts query statements)
decided accepts query statements facts links issuers verdict facts_are issuers_are links_are is =
    is
    ∙ ap (λ told. verdict_by query.moment (map (evidence_of (held_of told)) links)) (facts_are ∙ ap (λ names. facts_told accepts names statements) issuers_are)
    ∙ ap (λ all. verdict_by query.moment (map (evidence_of (held_of (facts_told accepts (map (λ (link : Link). link.issuer) all) statements))) all)) links_are

-- two lists were added
pub both_added : (lists mid new : List (Option listed.CrlAnswer)) (a b : Option listed.CrlAnswer) (x y : Option CrlAnswer)
    → mid ≡ lists ++ a ∷ [] → new ≡ mid ++ b ∷ [] → option_map seen_crl a ≡ x → option_map seen_crl b ≡ y
    → seen_lists new ≡ seen_lists lists ++ x ∷ y ∷ []
both_added lists mid new a b x y mid_is new_is is_x is_y =
    let s : Option listed.CrlAnswer → Option CrlAnswer = λ crl. option_map seen_crl crl in
    ap seen_lists (new_is ∙ ap (λ l. l ++ b ∷ []) mid_is)
    ∙ map-append s (lists ++ a ∷ []) (b ∷ [])
    ∙ ap (λ l. l ++ s b ∷ []) (map-append s lists (a ∷ []))
    ∙ append_assoc (map s lists) (s a ∷ []) (s b ∷ [])
    ∙ (λ i. map s lists ++ is_x i ∷ is_y i ∷ [])
