-- What the facts that statements tell say of a certificate, slot by slot.
use Rattle.std.specs.Prelude.{ℕ, List, [], ◌++◌, map, Option, None, option_map}
use Rattle.std.specs.Borrow.{Bor}
use Rattle.std.specs.List.{filter_map, flat_map}
use Rattle.cert.specs.Place.{body}
use Rattle.statements_facts.specs.Fact.{Fact}
use Rattle.statements_facts.specs.Statement.{CrlAnswer, CrlSlot, OcspFact, answer_for, at_point}
use Rattle.statements_facts.specs.Coming.{crl_for, ocsp_for}
use Rattle.statements_facts.specs.Newest.{held_after, newer_crl, newer_ocsp}
use Rattle.statements.specs.Issuer.{identity_of}
use Rattle.relying_agreement.specs.Link.{Link, ocsp_slot_for, slots_under}

-- the newest list of a slot, and its entry for one serial number
abbrev pub list_told : List Fact → List ℕ → CrlSlot → Option CrlAnswer
list_told facts serial slot = option_map (answer_for serial) (held_after newer_crl None (filter_map (crl_for slot) facts))

-- of both scopes, published at a point; no octets stand for anywhere
abbrev pub lists_told : List Fact → Link → List ℕ → List (Option CrlAnswer)
lists_told facts link point =
    map (list_told facts (body link.certificate.serial)) (slots_under link.certificate (at_point point (identity_of link.issuer)))

-- at each of these points
abbrev pub lists_told_at : List Fact → Link → List (List ℕ) → List (Option CrlAnswer)
lists_told_at facts link points = flat_map (lists_told facts link) points

-- anywhere, and at the complete points of the certificate
abbrev pub complete_lists_told : List Fact → Link → List (Option CrlAnswer)
complete_lists_told facts link = lists_told facts link [] ++ lists_told_at facts link link.certificate.points.complete

-- at its limited points
abbrev pub limited_lists_told : List Fact → Link → List (Option CrlAnswer)
limited_lists_told facts link = lists_told_at facts link link.certificate.points.limited

-- the points that the code has at hand
abbrev pub point_names : List (Bor (List ℕ)) → List (List ℕ)
point_names points = map (λ point. point.now) points

abbrev pub response_told : List Fact → Link → Option OcspFact
response_told facts link = held_after newer_ocsp None (filter_map (ocsp_for (ocsp_slot_for link)) facts)
