-- A revocation that is held is never hidden: a list at any point of a certificate is among those that may revoke it.
use Rattle.std.proofs.Common.{ℕ, zero, suc, List, [], ◌∷◌, ◌++◌, Contains, arith, sym, subst, inl, inr}
use Rattle.std.specs.List.{flat_map}
use Rattle.std.proofs.lemmas.List.Elements.{All-contains, All-from_recursion, Contains-append_cases, Contains-append_left, Contains-append_right}
use Rattle.statements_facts.specs.Statement.{CrlSlot, at_point}
use Rattle.statements.specs.Issuer.{identity_of}
use Rattle.relying_agreement.specs.Link.{Link, complete_slots_of, crl_slots_of, limited_slots_of, links_of, slots_at, slots_under}
use Rattle.relying_agreement.specs.Verdict.{HeldRevocationCounts, IsClear}
use Rattle.relying_agreement.proofs.ValidLaws.{valid_exactly_where}

among_flat : {A B : Type 0} (g : A → List B) (xs : List A) (x : A) (y : B) → Contains xs x → Contains (g x) y → Contains (flat_map g xs) y
among_flat g [] x y (k, within, found) is = absurd (omega (arith, within))
among_flat g (z ∷ xs) x y (zero, within, found) is =
    Contains-append_left (g z) (flat_map g xs) y (subst (λ other. Contains (g other) y) (sym found) is)
among_flat g (z ∷ xs) x y (suc k, within, found) is =
    Contains-append_right (g z) (flat_map g xs) y (among_flat g xs x y (k, omega (arith, within), found) is)

there : (link : Link) (point : List ℕ) (slot : CrlSlot)
    → Contains (link.certificate.points.complete ++ link.certificate.points.limited) point
    → Contains (slots_under link.certificate (at_point point (identity_of link.issuer))) slot → Contains (crl_slots_of link) slot
there link point slot at under =
    let issuer = identity_of link.issuer in
    let points = link.certificate.points in
    let under_it : List ℕ → List CrlSlot = λ other. slots_under link.certificate (at_point other issuer) in
    elim (Contains-append_cases points.complete points.limited point at) [
      | inl complete ↦ Contains-append_left (complete_slots_of link) (limited_slots_of link) slot
          (Contains-append_right (slots_under link.certificate issuer) (slots_at points.complete link.certificate issuer) slot
          (among_flat under_it points.complete point slot complete under))
      | inr limited ↦ Contains-append_right (complete_slots_of link) (limited_slots_of link) slot (among_flat under_it points.limited point slot limited under)
    ]

pub held_revocation_counts : HeldRevocationCounts
held_revocation_counts accepts query held link point slot among at under lists = λ valid.
    let all = ((valid_exactly_where accepts query held).0 valid).1 in
    let clear = All-contains (IsClear held query.moment) (links_of query) link (All-from_recursion (IsClear held query.moment) (links_of query) all) among in
    let is = there link point slot at under in
    clear.not_revoked (inl (is.0, slot, is.1, is.2, lists))
