use Rattle.std.proofs.Common.{◌≡◌, [], ◌∷◌, ℕ, List, Some, refl, sym, ◌∙◌, ap, subst, inl}
use Rattle.std.proofs.lemmas.List.{nil_from_length}
use Rattle.std.proofs.lemmas.List.Sums.{AllPass-from_list_all, list_all-from_AllPass}
use Rattle.names_hosts.specs.Uri.{IsCut, is_user_octet, IsBehindUser}
use Rattle.names_hosts.proofs.UriTexts.{no_user_at, user_at_sign, behind_at_sign, found_if, some_if}
use Rattle.names_hosts.proofs.uris.behind_user.Goals as goal

pub returns-in-None-clause-reads : goal.returns-in-None-clause-reads
returns-in-None-clause-reads c = record { user = []; joined = refl; is_user = inl refl }

pub returns-in-None-clause-accepts : goal.returns-in-None-clause-accepts
returns-in-None-clause-accepts c = λ rest none b.
    let authority = c.args.authority.now in
    let front = c.cut.result.0.now in
    let empty : c.cut.result.1.now ≡ [] = nil_from_length c.cut.result.1.now c.in-None.ensures.cases in
    ap Some (no_user_at authority rest front b (subst (λ (l : List ℕ). IsCut (64 ∷ []) authority front l) empty c.cut.ensures))

pub returns-in-Some-clause-reads : goal.returns-in-Some-clause-reads
returns-in-Some-clause-reads c =
    let authority = c.args.authority.now in
    let front = c.cut.result.0.now in
    let cut = subst (λ (l : List ℕ). IsCut (64 ∷ []) authority front l) c.in-Some.ensures.cases.0 c.cut.ensures in
    rw (c.then_some.ensures) (found_if (IsBehindUser authority) c.has_user_octets.result c.in-Some.rest
    (λ t. behind_at_sign authority front c.in-Some.rest.now c.in-Some.field-0-0.now
    (AllPass-from_list_all is_user_octet front (sym c.has_user_octets.ensures ∙ t)) cut))

pub returns-in-Some-clause-accepts : goal.returns-in-Some-clause-accepts
returns-in-Some-clause-accepts c = λ rest none b.
    let authority = c.args.authority.now in
    let front = c.cut.result.0.now in
    let cut = subst (λ (l : List ℕ). IsCut (64 ∷ []) authority front l) c.in-Some.ensures.cases.0 c.cut.ensures in
    let parts = user_at_sign authority rest front c.in-Some.rest.now c.in-Some.field-0-0.now none b cut in
    rw (c.then_some.ensures) (some_if c.has_user_octets.result c.in-Some.rest rest
    (c.has_user_octets.ensures ∙ list_all-from_AllPass is_user_octet front parts.0) parts.1)
