use Rattle.std.proofs.Common.{◌+◌, ◌<◌, ◌∙◌, Bool, ℕ, List, ap, sym, subst, map}
use Rattle.std.specs.List.{All}
use Rattle.path_issuers.specs.Lists.{ArePlacesByNumber, lists_of}
use Rattle.path_issuers.specs.Naming.{AreInUse, AreWanted, issuer_numbers, subject_number}
use Rattle.path_issuers.proofs.ByNumber.{is_naming, issuers_small, small_as, smaller_than_next, subjects_small, used_small}
use Rattle.path_issuers.proofs.naming.Naming.new.Goals as goal

pub wanted_names-requires-clause-subjects : goal.wanted_names-requires-clause-subjects
wanted_names-requires-clause-subjects c =
    let keys = c.in_ok-keys.keys.sorted in
    let bag = c.args.search.now.bag.now in
    small_as c.deref.result.now (map (subject_number keys.items) bag) _ _ (c.deref.ensures.value ∙ c.in_ok-subjects.ensures)
    (ap (λ (n : ℕ). n + 1) c.count-none.ensures) (subjects_small keys bag)

pub wanted_names-requires-clause-issuers : goal.wanted_names-requires-clause-issuers
wanted_names-requires-clause-issuers c =
    let keys = c.in_ok-keys.keys.sorted in
    let search = c.args.search.now in
    small_as c.deref-2.result.now (issuer_numbers keys.items search) _ _ (c.deref-2.ensures.value ∙ c.in_ok-issuers.ensures)
    (ap (λ (n : ℕ). n + 1) c.count-none.ensures) (issuers_small keys search)

pub places_by_number-requires : goal.places_by_number-requires
places_by_number-requires c =
    let keys = c.in_ok-keys.keys.sorted in
    let search = c.args.search.now in
    let none = c.count-none.result + 1 in
    let small =
    small_as c.deref-4.result.now (issuer_numbers keys.items search) none _ (c.deref-4.ensures.value ∙ c.in_ok-issuers.ensures)
    (ap (λ (n : ℕ). n + 1) c.count-none.ensures) (issuers_small keys search) in
    let used = used_small c.deref-3.result.now c.deref-4.result.now c.in_ok-used.used.items c.deref-5.result.now none small c.in_ok-used.ensures in
    subst (λ (xs : List ℕ). All (λ n. n < none + 1) xs) (sym c.deref-6.ensures.value) used

pub places_by_number-requires-2 : goal.places_by_number-requires-2
places_by_number-requires-2 c =
    let keys = c.in_ok-keys.keys.sorted in
    let anchors = c.args.search.now.anchors.now in
    smaller_than_next _ _
    (small_as c.deref-7.result.now (map (subject_number keys.items) anchors) _ _ (c.deref-7.ensures.value ∙ c.in_ok-anchors.ensures)
    (ap (λ (n : ℕ). n + 1) c.count-none.ensures) (subjects_small keys anchors))

pub returns : goal.returns
returns c =
    let keys = c.in_ok-keys.keys.sorted in
    let search = c.args.search.now in
    let none = c.count-none.result + 1 in
    let subjects = c.in_ok-subjects.subjects.items in
    let issuers = issuer_numbers keys.items search in
    let wanted = c.in_ok-wanted.wanted.items in
    let used = c.in_ok-used.used.items in
    let are =
    subst (λ (xs : List ℕ). AreWanted xs issuers wanted) c.deref.ensures.value
    (subst (λ (xs : List ℕ). AreWanted c.deref.result.now xs wanted) (c.deref-2.ensures.value ∙ c.in_ok-issuers.ensures) c.in_ok-wanted.ensures) in
    let in_use =
    subst (λ (xs : List ℕ). AreInUse xs issuers wanted none used) c.deref-3.ensures.value
    (subst (λ (xs : List ℕ). AreInUse c.deref-3.result.now xs wanted none used) (c.deref-4.ensures.value ∙ c.in_ok-issuers.ensures)
    (subst (λ (bs : List Bool). AreInUse c.deref-3.result.now c.deref-4.result.now bs none used) c.deref-5.ensures.value c.in_ok-used.ensures)) in
    is_naming c.key_laws.ensures.names keys search _ wanted c.in_ok-keys.ensures (ap (λ (n : ℕ). n + 1) c.count-none.ensures) c.in_ok-subjects.ensures are in_use
    (subst (λ (xs : List ℕ). ArePlacesByNumber xs (lists_of c.in_ok-places_by_number.field-0.items)) c.deref-6.ensures.value c.in_ok-places_by_number.ensures)
    (subst (λ (xs : List ℕ). ArePlacesByNumber xs (lists_of c.in_ok-places_by_number-2.field-0.items))
    (c.deref-7.ensures.value ∙ c.in_ok-anchors.ensures) c.in_ok-places_by_number-2.ensures)
