-- The keys of all names that are compared are gathered one after the other, and put in order.
use Rattle.std.proofs.Common.{◌≡◌, ◌<◌, ℕ, List, [], ◌∷◌, ◌++◌, length, map, get_or, ap, sym, ◌∙◌, subst}
use Rattle.std.specs.Global.{Vec}
use Rattle.std.specs.List.{Contains}
use Rattle.std.specs.List.Sorted.{IsPermutation}
use Rattle.std.proofs.lemmas.List.{map-append}
use Rattle.std.proofs.lemmas.List.Elements.{Contains-get_or, Contains-append_left, Contains-append_right, Contains-push}
use Rattle.std.proofs.lemmas.List.Sorted.{Contains-permutation}
use Rattle.cert.specs.declared.certificate.Certificate.{Certificate}
use Rattle.path_issuers.specs.Keys.{HasKey}
use Rattle.path_issuers.specs.Lists.{lists_of}
use Rattle.path_issuers.specs.Naming.{AddsKeys, HasKeysOf, issuer_key, subject_key}
use Rattle.path_issuers.specs.declared.search.Search as code
use Rattle.path_issuers.proofs.Joining.{among_map, map_has}

abbrev items : Vec ℕ → List ℕ
items key = key.items

one_key_more : (old new : List (Vec ℕ)) (key : Vec ℕ) → new ≡ old ++ key ∷ [] → lists_of new ≡ lists_of old ++ key.items ∷ []
one_key_more old new key is = ap lists_of is ∙ map-append items old (key ∷ [])

still_there : (f : Certificate → List ℕ) (certificates : List Certificate) (old new : List (Vec ℕ)) → AddsKeys f certificates old new
    → (key : List ℕ) → HasKey old key → HasKey new key
still_there f certificates old new adds key has =
    subst (λ (xs : List (List ℕ)). Contains xs key) (sym adds) (Contains-append_left (lists_of old) (map f certificates) key has)

now_there : (f : Certificate → List ℕ) (certificates : List Certificate) (old new : List (Vec ℕ)) → AddsKeys f certificates old new
    → (place : ℕ) (d : Certificate) → place < length certificates → HasKey new (f (get_or certificates place d))
now_there f certificates old new adds place d there =
    let c = get_or certificates place d in
    subst (λ (xs : List (List ℕ)). Contains xs (f c)) (sym adds)
    (Contains-append_right (lists_of old) (map f certificates) (f c) (map_has f certificates c (Contains-get_or certificates place d there)))

in_order_too : (old new : List (Vec ℕ)) → IsPermutation old new → (key : List ℕ) → HasKey old key → HasKey new key
in_order_too old new same key has =
    let at = among_map items old key has in
    subst (λ (k : List ℕ). Contains (lists_of new) k) at.2 (map_has items new at.0 (Contains-permutation old new at.0 same at.1))

pub has_keys : (search : code.Search) (none anchors subjects issuers all sorted : List (Vec ℕ)) (last : Vec ℕ)
    → AddsKeys subject_key search.anchors.now none anchors → AddsKeys subject_key search.bag.now anchors subjects
    → AddsKeys issuer_key search.bag.now subjects issuers → all ≡ issuers ++ last ∷ [] → last.items ≡ issuer_key search.target.now
    → IsPermutation all sorted → HasKeysOf search sorted
has_keys search none anchors subjects issuers all sorted last first second third is target same =
    let whole : lists_of all ≡ lists_of issuers ++ last.items ∷ [] = one_key_more issuers all last is in
    let from_issuers = λ (key : List ℕ) (has : HasKey issuers key).
    in_order_too all sorted same key
    (subst (λ (xs : List (List ℕ)). Contains xs key) (sym whole) (Contains-append_left (lists_of issuers) (last.items ∷ []) key has)) in
    let from_subjects = λ (key : List ℕ) (has : HasKey subjects key). from_issuers key (still_there issuer_key search.bag.now subjects issuers third key has) in
    let from_anchors = λ (key : List ℕ) (has : HasKey anchors key). from_subjects key (still_there subject_key search.bag.now anchors subjects second key has) in
    let last_there = subst (λ (xs : List (List ℕ)). Contains xs last.items) (sym whole) (Contains-push (lists_of issuers) last.items) in
    record {
      anchors = λ place d there. from_anchors _ (now_there subject_key search.anchors.now none anchors first place d there);
      subjects = λ place d there. from_subjects _ (now_there subject_key search.bag.now anchors subjects second place d there);
      issuers = λ place d there. from_issuers _ (now_there issuer_key search.bag.now subjects issuers third place d there);
      target = subst (λ (key : List ℕ). HasKey sorted key) target (in_order_too all sorted same last.items last_there);
    }
