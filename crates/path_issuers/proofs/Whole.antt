-- What was recorded are links: each says who issued whom, and none of a valid path is missing.
use Rattle.std.proofs.Common.{◌≡◌, ◌<◌, ◌≤◌, ◌+◌, ◌*◌, ℕ, List, Option, Some, None, Result, Ok, Err, length, get_or, arith, subst, IfOk}
use Rattle.std.specs.List.{All, Contains}
use Rattle.std.proofs.lemmas.List.Elements.{Contains-get_or}
use Rattle.path.specs.Query.{Accepts}
use Rattle.path_issuers.specs.Asking.{count_pairs}
use Rattle.path_issuers.specs.Asking.{AreAnchors, AreReached, IsWithin, SeesAnchored}
use Rattle.path_issuers.specs.Frontier.{IsSeen}
use Rattle.path_issuers.specs.Links.{Links, AreLinks, IsIssuer, issuers_of}
use Rattle.path_issuers.specs.Lists.{AreTurned, list_at}
use Rattle.path_issuers.specs.Naming.{IsNaming, IsUseful}
use Rattle.path_issuers.specs.Search.{Search}
use Rattle.path_issuers.specs.declared.frontier.Frontier.{Frontier}
use Rattle.path_issuers.specs.declared.naming.Naming.{Naming}
use Rattle.path_issuers.proofs.Chaining.{leads_up}

module _ (accepts : Accepts) (s : Search) (naming : Naming) (start : Frontier) (issued : List (List ℕ))
    (reached : AreReached accepts s naming start issued) where
  pub issued_within : (place : ℕ) → All (λ below. below < length s.bag + 1) (list_at issued place)
  issued_within place k d there = (reached.each (get_or (list_at issued place) k d) place (Contains-get_or (list_at issued place) k d there)).0

  module _ (is : IsNaming s naming) (links : Links) (are : AreAnchors accepts s naming (length s.bag + 1) links.anchors)
      (sees : SeesAnchored (length s.bag) links.anchors start) (turned : AreTurned issued links.issuers) where
    linked : (below place : ℕ) → IsIssuer accepts s below place → Contains (list_at issued place) below → Contains (issuers_of links below) place
    linked below place issuer among =
        let count = reached.count in
        let there = issuer.there in
        turned.all place below (omega (arith, count, there)) among

    pub are_links : AreLinks accepts s links
    are_links = record {
      issuers = λ below place among. (reached.each below place (turned.places place below among).1).1;
      anchors = are.each;
      issuers_ascend = turned.ascending;
      anchors_ascend = are.ascending;
      whole = leads_up accepts s links (IsUseful naming) (IsSeen reached.last) is.above
          (λ below anchor within useful issuer. are.all below anchor (omega arith) useful issuer)
          (λ place anchor there among. reached.kept place (sees place anchor there among))
          (λ below place within useful seen issuer.
          let found = reached.all below place within useful seen issuer in
          (linked below place issuer found.0, found.1))
          is.target;
    }

-- the questions are as many as the pairs, at most

pub anchors_unpaid : (s : Search) (signatures bag anchors : ℕ) → bag ≡ length s.bag → anchors ≡ length s.anchors → signatures < (bag + 1) * anchors
    → signatures < count_pairs s
anchors_unpaid s signatures bag anchors same other less =
    let named : signatures < (length s.bag + 1) * length s.anchors =
    subst (λ (n : ℕ). signatures < (n + 1) * length s.anchors) same (subst (λ (m : ℕ). signatures < (bag + 1) * m) other less) in
    omega (arith, named)

pub all_unpaid : (s : Search) (signatures left bag anchors : ℕ) → bag ≡ length s.bag → anchors ≡ length s.anchors → signatures ≤ left + (bag + 1) * anchors
    → left < (bag + 1) * bag → signatures < count_pairs s
all_unpaid s signatures left bag anchors same other paid less =
    let few : signatures ≤ left + (length s.bag + 1) * length s.anchors =
    subst (λ (n : ℕ). signatures ≤ left + (n + 1) * length s.anchors) same (subst (λ (m : ℕ). signatures ≤ left + (bag + 1) * m) other paid) in
    let none : left < (length s.bag + 1) * length s.bag = subst (λ (n : ℕ). left < (n + 1) * n) same less in
    omega (arith, few, none)

pub none_if_unpaid : {X E : Type 0} (s : Search) (signatures left new bag anchors : ℕ) → bag ≡ length s.bag → anchors ≡ length s.anchors
    → signatures ≤ left + (bag + 1) * anchors → (r : Result (Option X) E) → IfOk r (λ found. IsWithin ((bag + 1) * bag) left new found)
    → IfOk r (λ found. found ≡ None → signatures < count_pairs s)
none_if_unpaid s signatures left new bag anchors same other paid (Ok (Some x)) within = λ none. cc
none_if_unpaid s signatures left new bag anchors same other paid (Ok None) within = λ none. all_unpaid s signatures left bag anchors same other paid within
none_if_unpaid s signatures left new bag anchors same other paid (Err e) within = within
