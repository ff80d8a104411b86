-- Who issued whom is recorded place by place, and turned round; of those, authorities are linked.
use Rattle.std.proofs.Common.{◌≡◌, ◌≢◌, ◌<◌, ◌≤◌, ◌+◌, ◌*◌, ℕ, List, [], ◌∷◌, ◌++◌, length, take, get_or, arith, ap, sym, ◌∙◌, subst, inl, inr, length-append}
use Rattle.std.specs.List.{All, Contains}
use Rattle.std.specs.List.Sorted.{IsStrictlyIncreasing}
use Rattle.std.proofs.lemmas.Bool.{cases_lt}
use Rattle.std.proofs.lemmas.List.Elements.{Contains-get_or}
use Rattle.std.proofs.Math.ListN.{get_or-append, get_or-eq_default}
use Rattle.std.proofs.Math.Nat.{mul-le-mul_right}
use Rattle.std.proofs.Math.Seq.{get_or-append_seam}
use Rattle.path.specs.Query.{Accepts}
use Rattle.path_issuers.specs.Asking.{ArePicked, IsSought}
use Rattle.path_issuers.specs.Links.{Links, issuers_of}
use Rattle.path_issuers.specs.Lists.{AreTurned, list_at}
use Rattle.path_issuers.specs.Naming.{IsNaming, IsUseful, named_by}
use Rattle.path_issuers.specs.Questions.{IsChainToTarget}
use Rattle.path_issuers.specs.Search.{Search}
use Rattle.path_issuers.specs.Upward.{AreAuthorityLinks, AreIssued, AreSigners, IsAuthorityAt, HasIssued}
use Rattle.path_issuers.specs.declared.asking.Sought.TheVariants.{IssuedBy}
use Rattle.path_issuers.specs.declared.naming.Naming.{Naming}
use Rattle.path_issuers.proofs.Picking.{picked_none}
use Rattle.path_issuers.proofs.Rising.{same_or_not}

-- a list that is put behind others

pub list_last : (lists : List (List ℕ)) (list : List ℕ) (place : ℕ) → place ≡ length lists → list_at (lists ++ list ∷ []) place ≡ list
list_last lists list place e = ap (λ (n : ℕ). list_at (lists ++ list ∷ []) n) e ∙ get_or-append_seam lists list [] []

pub list_earlier : (lists : List (List ℕ)) (list : List ℕ) (place : ℕ) → place ≢ length lists → list_at (lists ++ list ∷ []) place ≡ list_at lists place
list_earlier lists list place other =
    let size : length (lists ++ list ∷ []) ≡ length lists + 1 = length-append lists (list ∷ []) in
    elim (cases_lt place (length lists)) [
      | inl there ↦ get_or-append lists (list ∷ []) [] place there
      | inr behind ↦ get_or-eq_default (lists ++ list ∷ []) [] (omega arith) ∙ sym (get_or-eq_default lists [] behind)
    ]

-- what holds of each list, by its place, holds once one more stands behind
pub each_list : (Q : ℕ → List ℕ → Type 0) (lists : List (List ℕ)) (list : List ℕ) → Q (length lists) list → ((place : ℕ) → Q place (list_at lists place))
    → (place : ℕ) → Q place (list_at (lists ++ list ∷ []) place)
each_list Q lists list last others place =
    elim (same_or_not place (length lists)) [
      | inl e ↦ subst (λ (xs : List ℕ). Q place xs) (sym (list_last lists list place e)) (subst (λ (n : ℕ). Q n list) (sym e) last)
      | inr other ↦ subst (λ (xs : List ℕ). Q place xs) (sym (list_earlier lists list place other)) (others place)
    ]

-- how many questions there are

pub issuer_paid : (bag few place start old new : ℕ) → few ≤ bag + 1 → start ≤ old + place * (bag + 1) → old ≤ new + few → start ≤ new + (place + 1) * (bag + 1)
issuer_paid bag few place start old new le paid more = omega arith

pub issuer_unpaid : (bag few place start old : ℕ) → few ≤ bag + 1 → place < bag → start ≤ old + place * (bag + 1) → old < few → start < (bag + 1) * bag
issuer_unpaid bag few place start old le within paid none =
    let rows : (place + 1) * (bag + 1) ≤ bag * (bag + 1) = mul-le-mul_right (bag + 1) (omega arith) in
    omega (arith, rows)

module _ (accepts : Accepts) (s : Search) where
  module _ (naming : Naming) (is : IsNaming s naming) where
    -- whom one more issued
    module _ (bound : ℕ) (within : bound < length s.bag) (lists : List (List ℕ)) (found : List ℕ) (are : AreIssued accepts s naming bound lists)
        (picked : ArePicked (IsSought accepts s (IssuedBy bound)) (named_by naming bound) found) where
      found_each : (below : ℕ) → Contains found below → (below < length s.bag + 1) × HasIssued accepts s below bound
      found_each below among =
          let pass = picked.pass below among in
          (is.named_within below bound pass.0, record { there = within; issues = pass.1 })

      found_all : (below : ℕ) → below ≤ length s.bag → IsUseful naming below → HasIssued accepts s below bound → Contains found below
      found_all below low useful signer = picked.all below (is.named below bound low useful within signer.issues.named) signer.issues

      pub issued_more : AreIssued accepts s naming (bound + 1) (lists ++ found ∷ [])
      issued_more = record {
        count = length-append lists (found ∷ []) ∙ ap (λ (n : ℕ). n + 1) are.count;
        each = λ below place.
            each_list (λ p xs. Contains xs below → (below < length s.bag + 1) × HasIssued accepts s below p) lists found
            (subst (λ (n : ℕ). Contains found below → (below < length s.bag + 1) × HasIssued accepts s below n) (sym are.count) (found_each below))
            (λ p. are.each below p) place;
        all = λ below place before low useful signer. elim (same_or_not place (length lists)) [
          | inl e ↦
              subst (λ (xs : List ℕ). Contains xs below) (sym (list_last lists found place e))
              (found_all below low useful (subst (λ (n : ℕ). HasIssued accepts s below n) (e ∙ are.count) signer))
          | inr other ↦
              let count = are.count in
              subst (λ (xs : List ℕ). Contains xs below) (sym (list_earlier lists found place other))
              (are.all below place (elim (cases_lt place bound) [ inl earlier ↦ earlier | inr late ↦ absurd (other (omega (arith, count))) ]) low useful signer)
        ];
        ascending = each_list (λ p xs. IsStrictlyIncreasing xs) lists found (picked.ascending (is.named_ascend bound)) are.ascending;
      }

    pub issued_none : AreIssued accepts s naming 0 []
    issued_none = record {
      count = omega arith;
      each = λ below place among. absurd (omega (arith, among.1));
      all = λ below place before low useful signer. absurd (omega arith);
      ascending = λ place k within. absurd (omega arith);
    }

    -- the other way round

    module _ (issued : List (List ℕ)) (are : AreIssued accepts s naming (length s.bag) issued) where
      pub issued_within : (place : ℕ) → All (λ below. below < length s.bag + 1) (list_at issued place)
      issued_within place k d there = (are.each (get_or (list_at issued place) k d) place (Contains-get_or (list_at issued place) k d there)).0

      -- what leads to the target by names is useful
      useful_chain : (place : ℕ) (below : List ℕ) → IsChainToTarget s place below → (place ≤ length s.bag) × IsUseful naming place
      useful_chain place [] is_target = (omega (arith, is_target), subst (λ (n : ℕ). IsUseful naming n) (sym is_target) is.target)
      useful_chain place (next ∷ below) chain =
          let there : place < length s.bag = chain.0 in
          let rest = useful_chain next below chain.2 in
          (omega arith, is.above next place rest.0 rest.1 there chain.1)

      pub are_signers : (signers : List (List ℕ)) → AreTurned issued signers → AreSigners accepts s signers
      are_signers signers turned = record {
        each = λ below place among. (are.each below place (turned.places place below among).1).1;
        all = λ below place leads signer.
            let useful = useful_chain below leads.0 leads.1 in
            let count = are.count in
            let there = signer.there in
            turned.all place below (omega (arith, count, there)) (are.all below place there useful.0 useful.1 signer);
        ascending = turned.ascending;
      }

  -- the authorities among them

  module _ (signers : List (List ℕ)) (links : Links) (picked : (below : ℕ) → ArePicked (IsAuthorityAt s) (list_at signers below) (issuers_of links below))
      (are : AreSigners accepts s signers) where
    pub are_authority_links : AreAuthorityLinks accepts s links
    are_authority_links = record {
      issuers = λ below place among.
          let pass = (picked below).pass place among in
          let signer = are.each below place pass.0 in
          record { there = signer.there; authority = pass.1; issues = signer.issues };
      ascend = λ below. (picked below).ascending (are.ascending below);
      whole = λ below place leads issuer.
          (picked below).all place (are.all below place leads (record { there = issuer.there; issues = issuer.issues })) issuer.authority;
    }

-- places are picked list by list

pub picked_lists_more : (P : ℕ → Type 0) (bound : ℕ) (lists picked : List (List ℕ)) (list : List ℕ) → length picked ≡ bound
    → ArePicked P (list_at lists bound) list
    → ((below : ℕ) → below < bound → ArePicked P (list_at lists below) (list_at picked below))
    → (below : ℕ) → below < bound + 1 → ArePicked P (list_at lists below) (list_at (picked ++ list ∷ []) below)
picked_lists_more P bound lists picked list count last others below h =
    elim (same_or_not below (length picked)) [
      | inl e ↦
          subst (λ (xs : List ℕ). ArePicked P (list_at lists below) xs) (sym (list_last picked list below e))
          (subst (λ (n : ℕ). ArePicked P (list_at lists n) list) (sym (e ∙ count)) last)
      | inr other ↦
          subst (λ (xs : List ℕ). ArePicked P (list_at lists below) xs) (sym (list_earlier picked list below other))
          (others below (elim (cases_lt below bound) [ inl earlier ↦ earlier | inr late ↦ absurd (other (omega (arith, count))) ]))
    ]

-- of no list no place is picked
pub picked_lists : (P : ℕ → Type 0) (lists picked : List (List ℕ)) → length picked ≡ length lists
    → ((below : ℕ) → below < length lists → ArePicked P (list_at lists below) (list_at picked below))
    → (below : ℕ) → ArePicked P (list_at lists below) (list_at picked below)
picked_lists P lists picked count each below =
    elim (cases_lt below (length lists)) [
      | inl there ↦ each below there
      | inr behind ↦
          subst (λ (xs : List ℕ). ArePicked P xs (list_at picked below)) (sym (get_or-eq_default lists [] behind))
          (subst (λ (xs : List ℕ). ArePicked P [] xs) (sym (get_or-eq_default picked [] (omega (arith, count)))) (picked_none P))
    ]
